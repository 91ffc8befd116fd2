-- What a contract sees of a scan, and the segments that it stands for.
use Rattle.std.specs.Prelude.{ℕ, ◌≡◌, ◌+◌, ◌-◌, ◌*◌, ◌%◌, ◌≤◌, List, length, Option, None}
use Rattle.brick_spec.specs.Stream.{StreamSegment, reassembly}
use Rattle.flow_spec.specs.FlowStream.{bytes_in_order}
use Rattle.flow_spec.specs.Scan.{first_occurrence}
use Rattle.window_stream.specs.StreamModel.{StreamModel, StandsFor}
use Rattle.stream_scan.specs.LastBytes.{last_bytes}

-- `found` is the position at which the needle first stands. The bytes of the stream below `searched` were searched, and
-- `tail` has the last of them.
pub record ScanModel : Type 0 where
  pub needle : List ℕ
  pub found : Option ℕ
  pub tail : List ℕ
  pub searched : ℕ
  pub stream : StreamModel

-- what is still known where the needle was not found
pub record GoesOn (s : ScanModel) (segments : List StreamSegment) : Type 0 where
  pub stream : StandsFor s.stream segments
  pub tail : s.tail ≡ last_bytes (length s.needle - 1) (bytes_in_order (reassembly s.stream.reach segments))

-- The segments so far may have been these.
pub record ScansFor (s : ScanModel) (segments : List StreamSegment) : Type 0 where
  pub found : s.found ≡ first_occurrence s.needle (bytes_in_order (reassembly s.stream.reach segments))
  pub goes_on : s.found ≡ None → GoesOn s segments

-- true of each scan
pub record IsScan (s : ScanModel) : Type 0 where
  pub windows : s.stream.size ≡ 1460
  pub dropped : s.stream.dropped ≡ s.stream.ready - s.stream.ready % 1460
  pub searched : s.searched ≡ s.stream.ready

-- what no segment changes
abbrev pub IsSameScan : ScanModel → ScanModel → Type 0
IsSameScan old new = (new.needle ≡ old.needle) × (new.stream.reach ≡ old.stream.reach)

-- What is kept of the stream is at most twice the reach and two windows, and of the bytes that were searched less than
-- the needle has.
abbrev pub IsSmall : ScanModel → Type 0
IsSmall s = (length s.stream.held ≤ 2 * (s.stream.reach + 1460)) × (length s.tail + 1 ≤ length s.needle)
