-- What a search knows.
use Rattle.std.specs.Prelude.{ℕ, ◌≡◌, ◌-◌, List, length}
use Rattle.brick_spec.specs.Stream.{StreamSegment, reassembly, bytes_of}
use Rattle.flow_spec.specs.Scan.{first_occurrence}
use Rattle.stream_scan.specs.declared.search.Search.{Search}
use Rattle.stream_scan.specs.LastBytes.{last_bytes}

-- these are the bytes that were searched
pub record Searched (s : Search) (bytes : List ℕ) : Type 0 where
  pub count : s.searched ≡ length bytes
  pub tail : s.tail.items ≡ last_bytes (length s.needle.items - 1) bytes
  pub found : s.found ≡ first_occurrence s.needle.items bytes

-- of the stream of these segments, the bytes below a position were searched
abbrev pub SearchedTo : Search → List StreamSegment → ℕ → Type 0
SearchedTo s segments reach = Searched s (bytes_of (reassembly reach segments).payloads 0 s.searched)
