use Rattle.std.proofs.Common.{◌≡◌, ◌-◌, length, find}
use Rattle.std.specs.List.{range_with_len}
use Rattle.flow_spec.specs.Scan.{stands_at, first_occurrence}
use Rattle.stream_scan.proofs.plain.first_occurrence.Given as goal

abbrev pub invariant-loop-at : goal.invariant-loop-at
invariant-loop-at l = first_occurrence l.needle l.bytes ≡ find (stands_at l.needle l.bytes) (range_with_len l.at (length l.bytes - l.at))
