use Rattle.std.proofs.Common.{◌≡◌, length}
use Rattle.lane_table.specs.Starts.{IsFullFrom}
use Rattle.lane_table.proofs.start.full_slots.Given as goal

abbrev pub invariant-loop-i : goal.invariant-loop-i
invariant-loop-i l = record { count : length l.slots.items ≡ l.i; full : IsFullFrom l.bytes 0 l.slots.items }
