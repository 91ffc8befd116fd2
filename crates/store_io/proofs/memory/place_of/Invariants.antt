use Rattle.std.proofs.Common.{◌≡◌, None, take}
use Rattle.store_io.specs.Memory.{held}
use Rattle.store_io.proofs.memory.place_of.Given as goal

abbrev pub invariant-loop-i : goal.invariant-loop-i
invariant-loop-i l = held (take l.i l.files) l.name ≡ None
