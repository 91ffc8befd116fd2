use Rattle.std.proofs.Common.{◌≡◌, length}
use Rattle.batch_ops.specs.Outlet.{IsEmptied}
use Rattle.library_example.proofs.take_all.Given as goal

-- each record has a class, and the operator can be used
abbrev pub invariant-loop-number : goal.invariant-loop-number
invariant-loop-number g l =
    (length l.classes.items ≡ length l.capture.entries) × (l.number-end ≡ length l.capture.entries) × IsEmptied l.out
    × g.O.Operator.meaning.ready l.operator × (g.O.Operator.meaning.spares l.operator ≡ 0) × (g.O.Operator.meaning.least_room l.operator ≡ 0)
