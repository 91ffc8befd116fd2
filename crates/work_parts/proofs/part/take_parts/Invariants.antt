use Rattle.std.proofs.Common.{◌≡◌, false}
use Rattle.std.specs.List.{AllByRecursion}
use Rattle.work_parts.specs.Works.{AreResultsOf}
use Rattle.work_parts.proofs.part.take_parts.Given as goal

abbrev pub invariant-loop-work : goal.invariant-loop-work
invariant-loop-work g l =
    let w = g.W.ChainWork in
    AreResultsOf w.follows w.stands w.answer l.records l.yielded l.parts.items × AllByRecursion (λ work. w.broken work ≡ false) l.yielded
