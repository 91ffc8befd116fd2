use Rattle.std.proofs.Common.{◌≡◌, ◌∙◌, ◌++◌, map, refl, ap}
use Rattle.brick_spec.specs.GroupOutput.{in_key_order}
use Rattle.work_core.specs.Result.{items_view}
use Rattle.chain_nodes.proofs.Ends.{results_answer}
use Rattle.chain_nodes.proofs.work.NodeWork.take_results.Goals as goal

pub returns-clause-answer : goal.returns-clause-answer
returns-clause-answer g c =
    let n = g.N.Node in
    let w = c.args.self in
    results_answer n.stands n.makes n.results n.serves g.met.N.Node.more g.met.N.Node.holds w (map items_view c.in_ok-groups.groups.items) c.nine-drops.result
    (c.in_ok-groups.ensures ∙ ap (λ xs. map items_view xs ++ map in_key_order (n.results w.root)) c.new.ensures.items) c.nine-drops.ensures.same c.nine-drops.ensures.long
