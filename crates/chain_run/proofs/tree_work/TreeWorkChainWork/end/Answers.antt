use Rattle.std.proofs.Common.{◌∙◌}
use Rattle.chain_run.proofs.tree_work.TreeWorkChainWork.end.Goals as goal

pub returns : goal.returns
returns g c =
    let t = c.end.ensures in
    record { same = λ p h. (t.same ∙ h.0, t.many ∙ h.1); over = t.ended; stays_broken = t.stays_failed; goes = t.stands_for }
