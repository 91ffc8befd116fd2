use Rattle.std.proofs.Common.{◌∙◌}
use Rattle.chain_run.proofs.tree_work.TreeWorkChainWork.turn.Goals as goal

pub returns-clause-took : goal.returns-clause-took
returns-clause-took g c =
    let t = c.turn.ensures.turned in
    record { buffers = t.buffers; same = λ p h. (t.same ∙ h.0, t.many ∙ h.1); stays_ready = (t.ready, t.none_left); still = t.ended; stays_broken = t.stays_failed; goes = t.stands_for }
