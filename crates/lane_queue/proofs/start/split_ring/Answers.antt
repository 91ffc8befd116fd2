use Rattle.std.proofs.Common.{ap, ◌∙◌}
use Rattle.lane_queue.specs.RingRule.{first_sender, first_getter}
use Rattle.lane_queue.proofs.RingKeeps.{opens}
use Rattle.lane_queue.proofs.start.split_ring.Goals as goal

pub another-requires-clause-rule : goal.another-requires-clause-rule
another-requires-clause-rule g c = opens _ _ _ _ c.requires.key c.requires.pass.1

pub returns-clause-views : goal.returns-clause-views
returns-clause-views g c = (c.another.ensures.rule.0 ∙ ap first_sender c.requires.key, c.another.ensures.rule.1 ∙ ap first_getter c.requires.key)
