use Rattle.std.proofs.Common.{sym, subst}
use Rattle.lane_queue.specs.declared.ring_rule.Item.{Item}
use Rattle.lane_queue.specs.declared.ring_rule.RingView.{RingView}
use Rattle.lane_queue.specs.RingRule.{MaySend}
use Rattle.lane_queue.proofs.RingKeeps.{sends}
use Rattle.lane_queue.proofs.ring.push.Goals as goal

pub push_as-requires-clause-rule : goal.push_as-requires-clause-rule
push_as-requires-clause-rule g c = let v = c.loop.invariant in (
  sends _ _ _ _ (subst (λ (k : RingView × Item). MaySend k.0 k.1) (λ j. (sym v.view_same j, sym v.value j)) c.requires.may),
  λ items views p at. tt,
)
