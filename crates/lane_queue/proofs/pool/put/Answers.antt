use Rattle.std.proofs.Common.{◌<◌, sym, subst}
use Rattle.packet_owner.specs.Buffer.{BufferModel}
use Rattle.lane_queue.specs.declared.pool_rule.PoolView.{PoolView}
use Rattle.lane_queue.specs.PoolRule.{FitsPool}
use Rattle.lane_queue.proofs.PoolKeeps.{puts}
use Rattle.lane_queue.proofs.pool.put.Goals as goal

pub push_as-requires-clause-rule : goal.push_as-requires-clause-rule
push_as-requires-clause-rule g c = let v = c.loop.invariant in (
  puts _ _ _ _ (subst (λ (u : PoolView). 0 < u.parts) (sym v.view_same) c.requires.may.0) (subst (λ (k : PoolView × BufferModel). FitsPool k.0.size k.1) (λ j. (sym v.view_same j, sym v.value j)) c.requires.may.1),
  λ items views p at. tt,
)
