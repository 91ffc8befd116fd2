use Rattle.std.proofs.Common.{ap, ◌∙◌, arith}
use Rattle.packet_owner.specs.Buffer.{BufferModel}
use Rattle.lane_queue.specs.declared.pool_rule.PoolView.{PoolView}
use Rattle.lane_queue.proofs.PoolKeeps.{fills, wholes}
use Rattle.lane_queue.proofs.Starts.{may_fill, filled_next, full_is}
use Rattle.lane_queue.proofs.start.full_pool.Goals as goal

pub push_as-requires-clause-rule : goal.push_as-requires-clause-rule
push_as-requires-clause-rule g c = let v = c.loop-i.invariant in let b = c.in_ok-buffer.ensures in (
  fills _ _ _ _ (ap (λ (y : PoolView). y.parts) v.filled) (may_fill c.args.bytes c.loop-i.i _ _ v.filled (ap (λ (x : BufferModel). x.slot) b) (ap (λ (x : BufferModel). x.room) b)),
  wholes _ _ (ap (λ (y : PoolView). y.parts) v.filled),
)

pub loop-i-preserved : goal.loop-i-preserved
loop-i-preserved g c = let v = c.loop-i.invariant in let b = c.in_ok-buffer.ensures in let q = c.in-Ok.ensures.queue in record {
  pass = (q.0 ∙ v.pass.0, q.2 ∙ v.pass.1);
  filled = filled_next c.args.bytes c.loop-i.i _ _ _ v.filled (ap (λ (x : BufferModel). x.slot) b) (ap (λ (x : BufferModel). x.room) b) c.in-Ok.ensures.rule;
}

pub unreachable-requires : goal.unreachable-requires
unreachable-requires g c = let h = c.in-Err.ensures.rule.2 in let n = full_is c.args.bytes c.loop-i.i _ h.0 c.loop-i.invariant.filled h.2 in let m = h.1 in let k = c.in_ok-pool.ensures.0 in let lt = c.loop-i-test.true in omega arith
