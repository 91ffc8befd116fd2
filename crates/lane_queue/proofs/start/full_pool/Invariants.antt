use Rattle.std.proofs.Common.{◌≡◌}
use Rattle.crossbeam_queue.specs.Passes.{view, IsPassOf}
use Rattle.lane_queue.specs.PoolRule.{filled_view}
use Rattle.lane_queue.proofs.start.full_pool.Given as goal

-- the buffers of the slots below i were put
abbrev pub invariant-loop-i : goal.invariant-loop-i
invariant-loop-i g l = record { pass : IsPassOf l.pool l.pass; filled : view l.pass ≡ filled_view 1024 l.bytes l.i }
