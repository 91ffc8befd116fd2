use Rattle.std.proofs.Common.{◌≡◌, ◌≤◌, ◌++◌, true, length}
use Rattle.std.specs.Prelude.{vec_capacity}
use Rattle.crossbeam_queue.specs.Passes.{view, IsPassOf}
use Rattle.lane_queue.specs.PoolRule.{pool_view}
use Rattle.lane_queue.proofs.shut.emptied.Given as goal

-- what was taken out is listed
abbrev pub invariant-loop-done : goal.invariant-loop-done
invariant-loop-done g l = record {
  pass : IsPassOf l.pool l.pass;
  knows : view l.pass ≡ pool_view 1024 true (view l.fn.pass).put ((view l.fn.pass).taken ++ l.home.items) (view l.fn.pass).size;
  count : length l.home.items ≡ l.done;
  room : l.buffers ≤ vec_capacity l.home;
}
