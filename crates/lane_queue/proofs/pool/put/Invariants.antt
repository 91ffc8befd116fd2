use Rattle.std.proofs.Common.{◌≡◌}
use Rattle.crossbeam_queue.specs.Passes.{view, IsPassOf, IsSamePass}
use Rattle.lane_queue.proofs.pool.put.Given as goal

-- the value came back, and the pass knows what it knew
abbrev pub invariant-loop : goal.invariant-loop
invariant-loop g l = record {
  can : (goal.iterator-loop g).can_next l.iterator' × (goal.iterator-loop g).is_finite l.iterator';
  pass : IsPassOf l.pool l.pass;
  same : IsSamePass l.fn.pass l.pass;
  view_same : view l.pass ≡ view l.fn.pass;
  value : l.value ≡ l.fn.b;
}
