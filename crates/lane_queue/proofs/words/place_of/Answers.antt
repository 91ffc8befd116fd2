use Rattle.std.proofs.Common.{arith}
use Rattle.lane_core.proofs.Views.{times_none}
use Rattle.lane_queue.proofs.words.place_of.Goals as goal

pub unreachable-requires : goal.unreachable-requires
unreachable-requires c = let t = times_none c.args.slot c.args.items.now (λ k lt e. c.loop-i.invariant k (omega arith) e) in omega arith
