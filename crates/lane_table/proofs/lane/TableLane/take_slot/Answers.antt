use Rattle.std.proofs.Common.{arith, sym, ◌∙◌}
use Rattle.lane_table.proofs.WordCalls.{take_call}
use Rattle.lane_table.proofs.lane.TableLane.take_slot.Goals as goal

pub load-requires : goal.load-requires
load-requires c = let l = c.args.self.now in let h = l.sized in let key = l.key.0 in let q = c.requires in (
  q.lane.0,
  (let b = q.lane.1 in omega arith),
  take_call _ _ _ _ _ (h.1 ∙ sym key) (let b = q.lane.1 in omega arith) q.seat.0 q.seat.1 q.seat.3,
)
