use Rattle.std.proofs.Common.{ℕ, [], ◌∷◌, ap, ◌∙◌, arith}
use Rattle.crossbeam_queue.specs.Passes.{view}
use Rattle.lane_spec.specs.Counts.{times}
use Rattle.lane_core.proofs.Counting.{times_append}
use Rattle.lane_queue.specs.declared.pool_rule.PoolView.{PoolView}
use Rattle.lane_queue.proofs.Sums.{without_one, below_without, slot_removed}
use Rattle.lane_queue.proofs.kit.QueueKitLaneKit.release.Goals as goal

pub invariant_of-seat-clause-slots : goal.invariant_of-seat-clause-slots
invariant_of-seat-clause-slots g c = λ i. let s = c.args.seat.now in let slot : ℕ = c.args.b.slot in let p = c.place_of-at.ensures in
    let held = slot_removed _ _ s.held.items c.place_of-at.result slot c.slot.result c.as_slice.ensures.value c.slot.ensures p.there.0 p.there.1 p.first c.remove.ensures.items in
    let a = ap (λ (v : PoolView). times i v.put) c.put.ensures.put in let b = times_append i (view s.pass).put (slot ∷ []) in let d = ap (times i) held in let e = without_one slot i s.held.items c.requires.held in let q = s.slots i in omega arith

pub returns-clause-own : goal.returns-clause-own
returns-clause-own g c = let o = c.requires.own in let s = c.args.seat.now in let slot : ℕ = c.args.b.slot in let p = c.place_of-at.ensures in let put = c.put.ensures.put in let same = c.put.ensures.same in
    let held = slot_removed _ _ s.held.items c.place_of-at.result slot c.slot.result c.as_slice.ensures.value c.slot.ensures p.there.0 p.there.1 p.first c.remove.ensures.items in record {
      pool = (same.0 ∙ o.pool.0, same.2 ∙ o.pool.1);
      size = ap (λ (v : PoolView). v.size) put ∙ o.size;
      below = λ k le. ap (times k) held ∙ below_without slot c.args.lane.now.buffers s.held.items c.requires.held o.below k le;
      place = o.place;
      room = o.room;
      getter = o.getter;
    }

pub returns-clause-released : goal.returns-clause-released
returns-clause-released g c = let s = c.args.seat.now in let slot : ℕ = c.args.b.slot in let p = c.place_of-at.ensures in
    let held = slot_removed _ _ s.held.items c.place_of-at.result slot c.slot.result c.as_slice.ensures.value c.slot.ensures p.there.0 p.there.1 p.first c.remove.ensures.items in record {
      same = λ j. record { place = s.place; received = s.received.pairs; held = held j; ended = s.ended; idle = s.idle; finds = s.finds };
      finds = record { later = omega arith; last = λ e. e };
    }
