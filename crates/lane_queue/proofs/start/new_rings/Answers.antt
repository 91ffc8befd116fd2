use Rattle.std.proofs.Common.{◌≡◌, ◌+◌, All, [], ◌∷◌, length, length-append, sym, ap, ◌∙◌, subst, arith}
use Rattle.std.proofs.lemmas.List.Elements.{All-push}
use Rattle.std.specs.Prelude.{slice_get}
use Rattle.crossbeam_queue.specs.Passes.{ruled_capacity}
use Rattle.lane_queue.specs.Seats.{IsNewPass}
use Rattle.lane_queue.proofs.Lists.{each_last}
use Rattle.lane_queue.proofs.start.new_rings.Goals as goal

pub loop-w-preserved : goal.loop-w-preserved
loop-w-preserved c = let v = c.loop-w.invariant in let r = c.in_ok-push.ensures.items in let p = c.in_ok-push-2.ensures.items in record {
  count = (
    ap (λ l. length l) r ∙ length-append c.loop-w.rings.items (c.in_ok-ring.ring ∷ []) ∙ (let n = v.count.0 in omega arith),
    ap (λ l. length l) p ∙ length-append c.loop-w.passes.items (c.in_ok-ring.pass ∷ []) ∙ (let n = v.count.1 in omega arith),
  );
  places = subst (All (λ q. ruled_capacity q ≡ c.args.buffers + 1)) (sym r) (All-push (λ q. ruled_capacity q ≡ c.args.buffers + 1) c.loop-w.rings.items c.in_ok-ring.ring v.places c.in_ok-ring.ensures.0);
  new = λ k q x eq ex. each_last (λ k q x. IsNewPass q x) c.loop-w.rings.items c.loop-w.passes.items c.in_ok-ring.ring c.in_ok-ring.pass (v.count.1 ∙ sym v.count.0) (c.in_ok-ring.ensures.1, c.in_ok-ring.ensures.3)
      v.new k q x (sym (ap (λ l. slice_get l k) r) ∙ eq) (sym (ap (λ l. slice_get l k) p) ∙ ex);
}
