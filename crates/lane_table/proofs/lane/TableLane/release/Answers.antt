use Rattle.std.proofs.Common.{◌≡◌, ◌≢◌, ℕ, ◌<◌, List, length, get_or, arith, ap, ◌∙◌, sym, subst}
use Rattle.lane_spec.specs.Counts.{times, without}
use Rattle.lane_core.proofs.Counting.{times_without_else}
use Rattle.lane_core.proofs.Views.{removed_is}
use Rattle.lane_table.proofs.lane.TableLane.release.Goals as goal

pub invariant_of-seat-clause-list : goal.invariant_of-seat-clause-list
invariant_of-seat-clause-list c = let slot : ℕ = c.args.b.slot in let xs : List ℕ = c.args.seat.now.held.items in let at : ℕ = c.place_of-at.result in let p = c.place_of-at.ensures in
    let F : List ℕ × ℕ → Type 0 = λ k. (at < length k.0) × (get_or k.0 at 0 ≡ k.1) × ((j : ℕ) → j < at → get_or k.0 j 0 ≢ k.1) in
    let here : F (xs, slot) = subst F (λ i. (c.as_slice.ensures.value i, c.slot.ensures i)) (p.there.0, p.there.1, p.first) in
    c.remove.ensures.items ∙ removed_is slot xs at here.0 here.1 here.2 ∙ ap (without slot) c.args.seat.now.list ∙ sym (ap (λ m. m.0.held) c.open_word.ensures.given)

pub invariant_of-seat-clause-below : goal.invariant_of-seat-clause-below
invariant_of-seat-clause-below c = let slot : ℕ = c.args.b.slot in let s = c.args.seat.now in let v = c.open_word.ensures.given in let t = ap (λ t. t.slots) c.open_word.ensures.same.0 in
    let has : times slot s.seat.me.0.held ≡ times slot s.held.items = ap (times slot) (sym s.list) in let h = c.requires.held in
    λ j le. ap (λ m. times j m.0.held) v ∙ times_without_else slot j s.seat.me.0.held (λ e. absurd (let b = s.below j (omega arith) in let d = ap (λ k. times k s.seat.me.0.held) e in omega arith)) ∙ s.below j (omega arith)
