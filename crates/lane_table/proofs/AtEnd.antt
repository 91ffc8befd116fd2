-- One view has every role, and each ring's END was put and taken: every buffer is at home.
use Rattle.std.proofs.Common.{◌≡◌, ℕ, zero, suc, ◌+◌, ◌<◌, ◌≤◌, true, List, [], ◌∷◌, drop, length, get_or, sym, refl, ap, ◌∙◌, subst, ⊎_elim, arith}
use mathlib.Core.Option.{some, some-injective}
use mathlib.Core.Logic.{dite}
use native.Mathlib.Decide.{ℕ_discrete, dec_le}
use lib.ListN.{get_elem?}
use Rattle.packet_owner.specs.Buffer.{BufferModel as Buffer}
use Rattle.lane_spec.specs.Counts.{total, times}
use Rattle.lane_spec.specs.Pairs.{Pair, slots_of}
use Rattle.lane_table.specs.declared.view.Stored.TheVariants.{Free}
use Rattle.lane_table.specs.declared.view.LaneKey.{LaneKey}
use Rattle.lane_table.specs.declared.view.SeatView.{SeatView}
use Rattle.lane_table.specs.Rule.{Lanes, Stands, spent, mark_at, rest_at, in_rings, in_held, in_roles}
use Rattle.lane_table.proofs.Send.{St, stands}
use Rattle.lane_core.proofs.Counting.{times_here}
use Rattle.lane_core.specs.Seats.{log_of}
use Rattle.lane_core.proofs.Views.{total_at, total_two, times_next}

drop_all : (xs : List Pair) → drop (length xs) xs ≡ []
drop_all [] = refl
drop_all (x ∷ xs) = drop_all xs

zeros : (f : SeatView → ℕ) (xs : List SeatView) → ((k : ℕ) (u : SeatView) → get_elem? xs k ≡ some u → f u ≡ 0) → total f xs ≡ 0
zeros f [] all = refl
zeros f (x ∷ xs) all = let a = all 0 x refl in let r = zeros f xs (λ k u e. all (suc k) u e) in omega arith

-- a list of one role has that role, and no other
one_of : (xs : List ℕ) → length xs ≡ 1 → (r : ℕ) × (0 < times r xs) × ((q : ℕ) → 0 < times q xs → q ≡ r)
one_of [] e = absurd (omega arith)
one_of (x ∷ []) e = (x, (let h = times_here x [] in omega arith), λ q has. dite (ℕ_discrete q x) (λ is. is) (λ ne. absurd (let t = times_next x q [] ne in omega arith)))
one_of (x ∷ y ∷ ys) e = absurd (omega arith)

module _ (z : LaneKey) (s : St) (p : Lanes z s) (id : ℕ) (v : SeatView) (at : get_elem? s.views id ≡ some v) (knows : 0 < length v.found) (some_worker : 0 < z.workers)
    (all : (r : ℕ) → r < z.workers + 1 → 0 < times r v.roles) (taken : (w : ℕ) → w < z.workers → mark_at v.ended w ≡ true) where
  t : Stands z s.homes p.sent p.received p.ends p.ended v
  t = stands z s p id v at knows

  pub all_received : (w : ℕ) → w < z.workers → (log_of v.received w ≡ log_of v.sent w) × (mark_at v.ends w ≡ true)
  all_received w lt = let k = t.worker w (all (w + 1) (omega arith)) in let g = t.ingest (all 0 (omega arith)) in let d = (p.rings w lt).done (sym k.1 ∙ taken w lt) in
      (k.0 ∙ d.1 ∙ ap (λ l. log_of l w) (sym g.0), ap (λ l. mark_at l w) g.1 ∙ d.0)

  empty : (i W : ℕ) → W ≤ z.workers → in_rings p.sent p.received i W ≡ 0
  empty i zero le = refl
  empty i (suc W) le = let k = t.worker W (all (W + 1) (omega arith)) in let d = (p.rings W (omega arith)).done (sym k.1 ∙ taken W (omega arith)) in
      let e : times i (slots_of (rest_at p.sent p.received W)) ≡ 0 = ap (λ (l : List Pair). times i (slots_of (drop (length l) (log_of p.sent W)))) d.1 ∙ ap (λ (l : List Pair). times i (slots_of l)) (drop_all (log_of p.sent W)) in
      let r = empty i W (omega arith) in omega arith

  none_held : (i k : ℕ) (u : SeatView) → get_elem? s.views k ≡ some u → times i u.held ≡ 0
  none_held i k u e = dite (ℕ_discrete (times i u.held) 0) (λ none_. none_) (λ some_. absurd (⊎_elim
      (λ (gone : u ≡ spent). some_ (ap (λ (y : SeatView). times i y.held) gone))
      (λ (o : Stands z s.homes p.sent p.received p.ends p.ended u). let r = one_of u.roles (o.role i (omega arith)) in dite (ℕ_discrete k id)
      (λ same. let is : u ≡ v = some-injective u v (sym e ∙ ap (get_elem? s.views) same ∙ at) in
      let has : (q : ℕ) → q < z.workers + 1 → 0 < times q u.roles = λ q lt. subst (λ (y : SeatView). 0 < times q y.roles) (sym is) (all q lt) in
      let a = r.2 0 (has 0 (omega arith)) in let b = r.2 1 (has 1 (omega arith)) in omega arith)
      (λ other. elim (dec_le (z.workers + 1) r.0) [
        | yes le ↦ (let n = p.no_more_roles r.0 le in let m = total_at (in_roles r.0) s.views k u e in let h = r.1 in omega arith)
        | no not_le ↦ (let lt : r.0 < z.workers + 1 = omega arith in let n = p.roles r.0 lt in let m = total_two (in_roles r.0) s.views k id u v other e at in let h = r.1 in let h' = all r.0 lt in omega arith)
      ]))
      (p.views k u e)))

  nobody : (i : ℕ) → total (in_held i) s.views ≡ 0
  nobody i = zeros (in_held i) s.views (λ k u e. none_held i k u e)

  pub each_free : (i : ℕ) → i < z.buffers → get_or s.words i 0 ≡ 1
  each_free i lt = let o = p.once i lt in let a = nobody i in let b = empty i z.workers (omega arith) in omega arith

  pub all_home : (i : ℕ) → i < z.buffers → (b : Buffer) × (get_elem? s.homes i ≡ some (some (Free b))) × (b.slot ≡ i) × (b.room ≡ z.bytes)
  all_home i lt = p.free i lt (each_free i lt)
