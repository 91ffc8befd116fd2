-- A seat's roles, and what it knows, come to the ingest's seat.
use Rattle.std.proofs.Common.{◌≡◌, ◌⊎◌, ℕ, zero, suc, ◌+◌, ◌<◌, true, false, cond, not, eq-eqb, ne_eqb, List, [], map, length, get_or, set, refl, ap, ◌∙◌, inl, inr, ⊎_elim, arith}
use mathlib.Core.Option.{some}
use mathlib.Core.Logic.{dite}
use native.Mathlib.Decide.{ℕ_discrete, dec_le}
use lib.ListN.{get_elem?}
use Rattle.std.proofs.lemmas.List.{length-map}
use Rattle.atomic_table.specs.Table.{Joins}
use Rattle.atomic_table.proofs.Lists.{at_set}
use Rattle.lane_table.proofs.Send.{each_view, stands}
use Rattle.lane_spec.specs.Counts.{times}
use Rattle.lane_core.specs.Seats.{log_of}
use Rattle.lane_table.specs.declared.view.LaneKey.{LaneKey}
use Rattle.lane_table.specs.declared.view.SeatView.{SeatView}
use Rattle.lane_table.specs.Rule.{Lanes, numbers_from, Stands, spent, mark_at, in_held, in_roles}
use Rattle.lane_table.specs.Joins.{works, joined}
use Rattle.lane_core.proofs.Counting.{times_append}
use Rattle.lane_core.proofs.Views.{total_set, total_two}

pub at_number : {A : Type 0} (f : ℕ → A) (d : A) (a n y : ℕ) → y < n → get_or (map f (numbers_from a n)) y d ≡ f (a + y)
at_number f d a zero y lt = absurd (omega arith)
at_number f d a (suc n) zero lt = ap f (let e : a ≡ a + 0 = omega arith in e)
at_number f d a (suc n) (suc y) lt = at_number f d (a + 1) n y (omega arith) ∙ ap f (let e : a + 1 + y ≡ a + suc y = omega arith in e)

pub length_numbers : (a n : ℕ) → length (numbers_from a n) ≡ n
length_numbers a zero = refl
length_numbers a (suc n) = ap suc (length_numbers (a + 1) n)

pub works_not : (w : SeatView) (y : ℕ) → times (y + 1) w.roles ≡ 0 → works w y ≡ false
works_not w y e = ap not (eq-eqb (times (y + 1) w.roles) 0 e)

pub works_so : (w : SeatView) (y : ℕ) → 0 < times (y + 1) w.roles → works w y ≡ true
works_so w y has = ap not (ne_eqb (times (y + 1) w.roles) 0 (λ e. absurd (omega arith)))

-- what another seat knows, and its roles, come to the ingest's seat
pub joins : (z : LaneKey) (id other : ℕ) (v w : SeatView) → 0 < length v.found → 0 < length w.found → w.out ≡ [] → 0 < times 0 v.roles → v.held ≡ [] → w.held ≡ [] → Joins (Lanes z) id v other w (joined v w) spent
joins z id other v w knows known free_hand is_ingest none_mine none_theirs s p at two at' = let b : SeatView = joined v w in let vs : List SeatView = set s.views id b in
    let was : get_elem? s.views other ≡ some w = ⊎_elim (λ x. absurd (two x.0)) (λ x. x.1) (at_set s.views id other b w at') in
    let t = stands z s p id v at knows in let t' = stands z s p other w was known in record {
      sent = p.sent;
      received = p.received;
      ends = p.ends;
      ended = p.ended;
      words = p.words;
      homes = p.homes;
      lists = p.lists;
      roles = λ r lt. let a = total_set (in_roles r) s.views id v b at in let c = total_set (in_roles r) vs other w spent at' in let o = p.roles r lt in let e = times_append r w.roles v.roles in omega arith;
      no_more_roles = λ r le. let a = total_set (in_roles r) s.views id v b at in let c = total_set (in_roles r) vs other w spent at' in let o = p.no_more_roles r le in let e = times_append r w.roles v.roles in omega arith;
      once = λ j lt. let a = total_set (in_held j) s.views id v b at in let c = total_set (in_held j) vs other w spent at' in let o = p.once j lt in let e = times_append j w.held v.held in omega arith;
      inside = λ j le. let a = total_set (in_held j) s.views id v b at in let c = total_set (in_held j) vs other w spent at' in let o = p.inside j le in let e = times_append j w.held v.held in omega arith;
      rings = p.rings;
      apart = p.apart;
      free = p.free;
      taken = λ j lt zero_. let f : SeatView → ℕ = λ y. times j y.claimed in let a = total_set f s.views id v b at in let c = total_set f vs other w spent at' in let o = p.taken j lt zero_ in let e = times_append j w.claimed v.claimed in omega arith;
      views = each_view (λ u. (u ≡ spent) ⊎ Stands z s.homes p.sent p.received p.ends p.ended u) vs other spent (inl refl) (λ k u _ e. each_view (λ u. (u ≡ spent) ⊎ Stands z s.homes p.sent p.received p.ends p.ended u) s.views id b
          (inr record {
            about = t.about;
            counts = t.counts;
            long = (length-map (numbers_from 0 (length v.received)) _ ∙ length_numbers 0 (length v.received) ∙ t.long.0, length-map (numbers_from 0 (length v.ended)) _ ∙ length_numbers 0 (length v.ended) ∙ t.long.1);
            out = λ j out. let h = t.out j out in let e = times_append j w.held v.held in omega arith;
            claims = λ _. let e = times_append 0 w.roles v.roles in omega arith;
            role = λ j has. absurd (let e = times_append j w.held v.held in let a = ap (times j) none_mine in let b = ap (times j) none_theirs in omega arith);
            home = λ j has in_. let e = times_append j w.held v.held in dite (ℕ_discrete (times j v.held) 0)
                (λ none_. t'.home j (omega arith) (ap (times j) free_hand)) (λ some_. t.home j (omega arith) in_);
            ingest = λ _. t.ingest is_ingest;
            worker = λ y has. let e = times_append (y + 1) w.roles v.roles in
                let lt : y < z.workers = elim (dec_le z.workers y) [ yes le ↦ absurd (let o = p.no_more_roles (y + 1) (omega arith) in let a = total_two (in_roles (y + 1)) s.views other id w v two was at in omega arith) | no not_le ↦ omega arith ] in
                let r = at_number (λ k. cond (works w k) (log_of w.received k) (log_of v.received k)) [] 0 (length v.received) y (let l = t.long.0 in omega arith) in
                let m = at_number (λ k. cond (works w k) (mark_at w.ended k) (mark_at v.ended k)) false 0 (length v.ended) y (let l = t.long.1 in omega arith) in
                let here : 0 + y ≡ y = omega arith in
                dite (ℕ_discrete (times (y + 1) w.roles) 0)
                (λ none_. let so = works_not w y none_ in let mine = t.worker y (omega arith) in (
                  r ∙ ap (λ k. cond (works w k) (log_of w.received k) (log_of v.received k)) here ∙ ap (λ b'. cond b' (log_of w.received y) (log_of v.received y)) so ∙ mine.0,
                  m ∙ ap (λ k. cond (works w k) (mark_at w.ended k) (mark_at v.ended k)) here ∙ ap (λ b'. cond b' (mark_at w.ended y) (mark_at v.ended y)) so ∙ mine.1,
                ))
                (λ some_. let so = works_so w y (omega arith) in let theirs = t'.worker y (omega arith) in (
                  r ∙ ap (λ k. cond (works w k) (log_of w.received k) (log_of v.received k)) here ∙ ap (λ b'. cond b' (log_of w.received y) (log_of v.received y)) so ∙ theirs.0,
                  m ∙ ap (λ k. cond (works w k) (mark_at w.ended k) (mark_at v.ended k)) here ∙ ap (λ b'. cond b' (mark_at w.ended y) (mark_at v.ended y)) so ∙ theirs.1,
                ));
          }) (λ k u other e. p.views k u e) k u e);
    }
