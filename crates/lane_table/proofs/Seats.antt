-- A seat's roles are shared out, and the rule holds at the start.
use Rattle.std.specs.Prelude.{replicate}
use Rattle.std.proofs.Common.{◌≡◌, ◌⊎◌, ℕ, zero, suc, ◌+◌, ◌*◌, ◌<◌, ◌≤◌, Bool, false, true≢false, List, [], ◌∷◌, ◌++◌, map, drop, length, get_or, set, sym, refl, ap, ◌∙◌, subst, inr, ⊎_elim, arith, append-nil}
use mathlib.Core.Option.{some, some-injective, some-ne-none}
use mathlib.Core.Logic.{dite}
use native.Mathlib.Decide.{ℕ_discrete}
use lib.ListN.{get_elem?}
use Rattle.std.proofs.lemmas.List.{length-map, length-replicate}
use Rattle.atomic_table.specs.Table.{Splits, opening}
use Rattle.atomic_table.proofs.Lists.{at_snoc, at_map}
use Rattle.packet_owner.specs.Buffer.{BufferModel as Buffer}
use Rattle.lane_spec.specs.Counts.{total, times, one_if}
use Rattle.lane_spec.specs.Pairs.{Pair, slots_of}
use Rattle.lane_table.specs.declared.view.Stored.{Stored}
use Rattle.lane_table.specs.declared.view.Stored.TheVariants.{Free}
use Rattle.lane_table.specs.declared.view.LaneKey.{LaneKey}
use Rattle.lane_table.specs.declared.view.SeatView.{SeatView}
use Rattle.lane_table.specs.Cells.{Cells, entries_of}
use Rattle.lane_table.specs.Rule.{Lanes, Stands, spent, numbers_from, first_view, base_of, mark_at, rest_at, in_rings, in_held, in_roles, IsRising}
use Rattle.lane_table.specs.Hands.{head_of, tail_of, with_roles, first_role, later_roles}
use Rattle.lane_table.proofs.Send.{each_view, stands}
use Rattle.lane_core.proofs.Counting.{times_here, times_append}
use Rattle.lane_core.specs.Seats.{log_of}
use Rattle.lane_core.proofs.Views.{total_set, total_last, times_next}

pub parts : (r : ℕ) (xs : List ℕ) → times r (head_of xs) + times r (tail_of xs) ≡ times r xs
parts r [] = refl
parts r (x ∷ xs) = omega arith

-- the first role goes to a new seat; nothing is held, and nothing was claimed
pub splits : (z : LaneKey) (id : ℕ) (v : SeatView) → 0 < length v.found → v.held ≡ [] → v.claimed ≡ [] → Splits (Lanes z) id v (later_roles v) (first_role v)
splits z id v knows none_held none_claimed s p at = let l : SeatView = later_roles v in let f : SeatView = first_role v in let vs : List SeatView = set s.views id l in let t = stands z s p id v at knows in
    let mine : (roles : List ℕ) → ((r : ℕ) → 0 < times r roles → 0 < times r v.roles) → Stands z s.homes p.sent p.received p.ends p.ended (with_roles roles v) = λ roles among. record {
      about = t.about;
      counts = t.counts;
      long = t.long;
      out = λ j has. absurd (omega arith);
      claims = λ has. absurd (omega arith);
      role = λ j has. absurd (omega arith);
      home = λ j has in_. absurd (omega arith);
      ingest = λ has. t.ingest (among 0 has);
      worker = λ w has. t.worker w (among (w + 1) has);
    } in record {
      sent = p.sent;
      received = p.received;
      ends = p.ends;
      ended = p.ended;
      words = p.words;
      homes = p.homes;
      lists = p.lists;
      roles = λ r lt. let a = total_set (in_roles r) s.views id v l at in let b = total_last (in_roles r) vs f in let o = p.roles r lt in let e = parts r v.roles in omega arith;
      no_more_roles = λ r le. let a = total_set (in_roles r) s.views id v l at in let b = total_last (in_roles r) vs f in let o = p.no_more_roles r le in let e = parts r v.roles in omega arith;
      once = λ j lt. let a = total_set (in_held j) s.views id v l at in let b = total_last (in_held j) vs f in let o = p.once j lt in let e = ap (times j) none_held in omega arith;
      inside = λ j le. let a = total_set (in_held j) s.views id v l at in let b = total_last (in_held j) vs f in let o = p.inside j le in let e = ap (times j) none_held in omega arith;
      rings = p.rings;
      apart = p.apart;
      free = p.free;
      taken = λ j lt zero_. let g : SeatView → ℕ = λ y. times j y.claimed in let a = total_set g s.views id v l at in let b = total_last g vs f in let o = p.taken j lt zero_ in let e = ap (times j) none_claimed in omega arith;
      views = λ k u e. ⊎_elim
          (λ (e' : get_elem? vs k ≡ some u). each_view (λ y. (y ≡ spent) ⊎ Stands z s.homes p.sent p.received p.ends p.ended y) s.views id l (inr (mine (tail_of v.roles) (λ r has. let q = parts r v.roles in omega arith))) (λ k' u' _ g. p.views k' u' g) k u e')
          (λ (new : f ≡ u). inr (subst (Stands z s.homes p.sent p.received p.ends p.ended) new (mine (head_of v.roles) (λ r has. let q = parts r v.roles in omega arith))))
          (at_snoc vs f u k e);
    }

times_from_below : (r a n : ℕ) → r < a → times r (numbers_from a n) ≡ 0
times_from_below r a zero lt = refl
times_from_below r a (suc n) lt = times_next a r (numbers_from (a + 1) n) (λ e. absurd (omega arith)) ∙ times_from_below r (a + 1) n (omega arith)

pub times_from_above : (r a n : ℕ) → a + n ≤ r → times r (numbers_from a n) ≡ 0
times_from_above r a zero le = refl
times_from_above r a (suc n) le = times_next a r (numbers_from (a + 1) n) (λ e. absurd (omega arith)) ∙ times_from_above r (a + 1) n (omega arith)

pub times_from : (r a n : ℕ) → a ≤ r → r < a + n → times r (numbers_from a n) ≡ 1
times_from r a zero le lt = absurd (omega arith)
times_from r a (suc n) le lt = dite (ℕ_discrete r a)
    (λ e. subst (λ (k : ℕ). times k (a ∷ numbers_from (a + 1) n) ≡ 1) (sym e) (let h = times_here a (numbers_from (a + 1) n) in let t = times_from_below a (a + 1) n (omega arith) in omega arith))
    (λ ne. times_next a r (numbers_from (a + 1) n) ne ∙ times_from r (a + 1) n (omega arith) (omega arith))

at_only : (v u : SeatView) (k : ℕ) → get_elem? (v ∷ []) k ≡ some u → v ≡ u
at_only v u zero e = some-injective v u e
at_only v u (suc k) e = absurd (some-ne-none u (sym e))

abbrev blank : ℕ → List (List Pair)
blank n = replicate n []

pub none_at : (n w : ℕ) → log_of (blank n) w ≡ []
none_at zero w = refl
none_at (suc n) zero = refl
none_at (suc n) (suc w) = none_at n w

pub no_mark : (n w : ℕ) → mark_at (replicate n false) w ≡ false
no_mark zero w = refl
no_mark (suc n) zero = refl
no_mark (suc n) (suc w) = no_mark n w

none_in : (n i W : ℕ) → in_rings (blank n) (blank n) i W ≡ 0
none_in n i zero = refl
none_in n i (suc W) = let e : times i (slots_of (rest_at (blank n) (blank n) W)) ≡ 0 = ap (λ (l : List Pair). times i (slots_of (drop (length l) l))) (none_at n W) in let r = none_in n i W in omega arith

no_pair : (n w t : ℕ) (q : Pair) → get_elem? (log_of (blank n) w) t ≡ some q → ⊥
no_pair n w t q e = some-ne-none q (sym e ∙ ap (λ (l : List Pair). get_elem? l t) (none_at n w))

-- each buffer is free and in its own slot, and each ring is empty
pub opens : (z : LaneKey) (words : List ℕ) (slots : List Stored) → length words ≡ z.buffers + z.workers * (z.buffers + 1) → length slots ≡ z.buffers → ((i : ℕ) → i < z.buffers → get_or words i 0 ≡ 1)
    → ((i : ℕ) → z.buffers ≤ i → get_or words i 0 ≡ 0) → ((i : ℕ) → i < z.buffers → (b : Buffer) × (get_elem? slots i ≡ some (Free b)) × (b.slot ≡ i) × (b.room ≡ z.bytes)) → Lanes z (opening words slots (first_view z))
opens z words slots lw ls free_all rings_empty full = let n : ℕ = z.workers in let role : (r : ℕ) → times r (numbers_from 1 n ++ 0 ∷ []) ≡ times r (numbers_from 1 n) + times r (0 ∷ []) = λ r. times_append r (numbers_from 1 n) (0 ∷ []) in record {
  sent = blank n;
  received = blank n;
  ends = replicate n false;
  ended = replicate n false;
  words = lw;
  homes = length-map slots some ∙ ls;
  lists = (length-replicate n [], length-replicate n [], length-replicate n false, length-replicate n false);
  roles = λ r lt. let a = role r in dite (ℕ_discrete r 0)
      (λ e. let F : ℕ → Type 0 = λ k. total (in_roles k) (first_view z ∷ []) ≡ 1 in subst F (sym e) (let a' = role 0 in let h = times_here 0 [] in let b = times_from_below 0 1 n (omega arith) in omega arith))
      (λ ne. let h = times_next 0 r [] ne in let b = times_from r 1 n (omega arith) (omega arith) in omega arith);
  no_more_roles = λ r le. let a = role r in let h = times_next 0 r [] (λ e. absurd (omega arith)) in let b = times_from_above r 1 n (omega arith) in omega arith;
  once = λ i lt. let o = free_all i lt in let e = none_in n i n in omega arith;
  inside = λ i le. let e = none_in n i n in omega arith;
  rings = λ w lt. let l = none_at n w in let m = no_mark n w in record {
    cells = let F : List Pair × Bool → Type 0 = λ y. Cells (z.buffers + 1) words (base_of z.buffers w) (entries_of y.0 y.1) (length y.0 + one_if y.1) in
        subst F (λ j. (sym l j, sym m j)) record { here = λ t from to. absurd (omega arith); empty = λ c lt' none_. rings_empty (base_of z.buffers w + c) (omega arith) };
    prefix = ([], append-nil (log_of (blank n) w));
    rising = subst IsRising (sym l) tt;
    share = let e = ap (λ (x : List Pair). length x) l in omega arith;
    done = λ e. absurd (true≢false (sym e ∙ m));
    packets = λ t q le e. absurd (no_pair n w t q e);
  };
  apart = λ w x i j q q' ne e e'. absurd (no_pair n w i q e);
  free = λ i lt one. let f = full i lt in (f.0, at_map some slots i (Free f.0) f.1, f.2, f.3);
  taken = λ i lt zero_. absurd (let o = free_all i lt in omega arith);
  views = λ k u e. inr (subst (Stands z (map some slots) (blank n) (blank n) (replicate n false) (replicate n false)) (at_only (first_view z) u k e) record {
    about = refl;
    counts = (length-replicate z.buffers 0, length-replicate n 0);
    long = (length-replicate n [], length-replicate n false);
    out = λ j has. absurd (omega arith);
    claims = λ has. absurd (omega arith);
    role = λ j has. absurd (omega arith);
    home = λ j has in_. absurd (omega arith);
    ingest = λ _. (refl, refl);
    worker = λ w _. (refl, refl);
  });
}
