-- A claim keeps the rule.
use Rattle.std.proofs.Common.{◌≡◌, ◌≢◌, ◌⊎◌, ℕ, zero, suc, ◌+◌, ◌<◌, ◌≤◌, List, [], ◌∷◌, ◌++◌, length, get_or, set, sym, refl, ap, ◌∙◌, subst, inl, inr, ⊎_elim, arith, length-set, length-append, get_or-set_same, get_or-set_other}
use mathlib.Core.Option.{Option as Maybe, some, none, some-injective, some-ne-none}
use mathlib.Core.Logic.{dite}
use native.Mathlib.Decide.{ℕ_discrete}
use lib.ListN.{get_elem?}
use Rattle.atomic_table.specs.Table.{Act, keeps, takes, Valid, carried_after, stepped, Allows}
use Rattle.atomic_table.proofs.Lists.{set_else}
use Rattle.lane_table.proofs.Send.{St, each_view, stands}
use Rattle.std.proofs.lemmas.List.{set-get_or}
use Rattle.lane_spec.specs.Counts.{total, times, one_if}
use Rattle.lane_spec.specs.Pairs.{Pair, slots_of}
use Rattle.lane_core.specs.Seats.{log_of}
use Rattle.lane_table.specs.declared.view.Stored.{Stored}
use Rattle.lane_table.specs.declared.view.Stored.TheVariants.{Free}
use Rattle.lane_table.specs.declared.view.LaneKey.{LaneKey}
use Rattle.lane_table.specs.declared.view.SeatView.{SeatView}
use Rattle.lane_table.specs.Cells.{Cells, entries_of}
use Rattle.lane_table.specs.Rule.{Lanes, Stands, spent, base_of, mark_at, rest_at, in_rings, in_held, in_roles}
use Rattle.lane_table.specs.Steps.{claimed_by, missed_by, Claims}
use Rattle.lane_core.proofs.Counting.{times_here, times_append, distinct_below}
use Rattle.lane_core.proofs.Views.{total_set, total_at, total_two, times_next, times_last, times_last_else}
use Rattle.lane_table.proofs.Cells.{stays}
use Rattle.lane_table.proofs.Rings.{ring_at, in_rest}

-- a cell is no free word
base_at : (n w : ℕ) → n ≤ base_of n w
base_at n w = omega arith

module _ (z : LaneKey) (s : St) (p : Lanes z s) (id i : ℕ) (v : SeatView) (c : List (ℕ × Stored)) (at : get_elem? s.views id ≡ some v) (knows : 0 < length v.found) (below : i < z.buffers) (is_ingest : 0 < times 0 v.roles) (one_role : length v.roles ≡ 1) (free_hand : v.out ≡ []) where
  t : Stands z s.homes p.sent p.received p.ends p.ended v
  t = stands z s p id v at knows

  abbrev pub words' : List ℕ
  words' = set s.words i 0

  cells_same : (w : ℕ) → w < z.workers → Cells (z.buffers + 1) words' (base_of z.buffers w) (entries_of (log_of p.sent w) (mark_at p.ends w)) (length (log_of p.received w) + one_if (mark_at p.ended w))
  cells_same w lt = stays (z.buffers + 1) s.words (base_of z.buffers w) (entries_of (log_of p.sent w) (mark_at p.ends w)) (length (log_of p.received w) + one_if (mark_at p.ended w)) (p.rings w lt).cells (omega arith) i 0
      (inl (let b = base_at z.buffers w in omega arith))

  -- only the ingest has claimed, so what is taken stands in this seat's list
  mine_alone : total (λ (y : SeatView). times i y.claimed) s.views ≡ times i v.claimed
  mine_alone = alone_is (λ (y : SeatView). times i y.claimed) s.views id v at (λ k u other g. ⊎_elim (λ (gone : u ≡ spent). ap (λ (y : SeatView). times i y.claimed) gone)
      (λ (o : Stands z s.homes p.sent p.received p.ends p.ended u). none_in i u.claimed (λ has. absurd (let a = o.claims has in let b = total_two (in_roles 0) s.views k id u v other g at in let d = p.roles 0 (omega arith) in omega arith))) (p.views k u g)) where
        none_in : (i : ℕ) (xs : List ℕ) → (0 < length xs → ⊥) → times i xs ≡ 0
        none_in i [] no_one = refl
        none_in i (x ∷ xs) no_one = absurd (no_one (omega arith))

        zeros : (f : SeatView → ℕ) (xs : List SeatView) → ((k : ℕ) (u : SeatView) → get_elem? xs k ≡ some u → f u ≡ 0) → total f xs ≡ 0
        zeros f [] all = refl
        zeros f (x ∷ xs) all = let a = all 0 x refl in let r = zeros f xs (λ k u e. all (suc k) u e) in omega arith

        alone_is : (f : SeatView → ℕ) (xs : List SeatView) (id : ℕ) (v : SeatView) → get_elem? xs id ≡ some v → ((k : ℕ) (u : SeatView) → k ≢ id → get_elem? xs k ≡ some u → f u ≡ 0) → total f xs ≡ f v
        alone_is f [] id v at all = absurd (some-ne-none v (sym at))
        alone_is f (x ∷ xs) zero v at all = let e : f x ≡ f v = ap f (some-injective x v at) in let r = zeros f xs (λ k u g. all (suc k) u (λ e'. absurd (omega arith)) g) in omega arith
        alone_is f (x ∷ xs) (suc id) v at all = let a = all 0 x (λ e. absurd (omega arith)) refl in let r = alone_is f xs id v at (λ k u ne g. all (suc k) u (λ e'. ne (omega arith)) g) in omega arith

  abbrev pub Next : ℕ → Type 0
  Next n = (u : SeatView) × (a : Act Stored) × Valid s.homes c a × Lanes z (stepped s i 0 id c u a) × Claims z i v c n (u, carried_after c a)

  go : (n : ℕ) → get_or s.words i 0 ≡ n → Next n
  go zero is = let e : SeatView = missed_by i v in (
    e,
    keeps,
    tt,
    (let same : words' ≡ s.words = ap (set s.words i) (sym is) ∙ set-get_or s.words i 0 in let F : List ℕ → Type 0 = λ l. Lanes z record { words = l; homes = s.homes; views = set s.views id e } in subst F (sym same) record {
      sent = p.sent;
      received = p.received;
      ends = p.ends;
      ended = p.ended;
      words = p.words;
      homes = p.homes;
      lists = p.lists;
      roles = λ q lt. let a = total_set (in_roles q) s.views id v e at in let b = p.roles q lt in omega arith;
      no_more_roles = λ q le. let a = total_set (in_roles q) s.views id v e at in let b = p.no_more_roles q le in omega arith;
      once = λ j lt. let a = total_set (in_held j) s.views id v e at in let b = p.once j lt in omega arith;
      inside = λ j le. let a = total_set (in_held j) s.views id v e at in let b = p.inside j le in omega arith;
      rings = p.rings;
      apart = p.apart;
      free = p.free;
      taken = λ j lt zero_. let a = total_set (λ (y : SeatView). times j y.claimed) s.views id v e at in let b = p.taken j lt zero_ in omega arith;
      views = each_view (λ y. (y ≡ spent) ⊎ Stands z s.homes p.sent p.received p.ends p.ended y) s.views id e
          (inr record { about = t.about; counts = (length-set v.found i _ ∙ t.counts.0, t.counts.1); long = t.long; out = t.out; claims = t.claims; role = t.role; home = t.home; ingest = t.ingest; worker = t.worker })
          (λ k u _ g. p.views k u g);
    }),
    record { lost = λ _. (refl, (let a = p.taken i below is in let b = mine_alone in omega arith)); won = λ not. absurd (not refl) },
  )
  go (suc n) is = let o = p.once i below in let one : get_or s.words i 0 ≡ 1 = omega arith in let nobody : total (in_held i) s.views ≡ 0 = omega arith in let no_ring : in_rings p.sent p.received i z.workers ≡ 0 = omega arith in
      let f = p.free i below one in let e : SeatView = claimed_by i v in let mine : times i v.held ≡ 0 = let a = total_at (in_held i) s.views id v at in omega arith in
      let apart_ : (w : ℕ) → w < z.workers → (τ : ℕ) (u : Pair) → length (log_of p.received w) ≤ τ → get_elem? (log_of p.sent w) τ ≡ some u → u.0 ≢ i = λ w lt τ u le g same. absurd (
      let a = in_rest (length (log_of p.received w)) τ (log_of p.sent w) u le g in let b = ring_at p.sent p.received p.sent p.received i z.workers w lt in
      let d : 0 < times i (slots_of (rest_at p.sent p.received w)) = subst (λ (j : ℕ). 0 < times j (slots_of (rest_at p.sent p.received w))) same a in omega arith) in
      let homes' : List (Maybe Stored) = set s.homes i none in (
        e,
        takes i (Free f.0),
        f.1,
        record {
          sent = p.sent;
          received = p.received;
          ends = p.ends;
          ended = p.ended;
          words = length-set s.words i 0 ∙ p.words;
          homes = length-set s.homes i none ∙ p.homes;
          lists = p.lists;
          roles = λ q lt. let a = total_set (in_roles q) s.views id v e at in let b = p.roles q lt in omega arith;
          no_more_roles = λ q le. let a = total_set (in_roles q) s.views id v e at in let b = p.no_more_roles q le in omega arith;
          once = λ j lt. let a = total_set (in_held j) s.views id v e at in let b = p.once j lt in let d = times_append j v.held (i ∷ []) in dite (ℕ_discrete j i)
              (λ same. let F : ℕ → Type 0 = λ k. get_or words' k 0 + in_rings p.sent p.received k z.workers + total (in_held k) (set s.views id e) ≡ 1 in subst F (sym same)
              (let a' = total_set (in_held i) s.views id v e at in let d' = times_append i v.held (i ∷ []) in let h = times_here i [] in let lw = p.words in let g = get_or-set_same s.words i 0 0 (omega arith) in omega arith))
              (λ ne. let h = times_next i j [] ne in let g = get_or-set_other s.words i j 0 0 ne in omega arith);
          inside = λ j le. let a = total_set (in_held j) s.views id v e at in let b = p.inside j le in let d = times_append j v.held (i ∷ []) in let h = times_next i j [] (λ same. absurd (omega arith)) in omega arith;
          rings = λ w lt. let r = p.rings w lt in record {
            cells = cells_same w lt;
            prefix = r.prefix;
            rising = r.rising;
            share = r.share;
            done = r.done;
            packets = λ τ u le g. let k = r.packets τ u le g in (k.0, set_else s.homes i u.0 none (apart_ w lt τ u le g) ∙ k.1, k.2, k.3, k.4);
          };
          apart = p.apart;
          free = λ j lt one'. let ne : j ≢ i = λ same. absurd (let lw = p.words in let g = get_or-set_same s.words i 0 0 (omega arith) in let g' : get_or words' i 0 ≡ 1 = ap (λ k. get_or words' k 0) (sym same) ∙ one' in omega arith) in
              let k = p.free j lt (sym (get_or-set_other s.words i j 0 0 ne) ∙ one') in (k.0, set_else s.homes i j none ne ∙ k.1, k.2, k.3);
          taken = λ j lt zero_. let a = total_set (λ (y : SeatView). times j y.claimed) s.views id v e at in let d = times_append j v.claimed (i ∷ []) in dite (ℕ_discrete j i)
              (λ same. subst (λ (k : ℕ). 0 < total (λ (y : SeatView). times k y.claimed) (set s.views id e)) (sym same) (let a' = total_set (λ (y : SeatView). times i y.claimed) s.views id v e at in let d' = times_append i v.claimed (i ∷ []) in let h = times_here i [] in omega arith))
              (λ ne. let b = p.taken j lt (sym (get_or-set_other s.words i j 0 0 ne) ∙ zero_) in omega arith);
          views = each_view (λ y. (y ≡ spent) ⊎ Stands z homes' p.sent p.received p.ends p.ended y) s.views id e
              (inr record {
                about = t.about;
                counts = t.counts;
                long = t.long;
                ingest = t.ingest;
                worker = t.worker;
                claims = λ _. is_ingest;
                role = λ j _. one_role;
                out = λ j q. dite (ℕ_discrete j i) (λ same. subst (λ (n : ℕ). 0 < times n (v.held ++ i ∷ [])) (sym same) (let a = times_last i v.held in omega arith)) (λ ne. absurd (let a = times_next i j [] ne in omega arith));
                home = λ j has in_. dite (ℕ_discrete j i)
                    (λ same. absurd (let a = times_here i [] in let b : times i (i ∷ []) ≡ 0 = ap (λ n. times n (i ∷ [])) (sym same) ∙ in_ in omega arith))
                    (λ ne. let a = times_last_else i j v.held ne in set_else s.homes i j none ne ∙ t.home j (omega arith) (ap (times j) free_hand));
              })
              (λ k u other g. ⊎_elim (λ gone. inl gone) (λ (y : Stands z s.homes p.sent p.received p.ends p.ended u). inr record {
                about = y.about;
                counts = y.counts;
                long = y.long;
                out = y.out;
                claims = y.claims;
                role = y.role;
                ingest = y.ingest;
                worker = y.worker;
                home = λ j has in_. set_else s.homes i j none (λ same. absurd (let a = total_at (in_held i) s.views k u g in let b : 0 < times i u.held = subst (λ (n : ℕ). 0 < times n u.held) same has in omega arith)) ∙ y.home j has in_;
              }) (p.views k u g));
        },
        record {
          lost = λ none_. absurd (omega arith);
          won = λ _. record {
            buffer = f.0;
            seat = refl;
            slot = f.2;
            room = f.3;
            alone = mine;
            fewer = (
                let d = distinct_below z.buffers (v.held ++ i ∷ [])
                (λ j lt. dite (ℕ_discrete j i) (λ same. subst (λ (k : ℕ). times k (v.held ++ i ∷ []) ≤ 1) (sym same) (let a = times_last i v.held in omega arith))
                (λ ne. let a = times_last_else i j v.held ne in let b = total_at (in_held j) s.views id v at in let q = p.once j lt in omega arith))
                (λ j le. let a = times_last_else i j v.held (λ same. absurd (omega arith)) in let b = total_at (in_held j) s.views id v at in let q = p.inside j le in omega arith) in
                omega (arith, length-append v.held (i ∷ [])));
          };
        },
      )

-- the word of i is swapped for 0: it was taken, or its buffer is won
pub claims : (z : LaneKey) (id i : ℕ) (v : SeatView) (c : List (ℕ × Stored)) → 0 < length v.found → i < z.buffers → 0 < times 0 v.roles → length v.roles ≡ 1 → v.out ≡ [] → Allows (Lanes z) z.buffers id (v, c) i (λ _. 0) (Claims z i v c)
claims z id i v c knows below is_ingest one_role free_hand s p _ at _ = go z s p id i v c at knows below is_ingest one_role free_hand (get_or s.words i 0) refl
