-- END goes into a ring.
use Rattle.std.proofs.Common.{◌≡◌, ◌≢◌, ◌⊎◌, ℕ, ◌+◌, ◌%◌, ◌<◌, ◌≤◌, Bool, true, false, true≢false, List, [], ◌∷◌, ◌++◌, map, length, get_or, set, sym, refl, ap, ◌∙◌, subst, inl, inr, ⊎_elim, arith, length-set, length-append, length-drop, get_or-set_same, get_or-set_other, append-nil, mod-lt}
use mathlib.Core.Option.{some}
use mathlib.Core.Logic.{dite}
use native.Mathlib.Decide.{ℕ_discrete}
use lib.ListN.{get_elem?}
use Rattle.std.proofs.lemmas.List.{length-map}
use Rattle.atomic_table.specs.Table.{keeps, Allows}
use Rattle.lane_spec.specs.Counts.{times, one_if}
use Rattle.lane_spec.specs.Pairs.{Pair, slots_of}
use Rattle.lane_table.specs.declared.view.Stored.{Stored}
use Rattle.lane_table.specs.declared.view.LaneKey.{LaneKey}
use Rattle.lane_table.specs.declared.view.SeatView.{SeatView}
use Rattle.lane_table.specs.Cells.{Cells, END, entry_word, entries_of}
use Rattle.lane_table.specs.Rule.{Lanes, Ring, Stands, spent, base_of, mark_at, rest_at, in_held, in_roles}
use Rattle.lane_table.specs.Steps.{closed_by}
use Rattle.lane_table.proofs.Send.{St, each_view, stands}
use Rattle.lane_core.proofs.Counting.{distinct_below}
use Rattle.lane_core.proofs.Views.{total_set, total_two}
use Rattle.lane_table.proofs.Cells.{next_free, put, stays}
use Rattle.lane_core.specs.Seats.{log_of}
use Rattle.lane_table.proofs.Rings.{ring_at, elsewhere, within, length_slots}

module _ (z : LaneKey) (s : St) (p : Lanes z s) (id w : ℕ) (v : SeatView) (at : get_elem? s.views id ≡ some v) (knows : 0 < length v.found) (is_worker : w < z.workers) (is_ingest : 0 < times 0 v.roles) (going : mark_at v.ends w ≡ false) where
  t : Stands z s.homes p.sent p.received p.ends p.ended v
  t = stands z s p id v at knows

  abbrev pub old : List Pair
  old = log_of p.sent w

  abbrev pub marks : List Bool
  marks = set p.ends w true

  r : Ring z s.words s.homes p.sent p.received p.ends p.ended w
  r = p.rings w is_worker

  not_put : mark_at p.ends w ≡ false
  not_put = ap (λ l. mark_at l w) (sym (t.ingest is_ingest).1) ∙ going

  not_ended : mark_at p.ended w ≡ false
  not_ended = flag (mark_at p.ended w) (λ e. true≢false (sym (r.done e).0 ∙ not_put)) where
    flag : (b : Bool) → b ≢ true → b ≡ false
    flag true not = absurd (not refl)
    flag false not = refl

  begun : length (log_of p.received w) ≤ length old
  begun = let q = r.prefix in let e = ap (λ (l : List Pair). length l) q.1 in let l = length-append (log_of p.received w) q.0 in omega arith

  few : length old ≤ length (log_of p.received w) + z.buffers
  few = let d = distinct_below z.buffers (slots_of (rest_at p.sent p.received w))
      (λ j lt. let a = ring_at p.sent p.received p.sent p.received j z.workers w is_worker in let o = p.once j lt in omega arith)
      (λ j le. let a = ring_at p.sent p.received p.sent p.received j z.workers w is_worker in let o = p.inside j le in omega arith) in
      let l2 = length_slots (rest_at p.sent p.received w) in let l3 = length-drop (length (log_of p.received w)) old in omega arith

  abbrev pub h : ℕ
  h = length (log_of p.received w) + one_if (mark_at p.ended w)

  h_is : h ≡ length (log_of p.received w)
  h_is = ap (λ b. length (log_of p.received w) + one_if b) not_ended ∙ omega arith

  abbrev pub es : List ℕ
  es = entries_of old (mark_at p.ends w)

  es_is : es ≡ map entry_word old
  es_is = ap (entries_of old) not_put ∙ append-nil (map entry_word old)

  es_length : length es ≡ length old
  es_length = ap (λ (l : List ℕ). length l) es_is ∙ length-map old entry_word

  abbrev pub cell : ℕ
  cell = base_of z.buffers w + length (log_of v.sent w) % (z.buffers + 1)

  cell_is : cell ≡ base_of z.buffers w + length es % (z.buffers + 1)
  cell_is = ap (λ (l : List (List Pair)). base_of z.buffers w + length (log_of l w) % (z.buffers + 1)) (t.ingest is_ingest).0 ∙ ap (λ n. base_of z.buffers w + n % (z.buffers + 1)) (sym es_length)

  pub is_free : get_or s.words cell 0 ≡ 0
  is_free = ap (λ c. get_or s.words c 0) cell_is ∙ next_free (z.buffers + 1) s.words (base_of z.buffers w) es h r.cells (omega arith)
      (let a = h_is in let b = es_length in let c = begun in omega arith) (let a = h_is in let b = es_length in let c = few in omega arith)

  abbrev pub words' : List ℕ
  words' = set s.words cell END

  abbrev pub views' : List SeatView
  views' = set s.views id (closed_by w v)

  word_same : (j : ℕ) → j < z.buffers → get_or words' j 0 ≡ get_or s.words j 0
  word_same j lt = get_or-set_other s.words cell j END 0 (λ e. absurd (omega arith))

  marked : mark_at marks w ≡ true
  marked = let l = p.lists.2 in get_or-set_same p.ends w true false (omega arith)

  ring_here : Ring z words' s.homes p.sent p.received marks p.ended w
  ring_here = let entries : entries_of old (mark_at marks w) ≡ es ++ END ∷ [] = ap (entries_of old) marked ∙ ap (λ l. l ++ END ∷ []) (sym es_is) in
      let F : ℕ × List ℕ → Type 0 = λ y. Cells (z.buffers + 1) (set s.words y.0 END) (base_of z.buffers w) y.1 h in record {
        cells = subst F (λ j. (sym cell_is j, sym entries j)) (put (z.buffers + 1) s.words (base_of z.buffers w) es h r.cells (omega arith) END
            (let a = within z.buffers w z.workers z.buffers (omega arith) is_worker in let b = p.words in omega arith)
            (let a = h_is in let b = es_length in let c = begun in omega arith) (let a = h_is in let b = es_length in let c = few in omega arith));
        prefix = r.prefix;
        rising = r.rising;
        share = r.share;
        done = λ e. absurd (true≢false (sym e ∙ not_ended));
        packets = r.packets;
      }

  ring_else : (y : ℕ) → y < z.workers → y ≢ w → Ring z words' s.homes p.sent p.received marks p.ended y
  ring_else y lt ne = let o = p.rings y lt in let same : mark_at marks y ≡ mark_at p.ends y = get_or-set_other p.ends w y true false ne in
      let small : length (log_of v.sent w) % (z.buffers + 1) < z.buffers + 1 = mod-lt (length (log_of v.sent w)) (omega arith) in record {
        cells = subst (λ (b : Bool). Cells (z.buffers + 1) words' (base_of z.buffers y) (entries_of (log_of p.sent y) b) (length (log_of p.received y) + one_if (mark_at p.ended y))) (sym same)
            (stays (z.buffers + 1) s.words (base_of z.buffers y) (entries_of (log_of p.sent y) (mark_at p.ends y)) (length (log_of p.received y) + one_if (mark_at p.ended y)) o.cells (omega arith) cell END
            (elsewhere z.buffers w y (length (log_of v.sent w) % (z.buffers + 1)) small ne));
        prefix = o.prefix;
        rising = o.rising;
        share = o.share;
        done = λ e. (same ∙ (o.done e).0, (o.done e).1);
        packets = o.packets;
      }

  others : (j : ℕ) (y : SeatView) → j ≢ id → get_elem? s.views j ≡ some y → (y ≡ spent) ⊎ Stands z s.homes p.sent p.received marks p.ended y
  others j y ne e = ⊎_elim (λ gone. inl gone) (λ (o : Stands z s.homes p.sent p.received p.ends p.ended y). inr record {
    about = o.about;
    counts = o.counts;
    long = o.long;
    claims = o.claims;
    out = o.out;
    role = o.role;
    home = o.home;
    ingest = λ it. absurd (let a = total_two (in_roles 0) s.views id j v y (λ q. ne (sym q)) at e in let b = p.roles 0 (omega arith) in omega arith);
    worker = o.worker;
  }) (p.views j y e)

  pub kept : Lanes z record { words = words'; homes = s.homes; views = views' }
  kept = record {
    sent = p.sent;
    received = p.received;
    ends = marks;
    ended = p.ended;
    words = length-set s.words cell END ∙ p.words;
    homes = p.homes;
    lists = (p.lists.0, p.lists.1, length-set p.ends w true ∙ p.lists.2, p.lists.3);
    roles = λ q lt. let a = total_set (in_roles q) s.views id v (closed_by w v) at in let b = p.roles q lt in omega arith;
    no_more_roles = λ q le. let a = total_set (in_roles q) s.views id v (closed_by w v) at in let b = p.no_more_roles q le in omega arith;
    once = λ j lt. let a = total_set (in_held j) s.views id v (closed_by w v) at in let b = p.once j lt in let c = word_same j lt in omega arith;
    inside = λ j le. let a = total_set (in_held j) s.views id v (closed_by w v) at in let b = p.inside j le in omega arith;
    rings = λ y lt. dite (ℕ_discrete y w) (λ e. subst (λ (q : ℕ). Ring z words' s.homes p.sent p.received marks p.ended q) (sym e) ring_here) (λ ne. ring_else y lt ne);
    apart = p.apart;
    free = λ j lt one. p.free j lt (sym (word_same j lt) ∙ one);
    taken = λ j lt zero_. let a = total_set (λ (y : SeatView). times j y.claimed) s.views id v (closed_by w v) at in let b = p.taken j lt (sym (word_same j lt) ∙ zero_) in omega arith;
    views = each_view (λ y. (y ≡ spent) ⊎ Stands z s.homes p.sent p.received marks p.ended y) s.views id (closed_by w v)
        (inr record { about = t.about; counts = t.counts; long = t.long; claims = t.claims; out = t.out; role = t.role; home = t.home; ingest = λ it. ((t.ingest it).0, ap (λ (l : List Bool). set l w true) (t.ingest it).1); worker = t.worker })
        others;
  }

-- END goes into the next cell
pub closes : (z : LaneKey) (id w : ℕ) (v : SeatView) (c : List (ℕ × Stored)) → 0 < length v.found → w < z.workers → 0 < times 0 v.roles → mark_at v.ends w ≡ false
    → Allows (Lanes z) z.buffers id (v, c) (base_of z.buffers w + length (log_of v.sent w) % (z.buffers + 1)) (λ _. END) (λ n m'. (n ≡ 0) × (m' ≡ (closed_by w v, c)))
closes z id w v c knows is_worker is_ingest going s p _ at _ = (closed_by w v, keeps, tt, kept z s p id w v at knows is_worker is_ingest going, (is_free z s p id w v at knows is_worker is_ingest going, refl))
