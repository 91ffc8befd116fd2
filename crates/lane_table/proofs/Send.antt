-- A send keeps the rule.
use Rattle.std.specs.Prelude.{slice_index}
use Rattle.std.proofs.Common.{◌≡◌, ◌≢◌, ◌⊎◌, ℕ, ◌+◌, ◌%◌, ◌<◌, ◌≤◌, Bool, true, false, true≢false, List, [], ◌∷◌, ◌++◌, map, drop, length, get_or, set, sym, refl, ap, ◌∙◌, subst, inl, inr, ⊎_elim, arith, length-set, length-append, length-drop, get_or-set_same, get_or-set_other, append_assoc, append-nil, mod-lt}
use mathlib.Core.Option.{Option as Maybe, some}
use mathlib.Core.List.{map-append}
use mathlib.Core.Logic.{dite}
use native.Mathlib.Decide.{ℕ_discrete}
use lib.ListN.{get_elem?}
use Rattle.std.proofs.lemmas.List.{length-map}
use Rattle.atomic_table.specs.Table.{State, gives, Allows}
use Rattle.atomic_table.proofs.Lists.{at_set, at_snoc, set_here, set_else}
use Rattle.packet_owner.specs.Packet.{PacketModel as Packet}
use Rattle.lane_spec.specs.Counts.{total, times, without, one_if}
use Rattle.lane_spec.specs.Pairs.{Pair, slots_of}
use Rattle.lane_core.specs.Seats.{IsRecord, log_of}
use Rattle.lane_table.specs.declared.view.Stored.{Stored}
use Rattle.lane_table.specs.declared.view.Stored.TheVariants.{Filled}
use Rattle.lane_table.specs.declared.view.LaneKey.{LaneKey}
use Rattle.lane_table.specs.declared.view.SeatView.{SeatView}
use Rattle.lane_table.specs.Cells.{Cells, entry_word, entries_of}
use Rattle.lane_table.specs.Rule.{Lanes, Ring, Stands, spent, base_of, mark_at, rest_at, in_rings, in_held, in_roles, Below, IsRising, AreApart}
use Rattle.lane_table.specs.Steps.{sent_by}
use Rattle.lane_core.proofs.Counting.{times_here, times_append, times_without, times_without_else, distinct_below}
use Rattle.lane_core.proofs.Views.{total_set, total_at, total_two, times_next, times_last, times_last_else}
use Rattle.lane_table.proofs.Cells.{next_free, put, stays}
use Rattle.lane_table.proofs.Rings.{rings_move, ring_at, in_rest, elsewhere, within, drop_left, slots_last, length_slots}
use Rattle.lane_table.proofs.Order.{rising_last, below_at}

abbrev pub St : Type 0
St = State Stored SeatView

pub each_view : (P : SeatView → Type 0) (views : List SeatView) (id : ℕ) (w : SeatView) → P w → ((k : ℕ) (u : SeatView) → k ≢ id → get_elem? views k ≡ some u → P u)
    → (k : ℕ) (u : SeatView) → get_elem? (set views id w) k ≡ some u → P u
each_view P views id w mine others k u e = ⊎_elim (λ (x : (k ≡ id) × (w ≡ u)). subst P x.1 mine) (λ (x : (k ≢ id) × (get_elem? views k ≡ some u)). others k u x.0 x.1) (at_set views id k w u e)

pub stands : (z : LaneKey) (s : St) (p : Lanes z s) (id : ℕ) (v : SeatView) → get_elem? s.views id ≡ some v → 0 < length v.found → Stands z s.homes p.sent p.received p.ends p.ended v
stands z s p id v at has = ⊎_elim (λ (e : v ≡ spent). absurd (let n : length v.found ≡ 0 = ap (λ (u : SeatView). length u.found) e in omega arith)) (λ t. t) (p.views id v at)

-- the entries of a ring with one pair more
entries_more : (xs : List Pair) (p : Pair) → entries_of (xs ++ p ∷ []) false ≡ entries_of xs false ++ entry_word p ∷ []
entries_more xs p = append-nil (map entry_word (xs ++ p ∷ [])) ∙ map-append entry_word xs (p ∷ []) ∙ ap (λ l. l ++ entry_word p ∷ []) (sym (append-nil (map entry_word xs)))

entries_length : (xs : List Pair) → length (entries_of xs false) ≡ length xs
entries_length xs = ap (λ (l : List ℕ). length l) (append-nil (map entry_word xs)) ∙ length-map xs entry_word

module _ (z : LaneKey) (s : St) (p : Lanes z s) (id w i k : ℕ) (v : SeatView) (x : Packet) (at : get_elem? s.views id ≡ some v) (knows : 0 < length v.found) (is_worker : w < z.workers) (below : i < z.buffers)
    (is_ingest : 0 < times 0 v.roles) (out : v.out ≡ i ∷ []) (slot : x.slot ≡ i) (room : x.room ≡ z.bytes) (entry : IsRecord z.capture.value k x) (above : (y : ℕ) → Below k (log_of v.sent y)) (going : mark_at v.ends w ≡ false) (left : length (log_of v.sent w) < slice_index z.shares.value.items w) where
  t : Stands z s.homes p.sent p.received p.ends p.ended v
  t = stands z s p id v at knows

  has : 0 < times i v.held
  has = t.out i (let h : times i v.out ≡ times i (i ∷ []) = ap (times i) out in let h' = times_here i [] in omega arith)

  abbrev pub old : List Pair
  old = log_of p.sent w

  abbrev pub more : List (List Pair)
  more = set p.sent w (log_of p.sent w ++ (i, k) ∷ [])

  r : Ring z s.words s.homes p.sent p.received p.ends p.ended w
  r = p.rings w is_worker

  -- the word of i is taken, and no ring and no other seat has i
  alone : (get_or s.words i 0 ≡ 0) × (in_rings p.sent p.received i z.workers ≡ 0) × (times i v.held ≡ 1)
  alone = let a = total_at (in_held i) s.views id v at in let o = p.once i below in let h = has in (omega arith, omega arith, omega arith)

  not_ended : mark_at p.ended w ≡ false
  not_ended = flag (mark_at p.ended w) (λ e. true≢false (sym (r.done e).0 ∙ ap (λ l. mark_at l w) (sym (t.ingest is_ingest).1) ∙ going)) where
    flag : (b : Bool) → b ≢ true → b ≡ false
    flag true not = absurd (not refl)
    flag false not = refl

  not_put : mark_at p.ends w ≡ false
  not_put = ap (λ l. mark_at l w) (sym (t.ingest is_ingest).1) ∙ going

  -- how many were sent to the ring and not received: fewer than all
  few : length old < length (log_of p.received w) + z.buffers
  few = let rest : List ℕ = slots_of (rest_at p.sent p.received w) in
      let d = distinct_below z.buffers (rest ++ i ∷ [])
      (λ j lt. let a = ring_at p.sent p.received p.sent p.received j z.workers w is_worker in let o = p.once j lt in dite (ℕ_discrete j i)
      (λ e. subst (λ (y : ℕ). times y (rest ++ i ∷ []) ≤ 1) (sym e) (let l = times_last i rest in let a' = ring_at p.sent p.received p.sent p.received i z.workers w is_worker in let n = alone.1 in omega arith))
      (λ ne. let l = times_last_else i j rest ne in omega arith))
      (λ j le. let l = times_last_else i j rest (λ e. absurd (omega arith)) in let a = ring_at p.sent p.received p.sent p.received j z.workers w is_worker in let o = p.inside j le in omega arith) in
      let l1 = length-append rest (i ∷ []) in let l2 = length_slots (rest_at p.sent p.received w) in let l3 = length-drop (length (log_of p.received w)) old in omega arith

  begun : length (log_of p.received w) ≤ length old
  begun = let q = r.prefix in let e = ap (λ (l : List Pair). length l) q.1 in let l = length-append (log_of p.received w) q.0 in omega arith

  abbrev pub h : ℕ
  h = length (log_of p.received w) + one_if (mark_at p.ended w)

  h_is : h ≡ length (log_of p.received w)
  h_is = ap (λ b. length (log_of p.received w) + one_if b) not_ended ∙ omega arith

  abbrev pub es : List ℕ
  es = entries_of old (mark_at p.ends w)

  es_length : length es ≡ length old
  es_length = ap (λ b. length (entries_of old b)) not_put ∙ entries_length old

  abbrev pub cell : ℕ
  cell = base_of z.buffers w + length (log_of v.sent w) % (z.buffers + 1)

  cell_is : cell ≡ base_of z.buffers w + length es % (z.buffers + 1)
  cell_is = ap (λ (l : List (List Pair)). base_of z.buffers w + length (log_of l w) % (z.buffers + 1)) (t.ingest is_ingest).0 ∙ ap (λ n. base_of z.buffers w + n % (z.buffers + 1)) (sym es_length)

  -- the next cell of the ring is empty
  pub is_free : get_or s.words cell 0 ≡ 0
  is_free = ap (λ c. get_or s.words c 0) cell_is ∙ next_free (z.buffers + 1) s.words (base_of z.buffers w) es h r.cells (omega arith)
      (let a = h_is in let b = es_length in let c = begun in omega arith) (let a = h_is in let b = es_length in let c = few in omega arith)

  abbrev pub words' : List ℕ
  words' = set s.words cell (entry_word (i, k))

  abbrev pub homes' : List (Maybe Stored)
  homes' = set s.homes i (some (Filled x))

  abbrev pub views' : List SeatView
  views' = set s.views id (sent_by w i k v)

  sum_same : (j : ℕ) → in_rings more p.received j z.workers + total (in_held j) views' ≡ in_rings p.sent p.received j z.workers + total (in_held j) s.views
  sum_same j = let rest : List Pair = rest_at p.sent p.received w in let lw = p.lists.0 in
      let now : rest_at more p.received w ≡ rest ++ (i, k) ∷ [] = ap (drop (length (log_of p.received w))) (get_or-set_same p.sent w (old ++ (i, k) ∷ []) [] (omega arith)) ∙ drop_left (length (log_of p.received w)) old ((i, k) ∷ []) begun in
      let m = rings_move p.sent p.received more p.received j z.workers w is_worker (λ y ne. ap (drop (length (log_of p.received y))) (get_or-set_other p.sent w y (old ++ (i, k) ∷ []) [] ne)) in
      let e : times j (slots_of (rest_at more p.received w)) ≡ times j (slots_of rest) + times j (i ∷ []) = ap (λ l. times j (slots_of l)) now ∙ ap (times j) (slots_last rest (i, k)) ∙ times_append j (slots_of rest) (i ∷ []) in
      let ts = total_set (in_held j) s.views id v (sent_by w i k v) at in dite (ℕ_discrete j i)
      (λ is. let F : ℕ → Type 0 = λ y. times y (without i v.held) + times y (i ∷ []) ≡ times y v.held in
      let moved : F j = subst F (sym is) (let a = times_without i v.held has in let b = times_here i [] in omega arith) in omega arith)
      (λ ne. let a = times_without_else i j v.held ne in let b = times_next i j [] ne in omega arith)

  word_same : (j : ℕ) → j < z.buffers → get_or words' j 0 ≡ get_or s.words j 0
  word_same j lt = get_or-set_other s.words cell j (entry_word (i, k)) 0 (λ e. absurd (omega arith))

  -- a slot that a ring has is not i
  not_mine : (y : ℕ) → y < z.workers → (τ : ℕ) (q : Pair) → length (log_of p.received y) ≤ τ → get_elem? (log_of p.sent y) τ ≡ some q → q.0 ≢ i
  not_mine y lt τ q le e is = let a = in_rest (length (log_of p.received y)) τ (log_of p.sent y) q le e in
      let b = ring_at p.sent p.received p.sent p.received i z.workers y lt in let n = alone.1 in
      let c : 0 < times i (slots_of (rest_at p.sent p.received y)) = subst (λ (j : ℕ). 0 < times j (slots_of (rest_at p.sent p.received y))) is a in absurd (omega arith)

  packet_stays : (y : ℕ) → y < z.workers → (τ : ℕ) (q : Pair) → length (log_of p.received y) ≤ τ → get_elem? (log_of p.sent y) τ ≡ some q
      → (a : Packet) × (get_elem? homes' q.0 ≡ some (some (Filled a))) × (a.slot ≡ q.0) × (a.room ≡ z.bytes) × IsRecord z.capture.value q.1 a
  packet_stays y lt τ q le e = let h = (p.rings y lt).packets τ q le e in (h.0, set_else s.homes i q.0 (some (Filled x)) (not_mine y lt τ q le e) ∙ h.1, h.2, h.3, h.4)

  ring_here : Ring z words' homes' more p.received p.ends p.ended w
  ring_here = let lw = p.lists.0 in let now : log_of more w ≡ old ++ (i, k) ∷ [] = get_or-set_same p.sent w (old ++ (i, k) ∷ []) [] (omega arith) in
      let more_entries : entries_of (log_of more w) (mark_at p.ends w) ≡ es ++ entry_word (i, k) ∷ [] =
      ap (λ b. entries_of (log_of more w) b) not_put ∙ ap (λ l. entries_of l false) now ∙ entries_more old (i, k) ∙ ap (λ b. entries_of old b ++ entry_word (i, k) ∷ []) (sym not_put) in
      let F : ℕ × List ℕ → Type 0 = λ y. Cells (z.buffers + 1) (set s.words y.0 (entry_word (i, k))) (base_of z.buffers w) y.1 h in record {
        cells = subst F (λ j. (sym cell_is j, sym more_entries j)) (put (z.buffers + 1) s.words (base_of z.buffers w) es h r.cells (omega arith) (entry_word (i, k))
            (let a = within z.buffers w z.workers z.buffers (omega arith) is_worker in let b = p.words in omega arith)
            (let a = h_is in let b = es_length in let c = begun in omega arith) (let a = h_is in let b = es_length in let c = few in omega arith));
        prefix = (r.prefix.0 ++ (i, k) ∷ [], sym (append_assoc (log_of p.received w) r.prefix.0 ((i, k) ∷ [])) ∙ ap (λ l. l ++ (i, k) ∷ []) r.prefix.1 ∙ sym now);
        rising = subst IsRising (sym now) (rising_last old (i, k) r.rising (subst (λ (l : List (List Pair)). Below k (log_of l w)) (t.ingest is_ingest).0 (above w)));
        share = let a = ap (λ (l : List Pair). length l) now in let b = length-append old ((i, k) ∷ []) in let d = ap (λ (l : List (List Pair)). length (log_of l w)) (t.ingest is_ingest).0 in omega arith;
        done = λ e. absurd (true≢false (sym e ∙ not_ended));
        packets = λ τ q le e. ⊎_elim (λ e'. packet_stays w is_worker τ q le e')
            (λ (is : (i, k) ≡ q). (x, ap (λ (y : Pair). get_elem? homes' y.0) (sym is) ∙ set_here s.homes i (some (Filled x)) (let b = p.homes in omega arith), slot ∙ ap (λ (y : Pair). y.0) is, room, subst (λ (y : Pair). IsRecord z.capture.value y.1 x) is entry))
            (at_snoc old (i, k) q τ (ap (λ l. get_elem? l τ) (sym now) ∙ e));
      }

  ring_else : (y : ℕ) → y < z.workers → y ≢ w → Ring z words' homes' more p.received p.ends p.ended y
  ring_else y lt ne = let o = p.rings y lt in let same : log_of more y ≡ log_of p.sent y = get_or-set_other p.sent w y (old ++ (i, k) ∷ []) [] ne in
      let small : length (log_of v.sent w) % (z.buffers + 1) < z.buffers + 1 = mod-lt (length (log_of v.sent w)) (omega arith) in record {
        cells = subst (λ (l : List Pair). Cells (z.buffers + 1) words' (base_of z.buffers y) (entries_of l (mark_at p.ends y)) (length (log_of p.received y) + one_if (mark_at p.ended y))) (sym same)
            (stays (z.buffers + 1) s.words (base_of z.buffers y) (entries_of (log_of p.sent y) (mark_at p.ends y)) (length (log_of p.received y) + one_if (mark_at p.ended y)) o.cells (omega arith) cell (entry_word (i, k))
            (elsewhere z.buffers w y (length (log_of v.sent w) % (z.buffers + 1)) small ne));
        prefix = (o.prefix.0, o.prefix.1 ∙ sym same);
        rising = subst IsRising (sym same) o.rising;
        share = let a = ap (λ (l : List Pair). length l) same in let b = o.share in omega arith;
        done = λ e. ((o.done e).0, (o.done e).1 ∙ sym same);
        packets = λ τ q le e. packet_stays y lt τ q le (ap (λ l. get_elem? l τ) (sym same) ∙ e);
      }

  apart_still : AreApart more
  apart_still a b m n q q' ne e e' = let lw = p.lists.0 in let now : log_of more w ≡ old ++ (i, k) ∷ [] = get_or-set_same p.sent w (old ++ (i, k) ∷ []) [] (omega arith) in
      let else : (y : ℕ) → y ≢ w → log_of more y ≡ log_of p.sent y = λ y ne'. get_or-set_other p.sent w y (old ++ (i, k) ∷ []) [] ne' in
      let under : (y τ : ℕ) (q : Pair) → get_elem? (log_of p.sent y) τ ≡ some q → q.1 < k = λ y τ q e. below_at k (log_of p.sent y) τ q (subst (λ (l : List (List Pair)). Below k (log_of l y)) (t.ingest is_ingest).0 (above y)) e in
      let was : (y τ : ℕ) (q : Pair) → get_elem? (log_of more y) τ ≡ some q → (get_elem? (log_of p.sent y) τ ≡ some q) ⊎ ((y ≡ w) × (q.1 ≡ k)) = λ y τ q e. dite (ℕ_discrete y w)
      (λ is. ⊎_elim (λ e'. inl (ap (λ j. get_elem? (log_of p.sent j) τ) is ∙ e')) (λ (new : (i, k) ≡ q). inr (is, sym (ap (λ (y : Pair). y.1) new))) (at_snoc old (i, k) q τ (ap (λ l. get_elem? l τ) (sym now) ∙ ap (λ j. get_elem? (log_of more j) τ) (sym is) ∙ e)))
      (λ ne'. inl (ap (λ l. get_elem? l τ) (sym (else y ne')) ∙ e)) in
      ⊎_elim
      (λ (o : get_elem? (log_of p.sent a) m ≡ some q). ⊎_elim (λ (o' : get_elem? (log_of p.sent b) n ≡ some q'). p.apart a b m n q q' ne o o') (λ (new : (b ≡ w) × (q'.1 ≡ k)). λ same. absurd (let l = under a m q o in let f = new.1 in omega arith)) (was b n q' e'))
      (λ (new : (a ≡ w) × (q.1 ≡ k)). ⊎_elim (λ (o' : get_elem? (log_of p.sent b) n ≡ some q'). λ same. absurd (let l = under b n q' o' in let f = new.1 in omega arith)) (λ (new' : (b ≡ w) × (q'.1 ≡ k)). absurd (ne (new.0 ∙ sym new'.0))) (was b n q' e'))
      (was a m q e)

  others : (j : ℕ) (y : SeatView) → j ≢ id → get_elem? s.views j ≡ some y → (y ≡ spent) ⊎ Stands z homes' more p.received p.ends p.ended y
  others j y ne e = ⊎_elim (λ gone. inl gone) (λ (o : Stands z s.homes p.sent p.received p.ends p.ended y). inr record {
    about = o.about;
    counts = o.counts;
    long = o.long;
    claims = o.claims;
    out = o.out;
    role = o.role;
    home = λ m has' in_. set_else s.homes i m (some (Filled x)) (λ is. absurd (let a = total_two (in_held i) s.views id j v y (λ q. ne (sym q)) at e in let b = p.once i below in
        let c : 0 < times i y.held = subst (λ (q : ℕ). 0 < times q y.held) is has' in let d = has in omega arith)) ∙ o.home m has' in_;
    ingest = λ it. absurd (let a = total_two (in_roles 0) s.views id j v y (λ q. ne (sym q)) at e in let b = p.roles 0 (omega arith) in omega arith);
    worker = o.worker;
  }) (p.views j y e)

  mine : Stands z homes' more p.received p.ends p.ended (sent_by w i k v)
  mine = record {
    about = t.about;
    counts = t.counts;
    long = t.long;
    claims = t.claims;
    out = λ j o. absurd (omega arith);
    role = λ j has'. t.role j (dite (ℕ_discrete j i) (λ e. subst (λ (q : ℕ). 0 < times q v.held) (sym e) has) (λ ne. let a = times_without_else i j v.held ne in omega arith));
    home = λ j has' in_. dite (ℕ_discrete j i)
        (λ e. absurd (let a = times_without i v.held has in let b = alone.2 in let c : times j (without i v.held) ≡ times i (without i v.held) = ap (λ q. times q (without i v.held)) e in omega arith))
        (λ ne. let a = times_without_else i j v.held ne in set_else s.homes i j (some (Filled x)) ne ∙ t.home j (omega arith) (ap (times j) out ∙ times_next i j [] ne));
    ingest = λ it. (ap (λ (l : List (List Pair)). set l w (log_of l w ++ (i, k) ∷ [])) (t.ingest it).0, (t.ingest it).1);
    worker = t.worker;
  }

  pub kept : Lanes z record { words = words'; homes = homes'; views = views' }
  kept = record {
    sent = more;
    received = p.received;
    ends = p.ends;
    ended = p.ended;
    words = length-set s.words cell (entry_word (i, k)) ∙ p.words;
    homes = length-set s.homes i (some (Filled x)) ∙ p.homes;
    lists = (length-set p.sent w (old ++ (i, k) ∷ []) ∙ p.lists.0, p.lists.1, p.lists.2, p.lists.3);
    roles = λ q lt. let a = total_set (in_roles q) s.views id v (sent_by w i k v) at in let b = p.roles q lt in omega arith;
    no_more_roles = λ q le. let a = total_set (in_roles q) s.views id v (sent_by w i k v) at in let b = p.no_more_roles q le in omega arith;
    once = λ j lt. let a = sum_same j in let b = p.once j lt in let c = word_same j lt in omega arith;
    inside = λ j le. let a = sum_same j in let b = p.inside j le in omega arith;
    rings = λ y lt. dite (ℕ_discrete y w) (λ e. subst (λ (q : ℕ). Ring z words' homes' more p.received p.ends p.ended q) (sym e) ring_here) (λ ne. ring_else y lt ne);
    apart = apart_still;
    free = λ j lt one. let f = p.free j lt (sym (word_same j lt) ∙ one) in
        (f.0, set_else s.homes i j (some (Filled x)) (λ e. absurd (let a = alone.0 in let b : get_or s.words i 0 ≡ 1 = ap (λ q. get_or s.words q 0) (sym e) ∙ sym (word_same j lt) ∙ one in omega arith)) ∙ f.1, f.2, f.3);
    taken = λ j lt zero_. let a = total_set (λ (y : SeatView). times j y.claimed) s.views id v (sent_by w i k v) at in let b = p.taken j lt (sym (word_same j lt) ∙ zero_) in omega arith;
    views = each_view (λ y. (y ≡ spent) ⊎ Stands z homes' more p.received p.ends p.ended y) s.views id (sent_by w i k v) (inr mine) others;
  }

-- the packet goes into its slot, and then its entry into the next cell
pub sends : (z : LaneKey) (id w i k : ℕ) (v : SeatView) (x : Packet) (c : List (ℕ × Stored)) → 0 < length v.found → w < z.workers → i < z.buffers → 0 < times 0 v.roles → v.out ≡ i ∷ [] → x.slot ≡ i → x.room ≡ z.bytes
    → IsRecord z.capture.value k x → ((y : ℕ) → Below k (log_of v.sent y)) → mark_at v.ends w ≡ false → length (log_of v.sent w) < slice_index z.shares.value.items w
    → Allows (Lanes z) z.buffers id (v, (i, Filled x) ∷ c) (base_of z.buffers w + length (log_of v.sent w) % (z.buffers + 1)) (λ _. entry_word (i, k)) (λ n m'. (n ≡ 0) × (m' ≡ (sent_by w i k v, c)))
sends z id w i k v x c knows is_worker below is_ingest out slot room entry above going left s p _ at _ = (
  sent_by w i k v,
  gives,
  tt,
  kept z s p id w i k v x at knows is_worker below is_ingest out slot room entry above going left,
  (is_free z s p id w i k v x at knows is_worker below is_ingest out slot room entry above going left, refl),
)
