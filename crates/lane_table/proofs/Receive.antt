-- A receive keeps the rule.
use Rattle.std.specs.Prelude.{slice_index}
use Rattle.std.proofs.Common.{◌≡◌, ◌≢◌, ◌⊎◌, ℕ, zero, suc, ◌+◌, ◌%◌, ◌<◌, ◌≤◌, Bool, true, false, true≢false, List, [], ◌∷◌, ◌++◌, drop, length, get_or, set, sym, refl, ap, ◌∙◌, subst, inl, inr, ⊎_elim, arith, length-set, length-append, length-drop, get_or-set_same, get_or-set_other, append_assoc, append-nil, mod-lt}
use mathlib.Core.Option.{Option as Maybe, some, none, some-injective, some-ne-none}
use mathlib.Core.Logic.{dite}
use native.Mathlib.Decide.{ℕ_discrete, dec_le}
use lib.ListN.{get_elem?}
use Rattle.atomic_table.specs.Table.{Act, keeps, takes, Valid, carried_after, stepped, Allows}
use Rattle.atomic_table.proofs.Lists.{set_else, drop_at}
use Rattle.lane_table.proofs.Send.{St, each_view, stands}
use Rattle.std.proofs.lemmas.List.{set-get_or}
use Rattle.packet_owner.specs.Packet.{PacketModel as Packet}
use Rattle.lane_spec.specs.Counts.{total, times, one_if}
use Rattle.lane_spec.specs.Pairs.{Pair, slots_of}
use Rattle.lane_core.specs.Seats.{IsRecord, log_of}
use Rattle.lane_table.specs.declared.view.Stored.{Stored}
use Rattle.lane_table.specs.declared.view.Stored.TheVariants.{Filled}
use Rattle.lane_table.specs.declared.view.LaneKey.{LaneKey}
use Rattle.lane_table.specs.declared.view.SeatView.{SeatView}
use Rattle.lane_table.specs.Cells.{Cells, END, entry_word, entries_of}
use Rattle.lane_table.specs.Rule.{Lanes, Ring, Stands, spent, base_of, mark_at, rest_at, in_rings, in_held, in_roles, Below, IsRising}
use Rattle.lane_table.specs.Steps.{received_by, ended_by, empty_by, Received}
use Rattle.lane_core.proofs.Counting.{times_here, times_append, distinct_below}
use Rattle.lane_core.proofs.Views.{total_set, total_at, total_two, times_next, times_last, times_last_else}
use Rattle.lane_table.proofs.Cells.{next_found, none_found, take, stays}
use Rattle.lane_table.proofs.Rings.{rings_move, ring_at, ring_two, in_rest, elsewhere, within, length_slots}
use Rattle.lane_table.proofs.Order.{next_above}

-- a list of at most n has a member at each place below its length
pub some_at : (l : List Pair) (i : ℕ) → i < length l → (q : Pair) × (get_elem? l i ≡ some q)
some_at [] i lt = absurd (omega arith)
some_at (x ∷ xs) zero lt = (x, refl)
some_at (x ∷ xs) (suc i) lt = some_at xs i (omega arith)

pub word_at : (l : List Pair) (put : Bool) (i : ℕ) (q : Pair) → get_elem? l i ≡ some q → get_or (entries_of l put) i 0 ≡ entry_word q
word_at [] put i q e = absurd (some-ne-none q (sym e))
word_at (x ∷ xs) put zero q e = ap entry_word (some-injective x q e)
word_at (x ∷ xs) put (suc i) q e = word_at xs put i q e

pub end_at : (l : List Pair) (i : ℕ) → i ≡ length l → get_or (entries_of l true) i 0 ≡ END
end_at [] zero e = refl
end_at [] (suc i) e = absurd (omega arith)
end_at (x ∷ xs) zero e = absurd (omega arith)
end_at (x ∷ xs) (suc i) e = end_at xs i (omega arith)

pub entries_long : (l : List Pair) (put : Bool) → length (entries_of l put) ≡ length l + one_if put
entries_long [] true = refl
entries_long [] false = refl
entries_long (x ∷ xs) put = let r = entries_long xs put in omega arith

-- what follows a beginning starts with what stands there
rest_head : (got rest : List Pair) (q : Pair) → get_elem? (got ++ rest) (length got) ≡ some q → (more : List Pair) × (rest ≡ q ∷ more)
rest_head [] [] q e = absurd (some-ne-none q (sym e))
rest_head [] (x ∷ xs) q e = (xs, λ j. some-injective x q e j ∷ xs)
rest_head (g ∷ gs) rest q e = rest_head gs rest q e

pub no_rest : (got rest all : List Pair) → got ++ rest ≡ all → length got ≡ length all → got ≡ all
no_rest got [] all e l = sym (append-nil got) ∙ e
no_rest got (x ∷ xs) all e l = absurd (let a = ap (λ (y : List Pair). length y) e in let b = length-append got (x ∷ xs) in omega arith)

module _ (z : LaneKey) (s : St) (p : Lanes z s) (id w : ℕ) (v : SeatView) (at : get_elem? s.views id ≡ some v) (knows : 0 < length v.found) (is_worker : w < z.workers)
    (role : 0 < times (w + 1) v.roles) (one_role : length v.roles ≡ 1) (free_hand : v.out ≡ []) (going : mark_at v.ended w ≡ false) (small : z.buffers ≤ 1024) where
  t : Stands z s.homes p.sent p.received p.ends p.ended v
  t = stands z s p id v at knows

  abbrev pub old : List Pair
  old = log_of p.sent w

  abbrev pub got : List Pair
  got = log_of p.received w

  abbrev pub put : Bool
  put = mark_at p.ends w

  r : Ring z s.words s.homes p.sent p.received p.ends p.ended w
  r = p.rings w is_worker

  not_ended : mark_at p.ended w ≡ false
  not_ended = sym (t.worker w role).1 ∙ going

  abbrev pub h : ℕ
  h = length got + one_if (mark_at p.ended w)

  h_is : h ≡ length got
  h_is = ap (λ b. length got + one_if b) not_ended ∙ omega arith

  abbrev pub es : List ℕ
  es = entries_of old put

  pub begun : length got ≤ length old
  begun = let q = r.prefix in let e = ap (λ (l : List Pair). length l) q.1 in let l = length-append (log_of p.received w) q.0 in let old_is : length (log_of p.sent w) ≡ length old = refl in omega arith

  -- at most as many as there are buffers were sent and not received
  few : length old ≤ length got + z.buffers
  few = let rest : List ℕ = slots_of (rest_at p.sent p.received w) in
      let d = distinct_below z.buffers rest (λ j lt. let a = ring_at p.sent p.received p.sent p.received j z.workers w is_worker in let o = p.once j lt in omega arith)
      (λ j le. let a = ring_at p.sent p.received p.sent p.received j z.workers w is_worker in let o = p.inside j le in omega arith) in
      let l2 = length_slots (rest_at p.sent p.received w) in let l3 = length-drop (length got) old in omega arith

  abbrev pub cell : ℕ
  cell = base_of z.buffers w + length (log_of v.received w) % (z.buffers + 1)

  cell_is : cell ≡ base_of z.buffers w + h % (z.buffers + 1)
  cell_is = ap (λ (l : List Pair). base_of z.buffers w + length l % (z.buffers + 1)) (t.worker w role).0 ∙ ap (λ n. base_of z.buffers w + n % (z.buffers + 1)) (sym h_is)

  some_cell : 0 < z.buffers + 1
  some_cell = omega arith

  fits : base_of z.buffers w + (z.buffers + 1) ≤ length s.words
  fits = let a = within z.buffers w z.workers z.buffers (omega arith) is_worker in let b = p.words in omega arith

  abbrev pub words' : List ℕ
  words' = set s.words cell 0

  word_same : (j : ℕ) → j < z.buffers → get_or words' j 0 ≡ get_or s.words j 0
  word_same j lt = get_or-set_other s.words cell j 0 0 (λ e. absurd (omega arith))

  -- the cell that was taken is empty, and the ring's place is one further
  taken_cells : h < length es → Cells (z.buffers + 1) words' (base_of z.buffers w) es (suc h)
  taken_cells lt = let F : ℕ → Type 0 = λ c. Cells (z.buffers + 1) (set s.words c 0) (base_of z.buffers w) es (suc h) in subst F (sym cell_is)
      (take (z.buffers + 1) s.words (base_of z.buffers w) es h r.cells some_cell fits lt (let a = h_is in let b = entries_long old put in let c = few in let d = one_small put in omega arith)) where
        one_small : (b : Bool) → one_if b ≤ 1
        one_small true = omega arith
        one_small false = omega arith

  else_cells : (y : ℕ) → y < z.workers → y ≢ w → Cells (z.buffers + 1) words' (base_of z.buffers y) (entries_of (log_of p.sent y) (mark_at p.ends y)) (length (log_of p.received y) + one_if (mark_at p.ended y))
  else_cells y lt ne = let near : length (log_of v.received w) % (z.buffers + 1) < z.buffers + 1 = mod-lt (length (log_of v.received w)) some_cell in
      stays (z.buffers + 1) s.words (base_of z.buffers y) (entries_of (log_of p.sent y) (mark_at p.ends y)) (length (log_of p.received y) + one_if (mark_at p.ended y)) (p.rings y lt).cells some_cell cell 0
      (elsewhere z.buffers w y (length (log_of v.received w) % (z.buffers + 1)) near ne)

  -- nothing lies there: the view's count alone changes
  module _ (all : length got ≡ length old) (quiet : put ≡ false) where
    pub zero_found : get_or s.words cell 0 ≡ 0
    zero_found = ap (λ c. get_or s.words c 0) cell_is ∙ none_found (z.buffers + 1) s.words (base_of z.buffers w) es h r.cells some_cell
        (let a = h_is in let b = entries_long old put in let c : one_if put ≡ 0 = ap one_if quiet in omega arith)

    kept_empty : Lanes z record { words = words'; homes = s.homes; views = set s.views id (empty_by w v) }
    kept_empty = let same : words' ≡ s.words = ap (set s.words cell) (sym zero_found) ∙ set-get_or s.words cell 0 in let e : SeatView = empty_by w v in
        let F : List ℕ → Type 0 = λ l. Lanes z record { words = l; homes = s.homes; views = set s.views id e } in subst F (sym same) record {
          sent = p.sent;
          received = p.received;
          ends = p.ends;
          ended = p.ended;
          words = p.words;
          homes = p.homes;
          lists = p.lists;
          roles = λ q lt. let a = total_set (in_roles q) s.views id v e at in let b = p.roles q lt in omega arith;
          no_more_roles = λ q le. let a = total_set (in_roles q) s.views id v e at in let b = p.no_more_roles q le in omega arith;
          once = λ j lt. let a = total_set (in_held j) s.views id v e at in let b = p.once j lt in omega arith;
          inside = λ j le. let a = total_set (in_held j) s.views id v e at in let b = p.inside j le in omega arith;
          rings = p.rings;
          apart = p.apart;
          free = p.free;
          taken = λ j lt zero_. let a = total_set (λ (y : SeatView). times j y.claimed) s.views id v e at in let b = p.taken j lt zero_ in omega arith;
          views = each_view (λ y. (y ≡ spent) ⊎ Stands z s.homes p.sent p.received p.ends p.ended y) s.views id e
              (inr record { about = t.about; counts = (t.counts.0, length-set v.empty w _ ∙ t.counts.1); long = t.long; out = t.out; claims = t.claims; role = t.role; home = t.home; ingest = t.ingest; worker = t.worker })
              (λ k u _ e. p.views k u e);
        }

  -- END lies there
  module _ (all : length got ≡ length old) (ends : put ≡ true) where
    last_here : h < length es
    last_here = let a = h_is in let b = entries_long old put in let c : one_if put ≡ 1 = ap one_if ends in omega arith

    pub last_found : get_or s.words cell 0 ≡ END
    last_found = ap (λ c. get_or s.words c 0) cell_is ∙ next_found (z.buffers + 1) s.words (base_of z.buffers w) es h r.cells some_cell last_here
        ∙ ap (λ b. get_or (entries_of old b) h 0) ends ∙ end_at old h (let a = h_is in omega arith)

    abbrev pub ended' : List Bool
    ended' = set p.ended w true

    now_ended : mark_at ended' w ≡ true
    now_ended = let l = p.lists.3 in get_or-set_same p.ended w true false (omega arith)

    else_ended : (y : ℕ) → y ≢ w → mark_at ended' y ≡ mark_at p.ended y
    else_ended y ne = get_or-set_other p.ended w y true false ne

    ring_ended : (y : ℕ) → y < z.workers → Ring z words' s.homes p.sent p.received p.ends ended' y
    ring_ended y lt = dite (ℕ_discrete y w)
        (λ e. subst (λ (q : ℕ). Ring z words' s.homes p.sent p.received p.ends ended' q) (sym e) record {
          cells = subst (λ (n : ℕ). Cells (z.buffers + 1) words' (base_of z.buffers w) es n) (let a = h_is in let b : one_if (mark_at ended' w) ≡ 1 = ap one_if now_ended in let e : suc h ≡ length got + one_if (mark_at ended' w) = omega arith in e) (taken_cells last_here);
          prefix = r.prefix;
          rising = r.rising;
          share = r.share;
          done = λ _. (ends, no_rest got r.prefix.0 old r.prefix.1 all);
          packets = r.packets;
        })
        (λ ne. let o = p.rings y lt in record {
          cells = subst (λ (b : Bool). Cells (z.buffers + 1) words' (base_of z.buffers y) (entries_of (log_of p.sent y) (mark_at p.ends y)) (length (log_of p.received y) + one_if b)) (sym (else_ended y ne)) (else_cells y lt ne);
          prefix = o.prefix;
          rising = o.rising;
          share = o.share;
          done = λ e. o.done (sym (else_ended y ne) ∙ e);
          packets = o.packets;
        })

    kept_last : Lanes z record { words = words'; homes = s.homes; views = set s.views id (ended_by w v) }
    kept_last = let e : SeatView = ended_by w v in record {
      sent = p.sent;
      received = p.received;
      ends = p.ends;
      ended = ended';
      words = length-set s.words cell 0 ∙ p.words;
      homes = p.homes;
      lists = (p.lists.0, p.lists.1, p.lists.2, length-set p.ended w true ∙ p.lists.3);
      roles = λ q lt. let a = total_set (in_roles q) s.views id v e at in let b = p.roles q lt in omega arith;
      no_more_roles = λ q le. let a = total_set (in_roles q) s.views id v e at in let b = p.no_more_roles q le in omega arith;
      once = λ j lt. let a = total_set (in_held j) s.views id v e at in let b = p.once j lt in let c = word_same j lt in omega arith;
      inside = λ j le. let a = total_set (in_held j) s.views id v e at in let b = p.inside j le in omega arith;
      rings = ring_ended;
      apart = p.apart;
      free = λ j lt one. p.free j lt (sym (word_same j lt) ∙ one);
      taken = λ j lt zero_. let a = total_set (λ (y : SeatView). times j y.claimed) s.views id v e at in let b = p.taken j lt (sym (word_same j lt) ∙ zero_) in omega arith;
      views = each_view (λ y. (y ≡ spent) ⊎ Stands z s.homes p.sent p.received p.ends ended' y) s.views id e
          (inr record {
            about = t.about;
            counts = t.counts;
            long = (t.long.0, length-set v.ended w true ∙ t.long.1);
            out = t.out;
            claims = t.claims;
            role = t.role;
            home = t.home;
            ingest = t.ingest;
            worker = λ y has. (
              (t.worker y has).0,
              dite (ℕ_discrete y w)
                  (λ is. let l = t.long.1 in ap (mark_at (set v.ended w true)) is ∙ get_or-set_same v.ended w true false (omega arith) ∙ sym (ap (mark_at ended') is ∙ now_ended))
                  (λ ne. get_or-set_other v.ended w y true false ne ∙ (t.worker y has).1 ∙ sym (else_ended y ne)),
            );
          })
          (λ k u other e'. ⊎_elim (λ gone. inl gone) (λ (o : Stands z s.homes p.sent p.received p.ends p.ended u). inr record {
            about = o.about;
            counts = o.counts;
            long = o.long;
            out = o.out;
            claims = o.claims;
            role = o.role;
            home = o.home;
            ingest = o.ingest;
            worker = λ y has. (
              (o.worker y has).0,
              (o.worker y has).1 ∙ sym (else_ended y (λ is. absurd (let a = total_two (in_roles (w + 1)) s.views id k v u (λ q. other (sym q)) at e' in let b = p.roles (w + 1) (omega arith) in
                  let c : 0 < times (w + 1) u.roles = subst (λ (q : ℕ). 0 < times (q + 1) u.roles) is has in omega arith))),
            );
          }) (p.views k u e'));
    }

  -- a packet lies there
  module _ (more : length got < length old) where
    pub nth : (q : Pair) × (get_elem? old (length got) ≡ some q)
    nth = some_at old (length got) more

    abbrev pub q : Pair
    q = nth.0

    abbrev pub i : ℕ
    i = q.0

    x_is : (x : Packet) × (get_elem? s.homes i ≡ some (some (Filled x))) × (x.slot ≡ i) × (x.room ≡ z.bytes) × IsRecord z.capture.value q.1 x
    x_is = r.packets (length got) q (omega arith) nth.1

    next_here : h < length es
    next_here = let a = h_is in let b = entries_long old put in omega arith

    pub next_word : get_or s.words cell 0 ≡ entry_word q
    next_word = ap (λ c. get_or s.words c 0) cell_is ∙ next_found (z.buffers + 1) s.words (base_of z.buffers w) es h r.cells some_cell next_here
        ∙ ap (λ n. get_or es n 0) h_is ∙ word_at old put (length got) q nth.1

    abbrev pub received' : List (List Pair)
    received' = set p.received w (got ++ q ∷ [])

    now : log_of received' w ≡ got ++ q ∷ []
    now = let l = p.lists.1 in get_or-set_same p.received w (got ++ q ∷ []) [] (omega arith)

    else : (y : ℕ) → y ≢ w → log_of received' y ≡ log_of p.received y
    else y ne = get_or-set_other p.received w y (got ++ q ∷ []) [] ne

    now_long : length (log_of received' w) ≡ suc (length got)
    now_long = ap (λ (l : List Pair). length l) now ∙ length-append got (q ∷ []) ∙ omega arith

    rest_was : rest_at p.sent p.received w ≡ q ∷ rest_at p.sent received' w
    rest_was = drop_at old (length got) q nth.1 ∙ ap (λ n. q ∷ drop n old) (sym now_long)

    term : (j : ℕ) → times j (slots_of (rest_at p.sent p.received w)) ≡ times j (i ∷ []) + times j (slots_of (rest_at p.sent received' w))
    term j = ap (λ l. times j (slots_of l)) rest_was ∙ omega arith

    in_sum : 0 < times i (slots_of (rest_at p.sent p.received w))
    in_sum = let a = term i in let b = times_here i [] in omega arith

    pub below : i < z.buffers
    below = elim (dec_le z.buffers i) [
      | yes le ↦ absurd (let a = p.inside i le in let b = ring_at p.sent p.received p.sent p.received i z.workers w is_worker in let c = in_sum in omega arith)
      | no not ↦ omega arith
    ]

    alone : (get_or s.words i 0 ≡ 0) × (in_rings p.sent p.received i z.workers ≡ 1) × (total (in_held i) s.views ≡ 0)
    alone = let a = p.once i below in let b = ring_at p.sent p.received p.sent p.received i z.workers w is_worker in let c = in_sum in (omega arith, omega arith, omega arith)

    abbrev pub e : SeatView
    e = received_by w q v

    sum_same : (j : ℕ) → in_rings p.sent received' j z.workers + total (in_held j) (set s.views id e) ≡ in_rings p.sent p.received j z.workers + total (in_held j) s.views
    sum_same j = let m = rings_move p.sent p.received p.sent received' j z.workers w is_worker (λ y ne. ap (λ (l : List Pair). drop (length l) (log_of p.sent y)) (else y ne)) in
        let a = term j in let ts = total_set (in_held j) s.views id v e at in let b = times_append j v.held (i ∷ []) in omega arith

    abbrev pub homes' : List (Maybe Stored)
    homes' = set s.homes i none

    packet_stays : (y τ : ℕ) (u : Pair) → y < z.workers → length (log_of received' y) ≤ τ → get_elem? (log_of p.sent y) τ ≡ some u
        → (a : Packet) × (get_elem? homes' u.0 ≡ some (some (Filled a))) × (a.slot ≡ u.0) × (a.room ≡ z.bytes) × IsRecord z.capture.value u.1 a
    packet_stays y τ u lt le g = let stood = in_rest (length (log_of received' y)) τ (log_of p.sent y) u le g in let o = alone.1 in
        let apart_ : u.0 ≢ i = λ is. dite (ℕ_discrete y w)
        (λ same. absurd (let a : 0 < times i (slots_of (rest_at p.sent received' w)) = subst (λ (k : ℕ × ℕ). 0 < times k.0 (slots_of (rest_at p.sent received' k.1))) (λ j. (is j, same j)) stood in
        let b = term i in let c = times_here i [] in let d = ring_at p.sent p.received p.sent p.received i z.workers w is_worker in omega arith))
        (λ ne. absurd (let a : 0 < times i (slots_of (drop (length (log_of p.received y)) (log_of p.sent y))) = subst (λ (k : ℕ × List Pair). 0 < times k.0 (slots_of (drop (length k.1) (log_of p.sent y)))) (λ j. (is j, else y ne j)) stood in
        let b = in_sum in let d = ring_two p.sent p.received p.sent p.received i z.workers y w lt is_worker ne in omega arith)) in
        let old_le : length (log_of p.received y) ≤ τ = dite (ℕ_discrete y w) (λ same. let a = ap (λ k. length (log_of received' k)) same in let b = now_long in let d = ap (λ k. length (log_of p.received k)) same in omega arith)
        (λ ne. let a = ap (λ (l : List Pair). length l) (else y ne) in omega arith) in
        let f = (p.rings y lt).packets τ u old_le g in (f.0, set_else s.homes i u.0 none apart_ ∙ f.1, f.2, f.3, f.4)

    ring_next : (y : ℕ) → y < z.workers → Ring z words' homes' p.sent received' p.ends p.ended y
    ring_next y lt = dite (ℕ_discrete y w)
        (λ same. subst (λ (k : ℕ). Ring z words' homes' p.sent received' p.ends p.ended k) (sym same) (let head = rest_head got r.prefix.0 q (ap (λ l. get_elem? l (length got)) r.prefix.1 ∙ nth.1) in record {
          cells = subst (λ (n : ℕ). Cells (z.buffers + 1) words' (base_of z.buffers w) es n) (let a = now_long in let k : suc h ≡ length (log_of received' w) + one_if (mark_at p.ended w) = omega arith in k) (taken_cells next_here);
          prefix = (head.0, ap (λ l. l ++ head.0) now ∙ append_assoc got (q ∷ []) head.0 ∙ ap (λ l. got ++ l) (sym head.1) ∙ r.prefix.1);
          rising = r.rising;
          share = r.share;
          done = λ ended. absurd (true≢false (sym ended ∙ not_ended));
          packets = λ τ u le g. packet_stays w τ u is_worker le g;
        }))
        (λ ne. let o = p.rings y lt in record {
          cells = subst (λ (l : List Pair). Cells (z.buffers + 1) words' (base_of z.buffers y) (entries_of (log_of p.sent y) (mark_at p.ends y)) (length l + one_if (mark_at p.ended y))) (sym (else y ne)) (else_cells y lt ne);
          prefix = (o.prefix.0, ap (λ l. l ++ o.prefix.0) (else y ne) ∙ o.prefix.1);
          rising = o.rising;
          share = o.share;
          done = λ ended. ((o.done ended).0, else y ne ∙ (o.done ended).1);
          packets = λ τ u le g. packet_stays y τ u lt le g;
        })

    not_held : (k : ℕ) (u : SeatView) → get_elem? s.views k ≡ some u → (j : ℕ) → 0 < times j u.held → j ≢ i
    not_held k u g j has is = absurd (let a = total_at (in_held i) s.views k u g in let b = alone.2 in let c : 0 < times i u.held = subst (λ (n : ℕ). 0 < times n u.held) is has in omega arith)

    others : (k : ℕ) (u : SeatView) → k ≢ id → get_elem? s.views k ≡ some u → (u ≡ spent) ⊎ Stands z homes' p.sent received' p.ends p.ended u
    others k u other g = ⊎_elim (λ gone. inl gone) (λ (o : Stands z s.homes p.sent p.received p.ends p.ended u). inr record {
      about = o.about;
      counts = o.counts;
      long = o.long;
      out = o.out;
      claims = o.claims;
      role = o.role;
      ingest = o.ingest;
      home = λ j has in_. set_else s.homes i j none (not_held k u g j has) ∙ o.home j has in_;
      worker = λ y has. (
        (o.worker y has).0 ∙ sym (else y (λ is. absurd (let a = total_two (in_roles (w + 1)) s.views id k v u (λ n. other (sym n)) at g in let b = p.roles (w + 1) (omega arith) in
            let c : 0 < times (w + 1) u.roles = subst (λ (n : ℕ). 0 < times (n + 1) u.roles) is has in omega arith))),
        (o.worker y has).1,
      );
    }) (p.views k u g)

    mine : Stands z homes' p.sent received' p.ends p.ended e
    mine = let none_held : times i v.held ≡ 0 = let a = total_at (in_held i) s.views id v at in let b = alone.2 in omega arith in record {
      about = t.about;
      counts = t.counts;
      long = (length-set v.received w _ ∙ t.long.0, t.long.1);
      claims = t.claims;
      ingest = t.ingest;
      role = λ j _. one_role;
      out = λ j o. dite (ℕ_discrete j i) (λ is. subst (λ (n : ℕ). 0 < times n (v.held ++ i ∷ [])) (sym is) (let a = times_last i v.held in omega arith)) (λ ne. absurd (let a = times_next i j [] ne in omega arith));
      home = λ j has in_. dite (ℕ_discrete j i)
          (λ is. absurd (let a = times_here i [] in let b : times i (i ∷ []) ≡ 0 = ap (λ n. times n (i ∷ [])) (sym is) ∙ in_ in omega arith))
          (λ ne. let a = times_last_else i j v.held ne in set_else s.homes i j none ne ∙ t.home j (omega arith) (ap (times j) free_hand));
      worker = λ y has. (
        dite (ℕ_discrete y w)
            (λ is. let l = t.long.0 in ap (log_of (set v.received w (log_of v.received w ++ q ∷ []))) is ∙ get_or-set_same v.received w (log_of v.received w ++ q ∷ []) [] (omega arith)
            ∙ ap (λ (l : List Pair). l ++ q ∷ []) (t.worker w role).0 ∙ sym now ∙ ap (log_of received') (sym is))
            (λ ne. get_or-set_other v.received w y (log_of v.received w ++ q ∷ []) [] ne ∙ (t.worker y has).0 ∙ sym (else y ne)),
        (t.worker y has).1,
      );
    }

    kept_next : Lanes z record { words = words'; homes = homes'; views = set s.views id e }
    kept_next = record {
      sent = p.sent;
      received = received';
      ends = p.ends;
      ended = p.ended;
      words = length-set s.words cell 0 ∙ p.words;
      homes = length-set s.homes i none ∙ p.homes;
      lists = (p.lists.0, length-set p.received w (got ++ q ∷ []) ∙ p.lists.1, p.lists.2, p.lists.3);
      roles = λ n lt. let a = total_set (in_roles n) s.views id v e at in let b = p.roles n lt in omega arith;
      no_more_roles = λ n le. let a = total_set (in_roles n) s.views id v e at in let b = p.no_more_roles n le in omega arith;
      once = λ j lt. let a = sum_same j in let b = p.once j lt in let c = word_same j lt in omega arith;
      inside = λ j le. let a = sum_same j in let b = p.inside j le in omega arith;
      rings = ring_next;
      apart = p.apart;
      free = λ j lt one. let f = p.free j lt (sym (word_same j lt) ∙ one) in
          (f.0, set_else s.homes i j none (λ is. absurd (let a = alone.0 in let b : get_or s.words i 0 ≡ 1 = ap (λ n. get_or s.words n 0) (sym is) ∙ sym (word_same j lt) ∙ one in omega arith)) ∙ f.1, f.2, f.3);
      taken = λ j lt zero_. let a = total_set (λ (y : SeatView). times j y.claimed) s.views id v e at in let b = p.taken j lt (sym (word_same j lt) ∙ zero_) in omega arith;
      views = each_view (λ y. (y ≡ spent) ⊎ Stands z homes' p.sent received' p.ends p.ended y) s.views id e (inr mine) others;
    }

    above_got : Below q.1 (log_of v.received w)
    above_got = let head = rest_head got r.prefix.0 q (ap (λ l. get_elem? l (length got)) r.prefix.1 ∙ nth.1) in
        subst (Below q.1) (sym (t.worker w role).0) (next_above got q head.0 (subst IsRising (sym r.prefix.1 ∙ ap (λ l. got ++ l) head.1) r.rising))

    not_mine : times i v.held ≡ 0
    not_mine = let a = total_at (in_held i) s.views id v at in let b = alone.2 in omega arith

    room_left : length (log_of v.received w) < slice_index z.shares.value.items w
    room_left = let a = r.share in let b = ap (λ (l : List Pair). length l) (t.worker w role).0 in omega arith

    fewer_held : length v.held < z.buffers
    fewer_held = let d = distinct_below z.buffers (v.held ++ i ∷ [])
        (λ j lt. dite (ℕ_discrete j i) (λ is. subst (λ (k : ℕ). times k (v.held ++ i ∷ []) ≤ 1) (sym is) (let a = times_last i v.held in let b = total_at (in_held i) s.views id v at in let c = alone.2 in omega arith))
        (λ ne. let a = times_last_else i j v.held ne in let b = total_at (in_held j) s.views id v at in let c = p.once j lt in omega arith))
        (λ j le. let a = times_last_else i j v.held (λ is. absurd (let b = below in omega arith)) in let b = total_at (in_held j) s.views id v at in let c = p.inside j le in omega arith) in
        omega (arith, length-append v.held (i ∷ []))

  -- the three answers
  abbrev pub Next : List (ℕ × Stored) → Type 0
  Next c = (u : SeatView) × (a : Act Stored) × Valid s.homes c a × Lanes z (stepped s cell 0 id c u a) × Received z w v c (get_or s.words cell 0) (u, carried_after c a)

  flag : (b : Bool) → (b ≡ true) ⊎ (b ≡ false)
  flag true = inl refl
  flag false = inr refl

  not_end : (q : Pair) → q.0 < z.buffers → entry_word q ≢ END
  not_end q lt same = absurd (omega arith)

  pub answers : (c : List (ℕ × Stored)) → Next c
  answers c = elim (dec_le (length old) (length got)) [
    | yes le ↦ (let all : length got ≡ length old = let b = begun in omega arith in ⊎_elim
        (λ ends. (
          ended_by w v,
          keeps,
          tt,
          kept_last all ends,
          (let f = last_found all ends in record { nothing = λ zero_. absurd (omega arith); last = λ _. refl; next = λ _ not. absurd (not f) }),
        ))
        (λ quiet. (
          empty_by w v,
          keeps,
          tt,
          kept_empty all quiet,
          (let f = zero_found all quiet in record { nothing = λ _. refl; last = λ end. absurd (omega arith); next = λ not _. absurd (not f) }),
        )) (flag put))
    | no not ↦ (let more : length got < length old = omega arith in let x = x_is more in let f = next_word more in (
      received_by w (q more) v,
      takes (i more) (Filled x.0),
      x.1,
      kept_next more,
      record {
        nothing = λ zero_. absurd (omega arith);
        last = λ end. absurd (not_end (q more) (below more) (sym f ∙ end));
        next = λ _ _. record { pair = q more; word = f; left = room_left more; inside = below more; packet = x.0; seat = refl; slot = x.2; room = x.3; entry = x.4; above = above_got more; fewer = fewer_held more; alone = not_mine more };
      },
    ))
  ]

-- the next cell is swapped for 0: nothing, END, or the next packet
pub receives : (z : LaneKey) (id w : ℕ) (v : SeatView) (c : List (ℕ × Stored)) → 0 < length v.found → w < z.workers → 0 < times (w + 1) v.roles → length v.roles ≡ 1 → v.out ≡ [] → mark_at v.ended w ≡ false → z.buffers ≤ 1024
    → Allows (Lanes z) z.buffers id (v, c) (base_of z.buffers w + length (log_of v.received w) % (z.buffers + 1)) (λ _. 0) (Received z w v c)
receives z id w v c knows is_worker role one_role free_hand going small s p _ at _ = answers z s p id w v at knows is_worker role one_role free_hand going small c
