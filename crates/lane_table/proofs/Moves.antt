-- A step on the word of a buffer that is in no ring: a slot is taken, or put back, or a buffer goes home.
use Rattle.std.proofs.Common.{◌≡◌, ◌≢◌, ◌⊎◌, ℕ, ◌+◌, ◌<◌, ◌≤◌, List, [], ◌∷◌, length, get_or, set, sym, refl, ap, ◌∙◌, subst, inl, inr, ⊎_elim, arith, length-set, get_or-set_same, get_or-set_other}
use mathlib.Core.Option.{Option as Maybe, some, none}
use mathlib.Core.Logic.{dite}
use native.Mathlib.Decide.{ℕ_discrete}
use lib.ListN.{get_elem?}
use Rattle.atomic_table.specs.Table.{takes, gives, Allows}
use Rattle.atomic_table.proofs.Lists.{set_here, set_else}
use Rattle.packet_owner.specs.Buffer.{BufferModel as Buffer}
use Rattle.lane_spec.specs.Counts.{total, times, without, one_if}
use Rattle.lane_spec.specs.Pairs.{Pair, slots_of}
use Rattle.lane_table.specs.declared.view.Stored.{Stored}
use Rattle.lane_table.specs.declared.view.Stored.TheVariants.{Empty, Free}
use Rattle.lane_table.specs.declared.view.LaneKey.{LaneKey}
use Rattle.lane_table.specs.declared.view.SeatView.{SeatView}
use Rattle.lane_table.specs.Cells.{entries_of}
use Rattle.lane_table.specs.Rule.{Lanes, Stands, spent, base_of, mark_at, rest_at, in_rings, in_held, in_roles}
use Rattle.lane_table.specs.Steps.{taken_by, settled_by, released_by}
use Rattle.lane_table.proofs.Send.{St, each_view, stands}
use Rattle.lane_core.proofs.Counting.{times_here, times_without, times_without_else}
use Rattle.lane_core.proofs.Views.{total_set, total_at, total_two, times_next}
use Rattle.lane_table.proofs.Cells.{stays}
use Rattle.lane_core.specs.Seats.{log_of}
use Rattle.lane_table.proofs.Rings.{ring_at, in_rest}

module _ (z : LaneKey) (s : St) (p : Lanes z s) (id i : ℕ) (v w : SeatView) (at : get_elem? s.views id ≡ some v) (below : i < z.buffers) (roles : w.roles ≡ v.roles) (claimed : w.claimed ≡ v.claimed)
    (else : (j : ℕ) → j ≢ i → times j w.held ≡ times j v.held) (no_ring : in_rings p.sent p.received i z.workers ≡ 0) where
  not_mine : (y : ℕ) → y < z.workers → (τ : ℕ) (q : Pair) → length (log_of p.received y) ≤ τ → get_elem? (log_of p.sent y) τ ≡ some q → q.0 ≢ i
  not_mine y lt τ q le e is = absurd (let a = in_rest (length (log_of p.received y)) τ (log_of p.sent y) q le e in let b = ring_at p.sent p.received p.sent p.received i z.workers y lt in
      let c : 0 < times i (slots_of (rest_at p.sent p.received y)) = subst (λ (j : ℕ). 0 < times j (slots_of (rest_at p.sent p.received y))) is a in omega arith)

  pub moves : (n : ℕ) (h : Maybe Stored) → n + times i w.held ≡ get_or s.words i 0 + times i v.held → (n ≡ 1 → (b : Buffer) × (h ≡ some (Free b)) × (b.slot ≡ i) × (b.room ≡ z.bytes)) → (n ≡ 0 → get_or s.words i 0 ≡ 0)
      → ((k : ℕ) (u : SeatView) → k ≢ id → get_elem? s.views k ≡ some u → times i u.held ≡ 0) → Stands z (set s.homes i h) p.sent p.received p.ends p.ended w
      → Lanes z record { words = set s.words i n; homes = set s.homes i h; views = set s.views id w }
  moves n h here free was others own = record {
    sent = p.sent;
    received = p.received;
    ends = p.ends;
    ended = p.ended;
    words = length-set s.words i n ∙ p.words;
    homes = length-set s.homes i h ∙ p.homes;
    lists = p.lists;
    roles = λ r lt. let t = total_set (in_roles r) s.views id v w at in let o = p.roles r lt in let e = ap (times r) roles in omega arith;
    no_more_roles = λ r le. let t = total_set (in_roles r) s.views id v w at in let o = p.no_more_roles r le in let e = ap (times r) roles in omega arith;
    once = λ j lt. let t = total_set (in_held j) s.views id v w at in let o = p.once j lt in dite (ℕ_discrete j i)
        (λ e. let F : ℕ → Type 0 = λ k. get_or (set s.words i n) k 0 + in_rings p.sent p.received k z.workers + total (in_held k) (set s.views id w) ≡ 1 in subst F (sym e)
        (let t' = total_set (in_held i) s.views id v w at in let o' = p.once i below in let lw = p.words in let g = get_or-set_same s.words i n 0 (omega arith) in omega arith))
        (λ ne. let g = get_or-set_other s.words i j n 0 ne in let e = else j ne in omega arith);
    inside = λ j le. let ne : j ≢ i = λ e. absurd (omega arith) in let t = total_set (in_held j) s.views id v w at in let o = p.inside j le in let e = else j ne in omega arith;
    rings = λ y lt. let r = p.rings y lt in record {
      cells = stays (z.buffers + 1) s.words (base_of z.buffers y) (entries_of (log_of p.sent y) (mark_at p.ends y)) (length (log_of p.received y) + one_if (mark_at p.ended y)) r.cells (omega arith) i n (inl (omega arith));
      prefix = r.prefix;
      rising = r.rising;
      share = r.share;
      done = r.done;
      packets = λ τ q le e. let k = r.packets τ q le e in (k.0, set_else s.homes i q.0 h (not_mine y lt τ q le e) ∙ k.1, k.2, k.3, k.4);
    };
    apart = p.apart;
    free = λ j lt one. dite (ℕ_discrete j i)
        (λ e. let lw = p.words in let lh = p.homes in let g = get_or-set_same s.words i n 0 (omega arith) in let is : n ≡ 1 = sym g ∙ ap (λ k. get_or (set s.words i n) k 0) (sym e) ∙ one in let f = free is in
        let F : ℕ → Type 0 = λ k. (b : Buffer) × (get_elem? (set s.homes i h) k ≡ some (some (Free b))) × (b.slot ≡ k) × (b.room ≡ z.bytes) in
        subst F (sym e) (f.0, set_here s.homes i h (omega arith) ∙ ap some f.1, f.2, f.3))
        (λ ne. let f = p.free j lt (sym (get_or-set_other s.words i j n 0 ne) ∙ one) in (f.0, set_else s.homes i j h ne ∙ f.1, f.2, f.3));
    taken = λ j lt none_. let t = total_set (λ (y : SeatView). times j y.claimed) s.views id v w at in let e = ap (times j) claimed in dite (ℕ_discrete j i)
        (λ is. let F : ℕ → Type 0 = λ k. 0 < total (λ (y : SeatView). times k y.claimed) (set s.views id w) in subst F (sym is)
        (let t' = total_set (λ (y : SeatView). times i y.claimed) s.views id v w at in let e' = ap (times i) claimed in let lw = p.words in let g = get_or-set_same s.words i n 0 (omega arith) in
        let zero_ : n ≡ 0 = sym g ∙ ap (λ k. get_or (set s.words i n) k 0) (sym is) ∙ none_ in let b = p.taken i below (was zero_) in omega arith))
        (λ ne. let b = p.taken j lt (sym (get_or-set_other s.words i j n 0 ne) ∙ none_) in omega arith);
    views = each_view (λ u. (u ≡ spent) ⊎ Stands z (set s.homes i h) p.sent p.received p.ends p.ended u) s.views id w (inr own)
        (λ k u other e. let none_here = others k u other e in ⊎_elim (λ gone. inl gone) (λ (t : Stands z s.homes p.sent p.received p.ends p.ended u). inr record {
          about = t.about;
          counts = t.counts;
          long = t.long;
          out = t.out;
          claims = t.claims;
          role = t.role;
          home = λ j has in_. set_else s.homes i j h (λ is. absurd (let n' : times j u.held ≡ 0 = ap (λ k'. times k' u.held) is ∙ none_here in omega arith)) ∙ t.home j has in_;
          ingest = t.ingest;
          worker = t.worker;
        }) (p.views k u e));
  }

-- a seat holds it: no other does, no ring has it, and its word is 0
module _ (z : LaneKey) (s : St) (p : Lanes z s) (id i : ℕ) (v : SeatView) (at : get_elem? s.views id ≡ some v) (below : i < z.buffers) (has : 0 < times i v.held) where
  nobody_else : (k : ℕ) (u : SeatView) → k ≢ id → get_elem? s.views k ≡ some u → times i u.held ≡ 0
  nobody_else k u other e = let t = total_two (in_held i) s.views id k v u (λ q. other (sym q)) at e in let o = p.once i below in omega arith

  pub word_taken : (get_or s.words i 0 ≡ 0) × (in_rings p.sent p.received i z.workers ≡ 0) × (times i v.held ≡ 1)
  word_taken = let t = total_at (in_held i) s.views id v at in let o = p.once i below in (omega arith, omega arith, omega arith)

pub out_held : (z : LaneKey) (s : St) (p : Lanes z s) (i : ℕ) (v : SeatView) → Stands z s.homes p.sent p.received p.ends p.ended v → v.out ≡ i ∷ [] → 0 < times i v.held
out_held z s p i v t out = t.out i (let h : times i v.out ≡ times i (i ∷ []) = ap (times i) out in let h' = times_here i [] in omega arith)

-- the word is loaded, and Empty is taken from the slot of a buffer that is held
pub takes_slot : (z : LaneKey) (id i : ℕ) (v : SeatView) (c : List (ℕ × Stored)) → i < z.buffers → 0 < length v.found → v.out ≡ [] → 0 < times i v.held
    → Allows (Lanes z) z.buffers id (v, c) i (λ n. n) (λ n m'. m' ≡ (taken_by i v, (i, Empty) ∷ c))
takes_slot z id i v c below knows idle has s p _ at _ = let t = stands z s p id v at knows in let w : SeatView = taken_by i v in let o = word_taken z s p id i v at below has in (
  w,
  takes i Empty,
  t.home i has (ap (times i) idle),
  moves z s p id i v w at below refl refl (λ _ _. refl) o.1 (get_or s.words i 0) none refl (λ e. absurd (let o' = o.0 in omega arith)) (λ e. e) (nobody_else z s p id i v at below has) record {
    about = t.about;
    counts = t.counts;
    long = t.long;
    claims = t.claims;
    role = t.role;
    ingest = t.ingest;
    worker = t.worker;
    out = λ j out. dite (ℕ_discrete j i) (λ e. subst (λ (k : ℕ). 0 < times k v.held) (sym e) has) (λ ne. absurd (let h = times_next i j [] ne in omega arith));
    home = λ j has' in_. dite (ℕ_discrete j i)
        (λ e. absurd (let h = times_here i [] in let h' : times i (i ∷ []) ≡ 0 = ap (λ k. times k (i ∷ [])) (sym e) ∙ in_ in omega arith))
        (λ ne. set_else s.homes i j none ne ∙ t.home j has' (ap (times j) idle));
  },
  refl,
)

-- the word is loaded, and the slot is put back with Empty in it
pub settles : (z : LaneKey) (id i : ℕ) (v : SeatView) (c : List (ℕ × Stored)) → i < z.buffers → 0 < length v.found → v.out ≡ i ∷ []
    → Allows (Lanes z) z.buffers id (v, (i, Empty) ∷ c) i (λ n. n) (λ n m'. m' ≡ (settled_by v, c))
settles z id i v c below knows out s p _ at _ = let t = stands z s p id v at knows in let w : SeatView = settled_by v in let has = out_held z s p i v t out in let o = word_taken z s p id i v at below has in (
  w,
  gives,
  tt,
  moves z s p id i v w at below refl refl (λ _ _. refl) o.1 (get_or s.words i 0) (some Empty) refl (λ e. absurd (let o' = o.0 in omega arith)) (λ e. e) (nobody_else z s p id i v at below has) record {
    about = t.about;
    counts = t.counts;
    long = t.long;
    claims = t.claims;
    role = t.role;
    ingest = t.ingest;
    worker = t.worker;
    out = λ j out'. absurd (omega arith);
    home = λ j has' in_. dite (ℕ_discrete j i)
        (λ e. let lh = p.homes in subst (λ (k : ℕ). get_elem? (set s.homes i (some Empty)) k ≡ some (some Empty)) (sym e) (set_here s.homes i (some Empty) (omega arith)))
        (λ ne. set_else s.homes i j (some Empty) ne ∙ t.home j has' (ap (times j) out ∙ times_next i j [] ne));
  },
  refl,
)

-- the buffer goes back into its slot, and then the word opens
pub releases : (z : LaneKey) (id i : ℕ) (v : SeatView) (c : List (ℕ × Stored)) (b : Buffer) → i < z.buffers → 0 < length v.found → v.out ≡ i ∷ [] → b.slot ≡ i → b.room ≡ z.bytes
    → Allows (Lanes z) z.buffers id (v, (i, Free b) ∷ c) i (λ _. 1) (λ n m'. (n ≡ 0) × (m' ≡ (released_by i v, c)))
releases z id i v c b below knows out slot room s p _ at _ = let t = stands z s p id v at knows in let w : SeatView = released_by i v in let has = out_held z s p i v t out in let o = word_taken z s p id i v at below has in (
  w,
  gives,
  tt,
  moves z s p id i v w at below refl refl (λ j ne. times_without_else i j v.held ne) o.1 1 (some (Free b)) (let h = times_without i v.held has in let o' = o.0 in omega arith) (λ _. (b, refl, slot, room)) (λ e. absurd (omega arith)) (nobody_else z s p id i v at below has) record {
    about = t.about;
    counts = t.counts;
    long = t.long;
    claims = t.claims;
    ingest = t.ingest;
    worker = t.worker;
    role = λ j has'. t.role j (dite (ℕ_discrete j i) (λ e. subst (λ (k : ℕ). 0 < times k v.held) (sym e) has) (λ ne. let h = times_without_else i j v.held ne in omega arith));
    out = λ j out'. absurd (omega arith);
    home = λ j has' in_. dite (ℕ_discrete j i)
        (λ e. absurd (let a = times_without i v.held has in let d = o.2 in let f : times j (without i v.held) ≡ times i (without i v.held) = ap (λ q. times q (without i v.held)) e in omega arith))
        (λ ne. let a = times_without_else i j v.held ne in set_else s.homes i j (some (Free b)) ne ∙ t.home j (omega arith) (ap (times j) out ∙ times_next i j [] ne));
  },
  (o.0, refl),
)
