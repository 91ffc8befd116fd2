-- The bytes of a stream in order are no more than those of its segments, and these no more than those of their frames.
use Rattle.std.proofs.Common.{◌≡◌, ◌⊎◌, inl, inr, ℕ, zero, suc, ◌+◌, ◌-◌, ◌^◌, ◌<◌, ◌≤◌, min, Bool, true, false, cond, List, [], ◌∷◌, ◌++◌, length, drop, Option, Some, None, IsSome, is_some, if◌then◌else◌, refl, ap, sym, subst, ◌∙◌, arith, length-take, length-drop, append_assoc, nat_le}
use Rattle.std.proofs.lemmas.Bool.Decides.{leb_tells}
use Rattle.std.specs.Prelude.{fold, flat_map, option_map}
use Rattle.std.specs.List.{range_with_len, slice_get}
use Rattle.std.specs.Option.{option_or, option_to_list}
use Rattle.brick_spec.specs.Flow.{Direction, Forward, Reversed}
use Rattle.brick_spec.specs.FlowStage.{FlowItem}
use Rattle.brick_spec.specs.Layer.{Layer, payload_in, tcp_layer}
use Rattle.brick_spec.specs.Stream.{StreamSegment, Payload, Reassembly, byte_in, byte_at, ready_of, payload_of, counts, with_segment, reassembly}
use Rattle.brick_spec.proofs.Streams.{ready_is, is_greatest, byte_at-push}
use Rattle.flow_spec.specs.FlowStream.{segment_at, is_same, segments_at, segments_of, stream_of, ready_in}
use Rattle.chain_laws.proofs.Totals.{total, total_both, total_less, total_sum, total_none, total_flat}

abbrev one_if : Bool → ℕ
one_if b = cond b 1 0

abbrev pub bytes_long : List Payload → ℕ
bytes_long payloads = total (λ (p : Payload). length p.bytes) payloads

-- HOW MANY POSITIONS ARE COVERED

-- what a payload has from position k on
abbrev left_of : Payload → ℕ → ℕ
left_of p k = min (length p.bytes) (p.place + length p.bytes - (k + 2 ^ 31))

some_at : (xs : List ℕ) (i : ℕ) → (one_if (is_some (slice_get xs i)) ≡ 0) ⊎ (i < length xs)
some_at [] i = inl refl
some_at (x ∷ xs) zero = inr (omega arith)
some_at (x ∷ xs) (suc i) = by (some_at xs i) where
  by : (one_if (is_some (slice_get xs i)) ≡ 0) ⊎ (i < length xs) → (one_if (is_some (slice_get xs i)) ≡ 0) ⊎ (suc i < length (x ∷ xs))
  by (inl e) = inl e
  by (inr l) = inr (omega (arith, l))

few : (b : Bool) → one_if b ≤ 1
few true = omega arith
few false = omega arith

one_less : (p : Payload) (k : ℕ) → one_if (is_some (byte_in p k)) + left_of p (k + 1) ≤ left_of p k
one_less p k = by (leb_tells p.place (k + 2 ^ 31)) where
  got : p.place ≤ k + 2 ^ 31 → one_if (is_some (slice_get p.bytes (k + 2 ^ 31 - p.place))) + left_of p (k + 1) ≤ left_of p k
  got l = by' (some_at p.bytes (k + 2 ^ 31 - p.place)) where
    by' : (one_if (is_some (slice_get p.bytes (k + 2 ^ 31 - p.place))) ≡ 0) ⊎ (k + 2 ^ 31 - p.place < length p.bytes) → one_if (is_some (slice_get p.bytes (k + 2 ^ 31 - p.place))) + left_of p (k + 1) ≤ left_of p k
    by' (inl e) = omega (arith, e)
    by' (inr h) = omega (arith, l, h, few (is_some (slice_get p.bytes (k + 2 ^ 31 - p.place))))

  by : ((nat_le p.place (k + 2 ^ 31) ≡ true) × (p.place ≤ k + 2 ^ 31)) ⊎ ((nat_le p.place (k + 2 ^ 31) ≡ false) × (k + 2 ^ 31 < p.place)) → one_if (is_some (byte_in p k)) + left_of p (k + 1) ≤ left_of p k
  by (inl t) = rw t.0 (got t.1)
  by (inr t) = rw t.0 (omega arith)

payload_covers : (p : Payload) (k m : ℕ) → total (λ q. one_if (is_some (byte_in p q))) (range_with_len k m) ≤ left_of p k
payload_covers p k zero = omega arith
payload_covers p k (suc m) = omega (arith, payload_covers p (k + 1) m, one_less p k)

either : (a b : Option ℕ) → one_if (is_some (option_or a b)) ≤ one_if (is_some a) + one_if (is_some b)
either None None = omega arith
either None (Some y) = omega arith
either (Some x) b = omega (arith, few (is_some b))

all_cover : (ps : List Payload) (k m : ℕ) → total (λ q. one_if (is_some (byte_at ps q))) (range_with_len k m) ≤ bytes_long ps
all_cover [] k m = omega (arith, total_none (λ (q : ℕ). 0) (λ q. refl) (range_with_len k m))
all_cover (p ∷ ps) k m =
    omega (
      arith,
      total_less (λ q. one_if (is_some (byte_at (p ∷ ps) q))) (λ q. one_if (is_some (byte_in p q)) + one_if (is_some (byte_at ps q))) (λ q. either (byte_in p q) (byte_at ps q)) (range_with_len k m),
      total_sum (λ q. one_if (is_some (byte_in p q))) (λ q. one_if (is_some (byte_at ps q))) (range_with_len k m),
      payload_covers p k m,
      all_cover ps k m,
    )

all_ones : (h : ℕ → ℕ) (k m : ℕ) → ((q : ℕ) → q < k + m → 1 ≤ h q) → m ≤ total h (range_with_len k m)
all_ones h k zero some = omega arith
all_ones h k (suc m) some = omega (arith, some k (omega arith), all_ones h (k + 1) m (λ q l. some q (omega (arith, l))))

is_one : (o : Option ℕ) → IsSome o → 1 ≤ one_if (is_some o)
is_one None h = cc
is_one (Some x) h = omega arith

pub ready_few : (ps : List Payload) → ready_of ps ≤ bytes_long ps
ready_few ps =
    let n = ready_of ps in
    omega (arith, all_ones (λ q. one_if (is_some (byte_at ps q))) 0 n (λ q l. is_one (byte_at ps q) ((ready_is ps).below q (omega (arith, l)))), all_cover ps 0 n)

-- SEGMENTS

with_long : (reach : ℕ) (r : Reassembly) (s : StreamSegment) → bytes_long (with_segment reach r s).payloads ≤ bytes_long r.payloads + length s.bytes
unfolding with_segment
with_long reach r s = by (counts reach r s) where
  by : (b : Bool) → bytes_long (if b then r.payloads ++ payload_of r s ∷ [] else r.payloads) ≤ bytes_long r.payloads + length s.bytes
  by true = omega (arith, total_both (λ (p : Payload). length p.bytes) r.payloads (payload_of r s ∷ []))
  by false = omega arith

fold_long : (reach : ℕ) (r : Reassembly) (ss : List StreamSegment) → bytes_long (fold (with_segment reach) r ss).payloads ≤ bytes_long r.payloads + total (λ (s : StreamSegment). length s.bytes) ss
fold_long reach r [] = omega arith
fold_long reach r (s ∷ ss) = omega (arith, fold_long reach (with_segment reach r s) ss, with_long reach r s)

-- what has come stays in order
grows : (ps : List Payload) (p : Payload) → ready_of ps ≤ ready_of (ps ++ p ∷ [])
grows ps p = is_greatest (ps ++ p ∷ []) (ready_of (ps ++ p ∷ [])) (ready_of ps) (ready_is (ps ++ p ∷ [])) (λ q l. subst IsSome (sym (byte_at-push ps p q)) (first (byte_at ps q) (byte_in p q) ((ready_is ps).below q l))) where
  first : (a b : Option ℕ) → IsSome a → IsSome (option_or a b)
  first None b h = cc
  first (Some x) b h = h

with_grows : (reach : ℕ) (r : Reassembly) (s : StreamSegment) → ready_of r.payloads ≤ ready_of (with_segment reach r s).payloads
unfolding with_segment
with_grows reach r s = by (counts reach r s) where
  by : (b : Bool) → ready_of r.payloads ≤ ready_of (if b then r.payloads ++ payload_of r s ∷ [] else r.payloads)
  by true = grows r.payloads (payload_of r s)
  by false = omega arith

fold_grows : (reach : ℕ) (r : Reassembly) (ss : List StreamSegment) → ready_of r.payloads ≤ ready_of (fold (with_segment reach) r ss).payloads
fold_grows reach r [] = omega arith
fold_grows reach r (s ∷ ss) = omega (arith, fold_grows reach (with_segment reach r s) ss, with_grows reach r s)

-- ITEMS

abbrev frame_long : FlowItem → ℕ
frame_long x = length x.item.frame

payload_few : (frame : List ℕ) (t : Layer) → length (payload_in frame t) ≤ length frame
payload_few frame t = omega (arith, length-take (t.end - t.middle) (drop t.middle frame), length-drop t.middle frame)

item_few : (dir : Direction) (x : FlowItem) → total (λ (s : StreamSegment). length s.bytes) (segments_at dir x) ≤ cond (is_same dir x.dir) (frame_long x) 0
item_few dir x = by (is_same dir x.dir) (tcp_layer x.item.frame) where
  by : (b : Bool) (o : Option Layer) → total (λ (s : StreamSegment). length s.bytes) (if b then option_to_list (option_map (segment_at x.item.frame) o) else []) ≤ cond b (frame_long x) 0
  by true None = omega arith
  by true (Some t) = omega (arith, payload_few x.item.frame t)
  by false o = omega arith

one_way : (d : Direction) (n : ℕ) → cond (is_same Forward d) n 0 + cond (is_same Reversed d) n 0 ≤ n
one_way Forward n = omega arith
one_way Reversed n = omega arith

-- the bytes in order of both directions
pub both_few : (reach : ℕ) (items : List FlowItem) → ready_in reach Forward items + ready_in reach Reversed items ≤ total frame_long items
both_few reach items =
    let of = λ (dir : Direction) (x : FlowItem). cond (is_same dir x.dir) (frame_long x) 0 in
    omega (
      arith,
      one Forward,
      one Reversed,
      total_less (λ x. cond (is_same Forward x.dir) (frame_long x) 0 + cond (is_same Reversed x.dir) (frame_long x) 0) frame_long (λ x. one_way x.dir (frame_long x)) items,
      total_sum (of Forward) (of Reversed) items,
    ) where
      one : (dir : Direction) → ready_in reach dir items ≤ total (λ (x : FlowItem). cond (is_same dir x.dir) (frame_long x) 0) items
      one dir =
          let start : Reassembly = record { base = None; payloads = [] } in
          omega (
            arith,
            ready_few (stream_of reach dir items).payloads,
            fold_long reach start (segments_of dir items),
            total_flat (λ (s : StreamSegment). length s.bytes) (segments_at dir) items,
            total_less (λ x. total (λ (s : StreamSegment). length s.bytes) (segments_at dir x)) (λ x. cond (is_same dir x.dir) (frame_long x) 0) (item_few dir) items,
          )

flat_both : {X Y : Type 0} (f : X → List Y) (xs ys : List X) → flat_map f (xs ++ ys) ≡ flat_map f xs ++ flat_map f ys
flat_both f [] ys = refl
flat_both f (x ∷ xs) ys = ap (λ zs. f x ++ zs) (flat_both f xs ys) ∙ sym (append_assoc (f x) (flat_map f xs) (flat_map f ys))

fold_both : (reach : ℕ) (r : Reassembly) (ss ts : List StreamSegment) → fold (with_segment reach) r (ss ++ ts) ≡ fold (with_segment reach) (fold (with_segment reach) r ss) ts
fold_both reach r [] ts = refl
fold_both reach r (s ∷ ss) ts = fold_both reach (with_segment reach r s) ss ts

-- items more
pub ready_grows : (reach : ℕ) (dir : Direction) (before more : List FlowItem) → ready_in reach dir before ≤ ready_in reach dir (before ++ more)
ready_grows reach dir before more =
    let start : Reassembly = record { base = None; payloads = [] } in
    let same : ready_in reach dir (before ++ more) ≡ ready_of (fold (with_segment reach) (fold (with_segment reach) start (segments_of dir before)) (segments_of dir more)).payloads =
    ap (λ (ss : List StreamSegment). ready_of (reassembly reach ss).payloads) (flat_both (segments_at dir) before more) ∙ ap (λ (r : Reassembly). ready_of r.payloads) (fold_both reach start (segments_of dir before) (segments_of dir more)) in
    omega (arith, same, fold_grows reach (stream_of reach dir before) (segments_of dir more))
