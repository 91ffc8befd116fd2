-- Edits of the front of a list, and of a header in a frame.
use Rattle.std.proofs.Common.{◌≡◌, ℕ, zero, suc, ◌+◌, ◌-◌, ◌<◌, ◌≤◌, List, [], ◌∷◌, ◌++◌, length, take, drop, slice_index, slice_range, Some, refl, ap, sym, ◌∙◌, arith, length-take, length-take-le, length-drop, length-append, append_assoc}
use Rattle.std.proofs.lemmas.List.{take-append-drop, take_at, drop_at, drop-drop, get_or-take, get_or-drop}
use Rattle.std.proofs.lemmas.Slice.{between_is}
use Rattle.brick_spec.specs.Header.{word_at, with_word}
use Rattle.brick_spec.specs.Layer.{Layer, header_in, payload_in, ip4_layer}
use Rattle.brick_spec.specs.Edit.{with_header, edited_at}
use Rattle.brick_spec.proofs.Words.{with_word-append, word_at-append, length-with_word}
use Rattle.tcp_udp.proofs.Segments.{word_at-range}
use Rattle.eth_ip.proofs.FrameLayers.{ip4_layer_says, ip4_layer-same}

-- a byte before a word that is set
pub byte-before : (xs : List ℕ) (at w k : ℕ) → k < at → at ≤ length xs → slice_index (with_word xs at w) k ≡ slice_index xs k
byte-before xs zero w k h long = absurd (omega arith)
byte-before [] (suc at) w k h long = absurd (omega arith)
byte-before (x ∷ xs) (suc at) w zero h long = refl
byte-before (x ∷ xs) (suc at) w (suc k) h long = byte-before xs at w k (omega arith) (omega arith)

-- a byte behind it
pub byte-behind : (xs : List ℕ) (at w k : ℕ) → at + 2 ≤ k → at + 2 ≤ length xs → slice_index (with_word xs at w) k ≡ slice_index xs k
byte-behind [] at w k h long = absurd (omega arith)
byte-behind (x ∷ []) at w k h long = absurd (omega arith)
byte-behind (x ∷ (y ∷ xs)) zero w zero h long = absurd (omega arith)
byte-behind (x ∷ (y ∷ xs)) zero w (suc zero) h long = absurd (omega arith)
byte-behind (x ∷ (y ∷ xs)) zero w (suc (suc k)) h long = refl
byte-behind (x ∷ (y ∷ xs)) (suc at) w zero h long = absurd (omega arith)
byte-behind (x ∷ (y ∷ xs)) (suc at) w (suc k) h long = byte-behind (y ∷ xs) at w k (omega arith) (omega arith)

-- an edit of the first n bytes, whatever stands behind them
pub record IsFrontEdit (n : ℕ) (edit : List ℕ → List ℕ) : Type 0 where
  pub front : (xs ys : List ℕ) → n ≤ length xs → edit (xs ++ ys) ≡ edit xs ++ ys
  pub keeps : (xs : List ℕ) → n ≤ length xs → length (edit xs) ≡ length xs

-- a front edit and a cut behind the front may change places
pub front-take : (n k : ℕ) (edit : List ℕ → List ℕ) (xs : List ℕ) → IsFrontEdit n edit → n ≤ length (take k xs) → take k (edit xs) ≡ edit (take k xs)
front-take n k edit xs is long =
    let first = take k xs in
    let rest = drop k xs in
    let split : edit xs ≡ edit first ++ rest = ap edit (sym (take-append-drop k xs)) ∙ is.front first rest long in
    let kept : length (edit first) ≡ length first = is.keeps first long in
    ap (take k) split ∙ take_seam k xs (edit first) kept
  where
    take_seam : (k : ℕ) (xs ys : List ℕ) → length ys ≡ length (take k xs) → take k (ys ++ drop k xs) ≡ ys
    take_seam zero xs [] h = refl
    take_seam zero xs (y ∷ ys) h = absurd (omega arith)
    take_seam (suc k) [] [] h = refl
    take_seam (suc k) [] (y ∷ ys) h = absurd (omega arith)
    take_seam (suc k) (x ∷ xs) [] h = absurd (omega arith)
    take_seam (suc k) (x ∷ xs) (y ∷ ys) h = ap (λ r. y ∷ r) (take_seam k xs ys (omega arith))

-- a word and the checksum at c, where what the checksum becomes depends on both
pub front_words : (at c w : ℕ) (value : ℕ → ℕ → ℕ) (n : ℕ) → at + 2 ≤ n → c + 2 ≤ n → IsFrontEdit n (λ h. with_word (with_word h at w) c (value (word_at h c) (word_at h at)))
front_words at c w value n a b = record {
  front = λ xs ys long.
      let word = with_word-append at w xs ys (omega arith) in
      let kept = length-with_word xs at w (omega arith) in
      let new = value (word_at xs c) (word_at xs at) in
      let same : value (word_at (xs ++ ys) c) (word_at (xs ++ ys) at) ≡ new = λ i. value (word_at-append c xs ys (let h : c + 2 ≤ length xs = omega arith in h) i) (word_at-append at xs ys (let h : at + 2 ≤ length xs = omega arith in h) i) in
      (λ i. with_word (word i) c (same i)) ∙ with_word-append c new (with_word xs at w) ys (omega arith);
  keeps = λ xs long.
      let kept = length-with_word xs at w (omega arith) in
      let kept' = length-with_word (with_word xs at w) c (value (word_at xs c) (word_at xs at)) (omega arith) in
      kept' ∙ kept;
}

-- the checksum at c alone
pub front_checksum : (c : ℕ) (value : ℕ → ℕ) (n : ℕ) → c + 2 ≤ n → IsFrontEdit n (λ h. with_word h c (value (word_at h c)))
front_checksum c value n b = record {
  front = λ xs ys long.
      let within : c + 2 ≤ length xs = omega arith in
      let same = ap value (word_at-append c xs ys within) in
      (λ i. with_word (xs ++ ys) c (same i)) ∙ with_word-append c (value (word_at xs c)) xs ys within;
  keeps = λ xs long. length-with_word xs c (value (word_at xs c)) (omega arith);
}

-- FRAMES

-- the frame with other bytes from place m on
pub record IsRewritten (frame frame' : List ℕ) (m : ℕ) : Type 0 where
  pub before : take m frame' ≡ take m frame
  pub long : length frame' ≡ length frame

-- a byte before that place
pub byte-rewritten : (frame frame' : List ℕ) (m k : ℕ) → IsRewritten frame frame' m → k < m → slice_index frame' k ≡ slice_index frame k
byte-rewritten frame frame' m k is h = sym (get_or-take m frame' k 0 h) ∙ (ap (λ xs. slice_index xs k) is.before ∙ get_or-take m frame k 0 h)

-- where only what stands behind the IPv4 header is rewritten, the layer and its header stay
pub ip4_layer-rewritten : (frame frame' : List ℕ) (l : Layer) → IsRewritten frame frame' l.middle → ip4_layer frame ≡ Some l → ip4_layer frame' ≡ Some l
ip4_layer-rewritten frame frame' l is h =
    let says = ip4_layer_says frame l h in
    let long = says.long in
    let b₁ = byte-rewritten frame frame' l.middle 16 is (omega arith) in
    let b₂ = byte-rewritten frame frame' l.middle 17 is (omega arith) in
    let c₁ = get_or-drop 16 frame 0 0 in
    let c₂ = get_or-drop 16 frame 1 0 in
    let d₁ = get_or-drop 16 frame' 0 0 in
    let d₂ = get_or-drop 16 frame' 1 0 in
    ip4_layer-same frame frame' l is.long (λ k low high. byte-rewritten frame frame' l.middle k is (omega arith)) (omega arith) h

-- three places in a row
at_three : (k : ℕ) (xs ys : List ℕ) → slice_index ys 12 ≡ slice_index xs 12 → slice_index ys 13 ≡ slice_index xs 13 → slice_index ys 14 ≡ slice_index xs 14
    → (j : ℕ) → k ≡ 12 + j → j ≤ 2 → slice_index ys k ≡ slice_index xs k
at_three k xs ys a b c zero e low = ap (slice_index ys) e ∙ (a ∙ sym (ap (slice_index xs) e))
at_three k xs ys a b c (suc zero) e low = ap (slice_index ys) e ∙ (b ∙ sym (ap (slice_index xs) e))
at_three k xs ys a b c (suc (suc zero)) e low = ap (slice_index ys) e ∙ (c ∙ sym (ap (slice_index xs) e))
at_three k xs ys a b c (suc (suc (suc j))) e low = absurd (omega arith)

-- An edit of the header of n bytes that stands behind the IPv4 header: the IPv4 header stays, and the payload is edited.
pub record IsInnerEdit (frame frame' : List ℕ) (l : Layer) (edit : List ℕ → List ℕ) : Type 0 where
  pub layer : ip4_layer frame' ≡ Some l
  pub long : length frame' ≡ length frame
  pub header_is : header_in frame' l ≡ header_in frame l
  pub payload_is : payload_in frame' l ≡ edit (payload_in frame l)

pub inner_edit : (least n end : ℕ) (edit : List ℕ → List ℕ) (frame : List ℕ) (l : Layer) → IsFrontEdit least edit → ip4_layer frame ≡ Some l → least ≤ n → n ≤ length (payload_in frame l)
    → IsInnerEdit frame (edited_at edit frame (record { start = l.middle; middle = l.middle + n; end = end })) l edit
inner_edit least n end edit frame l is h enough within =
    let says = ip4_layer_says frame l h in
    let there = says.there in
    let m = l.middle in
    let D = drop m frame in
    let head = slice_range frame m (m + n) in
    let behind = drop (m + n) frame in
    let frame' = take m frame ++ (edit head ++ behind) in
    let front : length (take m frame) ≡ m = length-take-le m frame there in
    let room = length-drop m frame in
    let cut = length-take (l.end - m) D in
    let size : m + n - m ≡ n = omega arith in
    let head_is : head ≡ take n D = ap (λ k. take k D) size in
    let head_long : length head ≡ n = ap length head_is ∙ length-take-le n D (omega arith) in
    let joined : head ++ behind ≡ D = (λ i. head_is i ++ sym (drop-drop n m frame) i) ∙ take-append-drop n D in
    let edited : drop m frame' ≡ edit D = drop_at (take m frame) (edit head ++ behind) m front ∙ (sym (is.front head behind (omega arith)) ∙ ap edit joined) in
    let kept : length (edit head) ≡ length head = is.keeps head (omega arith) in
    let whole = length-append (take m frame) (edit head ++ behind) in
    let tail = length-append (edit head) behind in
    let rest = length-drop (m + n) frame in
    let before : take m frame' ≡ take m frame = take_at (take m frame) (edit head ++ behind) m front in
    let rewritten : IsRewritten frame frame' m = record { before = before; long = omega arith } in
    record {
      layer = ip4_layer-rewritten frame frame' l rewritten h;
      long = rewritten.long;
      header_is = between_is frame' l.start m ∙ (ap (drop l.start) before ∙ sym (between_is frame l.start m));
      payload_is = ap (take (l.end - m)) edited ∙ front-take least (l.end - m) edit D is (omega arith);
    }

-- another IPv4 header of the same length, with the same first byte and the same total length
pub record IsOuterEdit (frame frame' : List ℕ) (l : Layer) (header : List ℕ) : Type 0 where
  pub layer : ip4_layer frame' ≡ Some l
  pub long : length frame' ≡ length frame
  pub header_is : header_in frame' l ≡ header
  pub payload_is : payload_in frame' l ≡ payload_in frame l

pub outer_edit : (frame : List ℕ) (l : Layer) (header : List ℕ) → ip4_layer frame ≡ Some l → length header ≡ length (header_in frame l) → slice_index header 0 ≡ slice_index (header_in frame l) 0
    → word_at header 2 ≡ word_at (header_in frame l) 2 → IsOuterEdit frame (with_header frame l header) l header
outer_edit frame l header h same first total =
    let says = ip4_layer_says frame l h in
    let s = l.start in
    let m = l.middle in
    let s_is = says.start in
    let long = says.long in
    let there = says.there in
    let behind = drop m frame in
    let frame' = take s frame ++ (header ++ behind) in
    let front : length (take s frame) ≡ s = length-take-le s frame (omega arith) in
    let room = length-drop s frame in
    let size : length (header_in frame l) ≡ m - s = length-take-le (m - s) (drop s frame) (omega arith) in
    let both = length-append (take s frame) header in
    let header_end : length (take s frame ++ header) ≡ m = omega arith in
    let split : frame' ≡ (take s frame ++ header) ++ behind = sym (append_assoc (take s frame) header behind) in
    let whole = length-append (take s frame ++ header) behind in
    let rest = length-drop m frame in
    let len : length frame' ≡ length frame = omega (arith, ap length split) in
    let header_is : header_in frame' l ≡ header = ap (take (m - s)) (drop_at (take s frame) (header ++ behind) s front) ∙ take_at header behind (m - s) (same ∙ size) in
    let payload_is : payload_in frame' l ≡ payload_in frame l = ap (take (l.end - m)) (ap (drop m) split ∙ drop_at (take s frame ++ header) behind m header_end) in
    let before : take s frame' ≡ take s frame = take_at (take s frame) (header ++ behind) s front in
    let rewritten : IsRewritten frame frame' s = record { before = before; long = len } in
    let first_place : s + 0 ≡ 14 = omega arith in
    let total_place : s + 2 ≡ 16 = omega arith in
    let byte : (x : List ℕ) → slice_index (header_in x l) 0 ≡ slice_index x 14 = λ x. get_or-take (m - s) (drop s x) 0 0 (omega arith) ∙ (get_or-drop s x 0 0 ∙ ap (λ k. slice_index x k) first_place) in
    let word : (x : List ℕ) → word_at (header_in x l) 2 ≡ word_at x 16 = λ x. word_at-range x s m 2 (omega arith) ∙ ap (λ k. word_at x k) total_place in
    let byte_is : slice_index frame' 14 ≡ slice_index frame 14 = sym (byte frame') ∙ (ap (λ xs. slice_index xs 0) header_is ∙ (first ∙ byte frame)) in
    let word_is : word_at frame' 16 ≡ word_at frame 16 = sym (word frame') ∙ (ap (λ xs. word_at xs 2) header_is ∙ (total ∙ word frame)) in
    let b₁ = byte-rewritten frame frame' s 12 rewritten (omega arith) in
    let b₂ = byte-rewritten frame frame' s 13 rewritten (omega arith) in
    record {
      layer = ip4_layer-same frame frame' l len (three frame frame' b₁ b₂ byte_is) word_is h;
      long = len;
      header_is = header_is;
      payload_is = payload_is;
    }
  where
    three : (xs ys : List ℕ) → slice_index ys 12 ≡ slice_index xs 12 → slice_index ys 13 ≡ slice_index xs 13 → slice_index ys 14 ≡ slice_index xs 14
        → (k : ℕ) → 12 ≤ k → k ≤ 14 → slice_index ys k ≡ slice_index xs k
    three xs ys a b c k low high = at_three k xs ys a b c (k - 12) (omega arith) (omega arith)
