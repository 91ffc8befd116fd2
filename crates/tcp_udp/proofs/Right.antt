-- A segment whose checksum is right, after an edit.
use Rattle.std.proofs.Common.{◌≡◌, ◌≢◌, ℕ, zero, suc, ◌+◌, ◌-◌, ◌*◌, ◌^◌, ◌<◌, ◌≤◌, List, [], ◌∷◌, length, drop, slice_index, slice_range, true, refl, ap, sym, ◌∙◌, arith, length-take-le, length-drop}
use Rattle.std.proofs.lemmas.Bool.{eqb-true, eq-eqb}
use Rattle.brick_spec.specs.Bytes.{IsBytes}
use Rattle.brick_spec.specs.Checksum.{folded, sum_of_words, adjusted}
use Rattle.brick_spec.specs.Header.{word_at, with_word, number_at, high_word, low_word}
use Rattle.brick_spec.specs.Layer.{protocol_of}
use Rattle.brick_spec.specs.Edit.{readdressed, tcp_edited, with_tcp_address, udp_stored, udp_adjusted, udp_readdressed, udp_edited, with_udp_address}
use Rattle.brick_spec.specs.Transport.{segment_checksum, is_tcp_right, is_udp_right}
use Rattle.std.proofs.lemmas.List.{drop-drop, drop_all, get_or-drop}
use Rattle.brick_spec.proofs.ByteLists.{IsBytes-drop}
use Rattle.brick_spec.proofs.Words.{double, word_small, word_at-with_word, with_word-again, length-with_word, sum-edited}
use Rattle.brick_spec.proofs.Checksums.{adjusted-sum, udp_adjusted-stored}
use Rattle.eth_ip.proofs.FrameLayers.{word_at-drop}
use Rattle.tcp_udp.proofs.Sums.{sum-segment}
use Rattle.tcp_udp.proofs.Segments.{word_at-range}

-- the sum under the checksum of a segment, which stands at twice c
abbrev pub segment_sum : List ℕ → List ℕ → ℕ → ℕ
segment_sum header segment c = sum_of_words (slice_range header 12 20) + (protocol_of header + length segment) + sum_of_words (with_word segment (double c) 0)

checksum_is : (header segment : List ℕ) (c : ℕ) → 20 ≤ length header → length segment < 2 ^ 16 → segment_checksum header segment (double c) ≡ 65535 - folded (segment_sum header segment c)
checksum_is header segment c long small = ap (λ n. 65535 - folded n) (sum-segment header segment c long small)

-- what the laws ask of a header and a segment
pub record AreParts (header segment : List ℕ) (c : ℕ) : Type 0 where
  pub outer : 20 ≤ length header
  pub words : IsBytes segment
  pub small : length segment < 2 ^ 16
  pub long : double c + 2 ≤ length segment
  pub live : 0 < protocol_of header

-- A WORD OF THE SEGMENT CHANGES

pub word-edited : (header xs : List ℕ) (c k v new : ℕ) → AreParts header xs c → v < 2 ^ 16 → k ≢ c → double k + 2 ≤ length xs
    → (segment_sum header (with_word (with_word xs (double k) v) (double c) new) c + word_at xs (double k) ≡ segment_sum header xs c + v)
    × (word_at xs (double k) ≤ segment_sum header xs c)
    × (0 < segment_sum header (with_word (with_word xs (double k) v) (double c) new) c)
    × (length (with_word (with_word xs (double k) v) (double c) new) ≡ length xs)
word-edited header xs c k v new is low other within =
    let x = with_word xs (double k) v in
    let long = is.long in
    let live = is.live in
    let kept : length x ≡ length xs = length-with_word xs (double k) v within in
    let kept' : length (with_word x (double c) new) ≡ length x = length-with_word x (double c) new (omega arith) in
    let sums = sum-edited c k v xs low other long within in
    let again = ap sum_of_words (with_word-again c new 0 x (omega arith)) in
    let e = sums.0 in
    let l = sums.1 in
    (omega arith, omega arith, omega arith, omega arith)

adjusted-small : (ck old new : ℕ) → adjusted ck old new < 2 ^ 16
adjusted-small ck old new = omega arith

pub tcp-edited-right : (header xs : List ℕ) (k v : ℕ) → AreParts header xs 8 → v < 2 ^ 16 → k ≢ 8 → double k + 2 ≤ length xs → is_tcp_right header xs ≡ true → is_tcp_right header (tcp_edited xs (double k) v) ≡ true
tcp-edited-right header xs k v is low other within right =
    let old = word_at xs (double k) in
    let ck = word_at xs 16 in
    let new = adjusted ck old v in
    let x = with_word xs (double k) v in
    let x' = with_word x 16 new in
    let small = is.small in
    let long = is.long in
    let s = word-edited header xs 8 k v new is low other within in
    let kept = length-with_word xs (double k) v within in
    let same = s.3 in
    let was : ck ≡ 65535 - folded (segment_sum header xs 8) = eqb-true ck (segment_checksum header xs 16) right ∙ checksum_is header xs 8 is.outer small in
    let now : new ≡ 65535 - folded (segment_sum header x' 8) = adjusted-sum (segment_sum header xs 8) (segment_sum header x' 8) ck old v (word_small xs (double k) is.words) s.1 s.0 s.2 was in
    let stored : word_at x' 16 ≡ new = word_at-with_word 8 new x (adjusted-small ck old v) (omega arith) in
    eq-eqb (word_at x' 16) (segment_checksum header x' 16) (stored ∙ (now ∙ sym (checksum_is header x' 8 is.outer (omega arith))))

stored-small : (ck : ℕ) → ck < 2 ^ 16 → udp_stored ck < 2 ^ 16
stored-small zero h = omega arith
stored-small (suc ck) h = h

stored-positive : (ck : ℕ) → 0 < udp_stored ck
stored-positive zero = omega arith
stored-positive (suc ck) = omega arith

pub udp-edited-right : (header xs : List ℕ) (k v : ℕ) → AreParts header xs 3 → v < 2 ^ 16 → k ≢ 3 → double k + 2 ≤ length xs → is_udp_right header xs ≡ true
    → (is_udp_right header (udp_edited xs (double k) v) ≡ true) × (0 < word_at (udp_edited xs (double k) v) 6)
udp-edited-right header xs k v is low other within right =
    let old = word_at xs (double k) in
    let field = word_at xs 6 in
    let new = udp_adjusted field old v in
    let x = with_word xs (double k) v in
    let x' = with_word x 6 new in
    let small = is.small in
    let long = is.long in
    let s = word-edited header xs 3 k v new is low other within in
    let kept = length-with_word xs (double k) v within in
    let same = s.3 in
    let ck = 65535 - folded (segment_sum header xs 3) in
    let was : field ≡ udp_stored ck = eqb-true field (udp_stored (segment_checksum header xs 6)) right ∙ ap udp_stored (checksum_is header xs 3 is.outer small) in
    let now : adjusted ck old v ≡ 65535 - folded (segment_sum header x' 3) = adjusted-sum (segment_sum header xs 3) (segment_sum header x' 3) ck old v (word_small xs (double k) is.words) s.1 s.0 s.2 refl in
    let new_is : new ≡ udp_stored (adjusted ck old v) = ap (λ f. udp_adjusted f old v) was ∙ udp_adjusted-stored ck old v in
    let low' = stored-small (adjusted ck old v) (adjusted-small ck old v) in
    let pos = stored-positive (adjusted ck old v) in
    let stored : word_at x' 6 ≡ new = word_at-with_word 3 new x (omega arith) (omega arith) in
    (eq-eqb (word_at x' 6) (udp_stored (segment_checksum header x' 6)) (stored ∙ (new_is ∙ (ap udp_stored now ∙ ap udp_stored (sym (checksum_is header x' 3 is.outer (omega arith)))))), omega arith)

-- AN ADDRESS CHANGES

-- the IPv4 header with another address: the sum of the addresses, and the protocol
pub record IsReaddressed (header header' : List ℕ) (old new : ℕ) : Type 0 where
  pub outer : 20 ≤ length header'
  pub protocol : protocol_of header' ≡ protocol_of header
  pub sum : sum_of_words (slice_range header' 12 20) + (high_word old + low_word old) ≡ sum_of_words (slice_range header 12 20) + (high_word new + low_word new)
  pub least : high_word old + low_word old ≤ sum_of_words (slice_range header 12 20)
  pub small : old < 2 ^ 32

-- two words under a checksum change
readdressed-sum : (sum sum' ck old new : ℕ) → old < 2 ^ 32 → high_word old + low_word old < sum → sum' + (high_word old + low_word old) ≡ sum + (high_word new + low_word new) → ck ≡ 65535 - folded sum
    → readdressed ck old new ≡ 65535 - folded sum'
readdressed-sum sum sum' ck old new small least turned right =
    let middle = (sum - high_word old) + high_word new in
    let half = adjusted-sum sum middle ck (high_word old) (high_word new) (omega arith) (omega arith) (omega arith) (omega arith) right in
    adjusted-sum middle sum' (adjusted ck (high_word old) (high_word new)) (low_word old) (low_word new) (omega arith) (omega arith) (omega arith) (omega arith) half

pub address-edited : (header header' xs : List ℕ) (c old a new : ℕ) → AreParts header xs c → IsReaddressed header header' old a
    → (segment_sum header' (with_word xs (double c) new) c + (high_word old + low_word old) ≡ segment_sum header xs c + (high_word a + low_word a))
    × (high_word old + low_word old < segment_sum header xs c)
    × (length (with_word xs (double c) new) ≡ length xs)
address-edited header header' xs c old a new is turned =
    let live = is.live in
    let kept : length (with_word xs (double c) new) ≡ length xs = length-with_word xs (double c) new is.long in
    let again = ap sum_of_words (with_word-again c new 0 xs is.long) in
    let e = turned.sum in
    let p = turned.protocol in
    let l = turned.least in
    (omega arith, omega arith, kept)

pub tcp-address-right : (header header' xs : List ℕ) (old a : ℕ) → AreParts header xs 8 → IsReaddressed header header' old a → is_tcp_right header xs ≡ true → is_tcp_right header' (with_tcp_address xs old a) ≡ true
tcp-address-right header header' xs old a is turned right =
    let ck = word_at xs 16 in
    let new = readdressed ck old a in
    let x' = with_word xs 16 new in
    let small = is.small in
    let s = address-edited header header' xs 8 old a new is turned in
    let same = s.2 in
    let was : ck ≡ 65535 - folded (segment_sum header xs 8) = eqb-true ck (segment_checksum header xs 16) right ∙ checksum_is header xs 8 is.outer small in
    let now : new ≡ 65535 - folded (segment_sum header' x' 8) = readdressed-sum (segment_sum header xs 8) (segment_sum header' x' 8) ck old a turned.small s.1 s.0 was in
    let stored : word_at x' 16 ≡ new = word_at-with_word 8 new xs (adjusted-small (adjusted ck (high_word old) (high_word a)) (low_word old) (low_word a)) is.long in
    eq-eqb (word_at x' 16) (segment_checksum header' x' 16) (stored ∙ (now ∙ sym (checksum_is header' x' 8 turned.outer (omega arith))))

pub udp-address-right : (header header' xs : List ℕ) (old a : ℕ) → AreParts header xs 3 → IsReaddressed header header' old a → is_udp_right header xs ≡ true
    → (is_udp_right header' (with_udp_address xs old a) ≡ true) × (0 < word_at (with_udp_address xs old a) 6)
udp-address-right header header' xs old a is turned right =
    let field = word_at xs 6 in
    let new = udp_readdressed field old a in
    let x' = with_word xs 6 new in
    let small = is.small in
    let s = address-edited header header' xs 3 old a new is turned in
    let same = s.2 in
    let ck = 65535 - folded (segment_sum header xs 3) in
    let was : field ≡ udp_stored ck = eqb-true field (udp_stored (segment_checksum header xs 6)) right ∙ ap udp_stored (checksum_is header xs 3 is.outer small) in
    let now : readdressed ck old a ≡ 65535 - folded (segment_sum header' x' 3) = readdressed-sum (segment_sum header xs 3) (segment_sum header' x' 3) ck old a turned.small s.1 s.0 refl in
    let half : udp_adjusted field (high_word old) (high_word a) ≡ udp_stored (adjusted ck (high_word old) (high_word a)) =
    ap (λ f. udp_adjusted f (high_word old) (high_word a)) was ∙ udp_adjusted-stored ck (high_word old) (high_word a) in
    let new_is : new ≡ udp_stored (readdressed ck old a) =
    ap (λ f. udp_adjusted f (low_word old) (low_word a)) half ∙ udp_adjusted-stored (adjusted ck (high_word old) (high_word a)) (low_word old) (low_word a) in
    let low' = stored-small (readdressed ck old a) (adjusted-small (adjusted ck (high_word old) (high_word a)) (low_word old) (low_word a)) in
    let pos = stored-positive (readdressed ck old a) in
    let stored : word_at x' 6 ≡ new = word_at-with_word 3 new xs (omega arith) is.long in
    (eq-eqb (word_at x' 6) (udp_stored (segment_checksum header' x' 6)) (stored ∙ (new_is ∙ (ap udp_stored now ∙ ap udp_stored (sym (checksum_is header' x' 3 turned.outer (omega arith)))))), omega arith)

-- the two words of a number of four bytes
words_of_four : (a b c d : ℕ) → a < 256 → b < 256 → c < 256 → d < 256
    → (high_word (a * 16777216 + (b * 65536 + (c * 256 + (d * 1 + 0)))) ≡ a * 256 + (b * 1 + 0)) × (low_word (a * 16777216 + (b * 65536 + (c * 256 + (d * 1 + 0)))) ≡ c * 256 + (d * 1 + 0))
    × (a * 16777216 + (b * 65536 + (c * 256 + (d * 1 + 0))) < 2 ^ 32)
words_of_four a b c d p q r s = (omega arith, omega arith, omega arith)

pub number-words : (bytes : List ℕ) (at : ℕ) → IsBytes bytes → (high_word (number_at bytes at) ≡ word_at bytes at) × (low_word (number_at bytes at) ≡ word_at bytes (at + 2)) × (number_at bytes at < 2 ^ 32)
number-words bytes at fits =
    let D = drop at bytes in
    let b : IsBytes D = IsBytes-drop at bytes fits in
    let w = words_of_four (slice_index D 0) (slice_index D 1) (slice_index D 2) (slice_index D 3) (b 0) (b 1) (b 2) (b 3) in
    let second : slice_index D 2 * 256 + (slice_index D 3 * 1 + 0) ≡ word_at D 2 = omega (arith, get_or-drop 2 D 0 0, get_or-drop 2 D 1 0) in
    (w.0, w.1 ∙ (second ∙ word_at-drop bytes at 2), w.2)

sum-first : (xs : List ℕ) → 2 ≤ length xs → sum_of_words xs ≡ word_at xs 0 + sum_of_words (drop 2 xs)
sum-first [] long = absurd (omega arith)
sum-first (a ∷ []) long = absurd (omega arith)
sum-first (a ∷ (b ∷ xs)) long = omega arith

-- the sum of the two addresses
pub addresses-sum : (header : List ℕ) → 20 ≤ length header → sum_of_words (slice_range header 12 20) ≡ word_at header 12 + word_at header 14 + word_at header 16 + word_at header 18
addresses-sum header long =
    let X = slice_range header 12 20 in
    let behind = length-drop 12 header in
    let eight : length X ≡ 8 = length-take-le 8 (drop 12 header) (omega arith) in
    let s₀ = sum-first X (omega arith) in
    let s₁ = sum-first (drop 2 X) (omega (arith, length-drop 2 X)) in
    let s₂ = sum-first (drop 2 (drop 2 X)) (omega (arith, length-drop 2 X, length-drop 2 (drop 2 X))) in
    let s₃ = sum-first (drop 2 (drop 2 (drop 2 X))) (omega (arith, length-drop 2 X, length-drop 2 (drop 2 X), length-drop 2 (drop 2 (drop 2 X)))) in
    let d₂ : drop 2 (drop 2 X) ≡ drop 4 X = drop-drop 2 2 X in
    let d₃ : drop 2 (drop 2 (drop 2 X)) ≡ drop 6 X = ap (drop 2) d₂ ∙ drop-drop 2 4 X in
    let d₄ : drop 2 (drop 2 (drop 2 (drop 2 X))) ≡ [] = ap (drop 2) d₃ ∙ (drop-drop 2 6 X ∙ drop_all 8 X (omega arith)) in
    let e₄ : sum_of_words (drop 2 (drop 2 (drop 2 (drop 2 X)))) ≡ 0 = ap sum_of_words d₄ in
    let w₀ = word_at-range header 12 20 0 (omega arith) in
    let w₁ = word_at-drop X 2 0 ∙ word_at-range header 12 20 2 (omega arith) in
    let w₂ = ap (λ xs. word_at xs 0) d₂ ∙ (word_at-drop X 4 0 ∙ word_at-range header 12 20 4 (omega arith)) in
    let w₃ = ap (λ xs. word_at xs 0) d₃ ∙ (word_at-drop X 6 0 ∙ word_at-range header 12 20 6 (omega arith)) in
    omega arith
