-- The sum of words: from a place on, folded, and of many words read as one little-endian number.
use Rattle.std.proofs.Common.{◌≡◌, ℕ, zero, suc, ◌+◌, ◌-◌, ◌*◌, ◌/◌, ◌%◌, ◌<◌, ◌≤◌, List, ◌∷◌, drop, take, length, ap, sym, ◌∙◌, arith, get_or}
use Rattle.std.proofs.Math.Seq.{drop-cons}
use Rattle.std.proofs.lemmas.List.{get_or-take}
use Rattle.std.specs.Int.{w16, w32, w64, from_le_bytes, swap_bytes}
use Rattle.brick_spec.specs.Checksum.{folded, sum_of_words}
use Rattle.brick_spec.proofs.Checksums.{folded_again, folded_more, folded_small, folded_le}

-- the words from a place on are the one there and those behind it
pub sum_of_words-drop : (bytes : List ℕ) (at : ℕ) → at + 1 < length bytes → sum_of_words (drop at bytes) ≡ get_or bytes at 0 * 256 + get_or bytes (at + 1) 0 + sum_of_words (drop (at + 2) bytes)
sum_of_words-drop bytes at h =
    let one = drop-cons bytes at 0 (omega arith) in
    let two = drop-cons bytes (suc at) 0 (omega arith) in
    let next : suc at ≡ at + 1 = omega arith in
    let behind : suc (suc at) ≡ at + 2 = omega arith in
    ap sum_of_words (one ∙ ap (λ t. get_or bytes at 0 ∷ t) two)
    ∙ (ap (λ n. get_or bytes at 0 * 256 + get_or bytes n 0 + sum_of_words (drop (suc (suc at)) bytes)) next ∙ ap (λ n. get_or bytes at 0 * 256 + get_or bytes (at + 1) 0 + sum_of_words (drop n bytes)) behind)

-- a number above 0 folds to its remainder, from 1 on
pub folded_above : (s : ℕ) → 0 < s → (s - 1) % 65535 + 1 ≡ folded s
folded_above zero h = absurd (omega arith)
folded_above (suc s) h =
    let e : suc s - 1 ≡ s = omega arith in
    ap (λ n. n % 65535 + 1) e

-- a multiple of 65,535 more changes nothing, where there is none on top of 0
folded_over : (t s k : ℕ) → t ≡ s + k * 65535 → (0 < k → 0 < s) → folded t ≡ folded s
folded_over t zero zero e h = ap folded e
folded_over t zero (suc k) e h = let none : 0 < 0 = h (omega arith) in absurd (omega arith)
folded_over t (suc s) k e h = ap folded e ∙ folded_more (suc s) k (omega arith)

-- numbers that fold to the same may stand for each other in a sum
pub folded_same : (s x y : ℕ) → folded x ≡ folded y → folded (s + x) ≡ folded (s + y)
folded_same s x y e =
    let left : s + x ≡ x + s = omega arith in
    let right : s + y ≡ y + s = omega arith in
    ap folded left ∙ (sym (folded_again x s) ∙ (ap (λ n. folded (n + s)) e ∙ (folded_again y s ∙ sym (ap folded right))))

-- a word moved up by a byte folds to the word with its bytes exchanged
folded_turned : (x : ℕ) → x ≤ 65535 → folded (x * 256) ≡ x % 256 * 256 + x / 256
folded_turned x h =
    folded_over (x * 256) (x % 256 * 256 + x / 256) (x / 256) (omega arith) (omega arith) ∙ folded_small (x % 256 * 256 + x / 256) (omega arith)

-- a folded sum, with its bytes exchanged, is what the sum moved up by a byte folds to
pub folded_exchanged : (s : ℕ) → swap_bytes w16 (folded s) ≡ folded (s * 256)
folded_exchanged zero = sym (folded_turned 0 (omega arith))
folded_exchanged (suc s) =
    let low = folded_le (suc s) in
    let whole : suc s * 256 ≡ folded (suc s) * 256 + s / 65535 * 256 * 65535 = omega arith in
    let turned : swap_bytes w16 (folded (suc s)) ≡ folded (suc s) % 256 * 256 + folded (suc s) / 256 = omega arith in
    turned ∙ sym (folded_over _ (folded (suc s) * 256) (s / 65535 * 256) whole (omega arith) ∙ folded_turned (folded (suc s)) low)

-- the word at a place
abbrev word_at : List ℕ → ℕ → ℕ
word_at bytes at = get_or bytes at 0 * 256 + get_or bytes (at + 1) 0

-- Four bytes, read as a little-endian number and moved up by a byte, fold to what their words do: a byte that stands too high by 2 ^ 16 or
-- a power of it counts for as much.
four_words : (bytes : List ℕ) (s : ℕ) → folded ((from_le_bytes w32 bytes + s) * 256) ≡ folded (word_at bytes 0 + word_at bytes 2 + s * 256)
four_words bytes s = folded_over _ _ (get_or bytes 1 0 + get_or bytes 2 0 * 256 + get_or bytes 3 0 * 65537) (omega arith) (omega arith)

pub folded_four : (bytes four : List ℕ) (s n : ℕ) → 4 ≤ length bytes → four ≡ take 4 bytes → n ≡ from_le_bytes w32 four → folded (s * 256) ≡ folded (sum_of_words (drop 4 bytes)) → folded ((n + s) * 256) ≡ folded (sum_of_words bytes)
folded_four bytes four s n h e m behind =
    let same = λ (i : ℕ) (k : i < 4). ap (λ xs. get_or xs i 0) e ∙ get_or-take 4 bytes i 0 k in
    let read : n ≡ from_le_bytes w32 bytes = omega (arith, m, same 0 (omega arith), same 1 (omega arith), same 2 (omega arith), same 3 (omega arith)) in
    let first = sum_of_words-drop bytes 0 (omega arith) in
    let second = sum_of_words-drop bytes 2 (omega arith) in
    let words : word_at bytes 0 + word_at bytes 2 + sum_of_words (drop 4 bytes) ≡ sum_of_words bytes = omega arith in
    ap (λ x. folded ((x + s) * 256)) read ∙ (four_words bytes s ∙ (folded_same _ _ _ behind ∙ ap folded words))

-- and so do eight
eight_words : (bytes : List ℕ) (s rest : ℕ) → folded ((s + from_le_bytes w64 bytes) * 256 + rest) ≡ folded (s * 256 + (word_at bytes 0 + word_at bytes 2 + word_at bytes 4 + word_at bytes 6 + rest))
eight_words bytes s rest =
    folded_over _ _ (get_or bytes 1 0 + get_or bytes 2 0 * 256 + get_or bytes 3 0 * 65537 + get_or bytes 4 0 * 16777472 + get_or bytes 5 0 * 4295032833 + get_or bytes 6 0 * 1099528405248 + get_or bytes 7 0 * 281479271743489) (omega arith) (omega arith)

pub folded_eight : (bytes eight : List ℕ) (s n : ℕ) → 8 ≤ length bytes → eight ≡ take 8 bytes → n ≡ from_le_bytes w64 eight → folded ((s + n) * 256 + sum_of_words (drop 8 bytes)) ≡ folded (s * 256 + sum_of_words bytes)
folded_eight bytes eight s n h e m =
    let same = λ (i : ℕ) (k : i < 8). ap (λ xs. get_or xs i 0) e ∙ get_or-take 8 bytes i 0 k in
    let read : n ≡ from_le_bytes w64 bytes = omega (arith, m, same 0 (omega arith), same 1 (omega arith), same 2 (omega arith), same 3 (omega arith), same 4 (omega arith), same 5 (omega arith), same 6 (omega arith), same 7 (omega arith)) in
    let first = sum_of_words-drop bytes 0 (omega arith) in
    let second = sum_of_words-drop bytes 2 (omega arith) in
    let third = sum_of_words-drop bytes 4 (omega arith) in
    let fourth = sum_of_words-drop bytes 6 (omega arith) in
    let rest = sum_of_words (drop 8 bytes) in
    let words : word_at bytes 0 + word_at bytes 2 + word_at bytes 4 + word_at bytes 6 + sum_of_words (drop 8 bytes) ≡ sum_of_words bytes = omega arith in
    ap (λ x. folded ((s + x) * 256 + rest)) read ∙ (eight_words bytes s rest ∙ ap (λ x. folded (s * 256 + x)) words)
