-- The checksum of a segment by its parts.
use Rattle.std.proofs.Common.{◌≡◌, ℕ, zero, suc, ◌+◌, ◌-◌, ◌/◌, ◌%◌, ◌^◌, ◌<◌, ◌≤◌, List, [], ◌∷◌, ◌++◌, length, take, drop, slice_range, refl, ap, sym, ◌∙◌, arith, length-take-le, length-drop, length-append}
use Rattle.byteorder.specs.Endian.{big_bytes}
use Rattle.brick_spec.specs.Checksum.{folded, sum_of_words}
use Rattle.brick_spec.specs.Header.{with_word}
use Rattle.brick_spec.specs.Layer.{protocol_of}
use Rattle.brick_spec.specs.Transport.{pseudo_header, segment_checksum}
use Rattle.brick_spec.proofs.Words.{double, sum-word, sum-append, sum-without}
use Rattle.brick_spec.proofs.Checksums.{folded_again}

pub double_is : (k : ℕ) → double k ≡ k + k
double_is zero = refl
double_is (suc k) = omega (arith, double_is k)

-- an even number is twice its half
pub double-half : (n : ℕ) → n % 2 ≡ 0 → double (n / 2) ≡ n
double-half n h = omega (arith, double_is (n / 2))

-- the sum of the pseudo-header, and its length
pub sum-pseudo : (header : List ℕ) (len : ℕ) → 20 ≤ length header → len < 2 ^ 16
    → (sum_of_words (pseudo_header header len) ≡ sum_of_words (slice_range header 12 20) + (protocol_of header + len)) × (length (pseudo_header header len) ≡ 12)
sum-pseudo header len long small =
    let behind = length-drop 12 header in
    let eight : length (slice_range header 12 20) ≡ 8 = length-take-le 8 (drop 12 header) (omega arith) in
    let tail : List ℕ = 0 ∷ (protocol_of header ∷ big_bytes 2 len) in
    let both = sum-append 4 (slice_range header 12 20) tail eight in
    let word = sum-word len [] small in
    let whole = length-append (slice_range header 12 20) tail in
    (omega arith, omega arith)

-- the sum that the checksum of a segment is made of
pub sum-segment : (header segment : List ℕ) (k : ℕ) → 20 ≤ length header → length segment < 2 ^ 16
    → sum_of_words (pseudo_header header (length segment) ++ with_word segment (double k) 0)
    ≡ sum_of_words (slice_range header 12 20) + (protocol_of header + length segment) + sum_of_words (with_word segment (double k) 0)
sum-segment header segment k long small =
    let front = sum-pseudo header (length segment) long small in
    let both = sum-append 6 (pseudo_header header (length segment)) (with_word segment (double k) 0) front.1 in
    let sum = front.0 in
    omega arith

folded_both : (x y : ℕ) → folded (folded x + folded y) ≡ folded (x + y)
folded_both x y =
    let turned : x + folded y ≡ folded y + x = omega arith in
    let back : y + x ≡ x + y = omega arith in
    folded_again x (folded y) ∙ (ap folded turned ∙ (folded_again y x ∙ ap folded back))

-- the parts may be added up apart
pub checksum-parts : (header segment : List ℕ) (at addresses rest front back add₁ add₂ add₃ : ℕ) → 20 ≤ length header → at % 2 ≡ 0 → at + 2 ≤ length segment → length segment < 2 ^ 16
    → addresses ≡ folded (sum_of_words (slice_range header 12 20)) → rest ≡ folded (protocol_of header + length segment)
    → front ≡ folded (sum_of_words (take at segment)) → back ≡ folded (sum_of_words (drop (at + 2) segment))
    → add₁ ≡ folded (addresses + rest) → add₂ ≡ folded (front + back) → add₃ ≡ folded (add₁ + add₂) → 65535 - add₃ ≡ segment_checksum header segment at
checksum-parts header segment at addresses rest front back add₁ add₂ add₃ long even within small a r f b h₁ h₂ h₃ =
    let k = at / 2 in
    let twice = double-half at even in
    let A = sum_of_words (slice_range header 12 20) in
    let R = protocol_of header + length segment in
    let F = sum_of_words (take at segment) in
    let B = sum_of_words (drop (at + 2) segment) in
    let e₁ : add₁ ≡ folded (A + R) = h₁ ∙ ((λ i. folded (a i + r i)) ∙ folded_both A R) in
    let e₂ : add₂ ≡ folded (F + B) = h₂ ∙ ((λ i. folded (f i + b i)) ∙ folded_both F B) in
    let e₃ : add₃ ≡ folded ((A + R) + (F + B)) = h₃ ∙ ((λ i. folded (e₁ i + e₂ i)) ∙ folded_both (A + R) (F + B)) in
    let next : suc (suc at) ≡ at + 2 = omega arith in
    let apart' = sum-without k segment (omega arith) in
    let apart : sum_of_words (with_word segment at 0) ≡ F + B =
    (λ i. sum_of_words (with_word segment (sym twice i) 0)) ∙ (apart' ∙ ((λ i. sum_of_words (take (twice i) segment) + sum_of_words (drop (suc (suc (twice i))) segment)) ∙ ap (λ n. F + sum_of_words (drop n segment)) next)) in
    let whole = sum-segment header segment k long small in
    let sum : (A + R) + (F + B) ≡ sum_of_words (pseudo_header header (length segment) ++ with_word segment at 0) =
    ap (λ n. (A + R) + n) (sym apart)
    ∙ ((λ i. (A + R) + sum_of_words (with_word segment (sym twice i) 0)) ∙ (sym whole ∙ (λ i. sum_of_words (pseudo_header header (length segment) ++ with_word segment (twice i) 0)))) in
    ap (λ n. 65535 - n) (e₃ ∙ ap folded sum)
