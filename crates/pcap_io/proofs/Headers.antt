-- A file header by its numbers.
use Rattle.std.proofs.Common.{◌≡◌, ℕ, zero, suc, ◌^◌, ◌<◌, ◌≤◌, Bool, true, false, List, [], ◌∷◌, ◌++◌, length, take, drop, get_or, refl, sym, ◌∙◌, ap, append_assoc, length-append, length-drop, arith}
use Rattle.std.proofs.lemmas.List.{take-append-drop, take_at, drop_at, drop-drop}
use Rattle.std.proofs.lemmas.Nat.{le_bytes_2, be_bytes_2}
use Rattle.byteorder.specs.Numbers.{big_number-reads_back, little_number-reads_back}
use Rattle.brick_spec.specs.Bytes.{Order, Little, Big, two_bytes, four_bytes, number_of_four, after_four, IsBytes}
use Rattle.brick_spec.specs.Capture.{magic}
use Rattle.brick_spec.proofs.Numbers.{length-four_bytes, number-four_bytes, takes_four}
use Rattle.pcap_io.specs.Reading.{number_of_two}
use Rattle.pcap_io.proofs.Places.{IsBytes-drop}

length-two_bytes : (o : Order) (n : ℕ) → length (two_bytes o n) ≡ 2
unfolding two_bytes
length-two_bytes Little n = refl
length-two_bytes Big n = refl

pub number-two_bytes : (o : Order) (n : ℕ) (rest : List ℕ) → n < 2 ^ 16 → number_of_two o (two_bytes o n ++ rest) ≡ n
unfolding two_bytes number_of_two
number-two_bytes Little n rest small = little_number-reads_back 2 n rest small
number-two_bytes Big n rest small = big_number-reads_back 2 n rest small

two_fit : (a b : ℕ) → a < 256 → b < 256 → (i : ℕ) → get_or (a ∷ b ∷ []) i 0 < 256
two_fit a b p q zero = p
two_fit a b p q (suc zero) = q
two_fit a b p q (suc (suc i)) = omega arith

-- two bytes are those of their number
pub takes_two : (o : Order) (bytes : List ℕ) → 2 ≤ length bytes → IsBytes bytes → bytes ≡ two_bytes o (number_of_two o bytes) ++ drop 2 bytes
unfolding two_bytes number_of_two
takes_two Little (a ∷ b ∷ rest) long fits = ap (λ (l : List ℕ). l ++ rest) (sym (le_bytes_2 (a ∷ b ∷ []) _ refl (two_fit a b (fits 0) (fits 1)) (omega arith)))
takes_two Big (a ∷ b ∷ rest) long fits = ap (λ (l : List ℕ). l ++ rest) (sym (be_bytes_2 (a ∷ b ∷ []) _ refl (two_fit a b (fits 0) (fits 1)) (omega arith)))
takes_two o [] long fits = absurd (omega arith)
takes_two o (a ∷ []) long fits = absurd (omega arith)

pub two_small : (o : Order) (bytes : List ℕ) → IsBytes bytes → number_of_two o bytes < 65536
unfolding number_of_two
two_small Little bytes fits = omega (arith, fits 0, fits 1)
two_small Big bytes fits = omega (arith, fits 0, fits 1)

pub magic_small : (nano : Bool) → magic nano < 2 ^ 32
magic_small true = omega arith
magic_small false = omega arith

-- the first four bytes, by their number
pub first_four : (o : Order) (bytes : List ℕ) → IsBytes bytes → 4 ≤ length bytes → take 4 bytes ≡ four_bytes o (number_of_four o bytes)
first_four o bytes fits long = ap (take 4) (takes_four o bytes long fits) ∙ take_at (four_bytes o (number_of_four o bytes)) (after_four bytes) 4 (length-four_bytes o _)

-- and the number, by the bytes
pub number_at_first : (o : Order) (n : ℕ) (bytes : List ℕ) → n < 2 ^ 32 → take 4 bytes ≡ four_bytes o n → number_of_four o bytes ≡ n
number_at_first o n bytes small is = ap (number_of_four o) (sym (take-append-drop 4 bytes) ∙ ap (λ (l : List ℕ). l ++ drop 4 bytes) is) ∙ number-four_bytes o n (drop 4 bytes) small

-- the version's four bytes, by their numbers
pub version_bytes : (o : Order) (bytes : List ℕ) → IsBytes bytes → 8 ≤ length bytes
    → take 4 (drop 4 bytes) ≡ two_bytes o (number_of_two o (drop 4 bytes)) ++ two_bytes o (number_of_two o (drop 6 bytes))
version_bytes o bytes fits long =
    let v : List ℕ = drop 4 bytes in
    let w : List ℕ = drop 6 bytes in
    let a : v ≡ two_bytes o (number_of_two o v) ++ drop 2 v = takes_two o v (omega (arith, length-drop 4 bytes)) (IsBytes-drop 4 bytes fits) in
    let b : w ≡ two_bytes o (number_of_two o w) ++ drop 2 w = takes_two o w (omega (arith, length-drop 6 bytes)) (IsBytes-drop 6 bytes fits) in
    let c : drop 2 v ≡ w = drop-drop 2 4 bytes in
    ap (take 4) (a ∙ ap (λ (l : List ℕ). two_bytes o (number_of_two o v) ++ l) (c ∙ b) ∙ sym (append_assoc (two_bytes o (number_of_two o v)) (two_bytes o (number_of_two o w)) (drop 2 w)))
    ∙ take_at (two_bytes o (number_of_two o v) ++ two_bytes o (number_of_two o w)) (drop 2 w) 4 (omega (arith, length-append (two_bytes o (number_of_two o v)) (two_bytes o (number_of_two o w)), length-two_bytes o (number_of_two o v), length-two_bytes o (number_of_two o w)))

-- and the numbers, by the bytes
pub version_numbers : (o : Order) (major minor : ℕ) (bytes : List ℕ) → major < 2 ^ 16 → minor < 2 ^ 16 → take 4 (drop 4 bytes) ≡ two_bytes o major ++ two_bytes o minor
    → (number_of_two o (drop 4 bytes) ≡ major) × (number_of_two o (drop 6 bytes) ≡ minor)
version_numbers o major minor bytes small1 small2 is =
    let v : List ℕ = drop 4 bytes in
    let a : v ≡ two_bytes o major ++ (two_bytes o minor ++ drop 4 v) = sym (take-append-drop 4 v) ∙ ap (λ (l : List ℕ). l ++ drop 4 v) is ∙ append_assoc (two_bytes o major) (two_bytes o minor) (drop 4 v) in
    let b : drop 6 bytes ≡ two_bytes o minor ++ drop 4 v = sym (drop-drop 2 4 bytes) ∙ ap (drop 2) a ∙ drop_at (two_bytes o major) _ 2 (length-two_bytes o major) in (
      ap (number_of_two o) a ∙ number-two_bytes o major _ small1,
      ap (number_of_two o) b ∙ number-two_bytes o minor _ small2,
    )

little_big : (n m : Bool) → four_bytes Little (magic n) ≡ four_bytes Big (magic m) → ⊥
unfolding four_bytes
little_big true true e = omega (arith, ap (λ (l : List ℕ). get_or l 0 0) e)
little_big true false e = omega (arith, ap (λ (l : List ℕ). get_or l 0 0) e)
little_big false true e = omega (arith, ap (λ (l : List ℕ). get_or l 0 0) e)
little_big false false e = omega (arith, ap (λ (l : List ℕ). get_or l 0 0) e)

-- what the magic number's bytes tell
same_magic : (o p : Order) (n m : Bool) → four_bytes o (magic n) ≡ four_bytes p (magic m) → (o ≡ p) × (n ≡ m)
unfolding four_bytes
same_magic Little Little true true e = (refl, refl)
same_magic Little Little false false e = (refl, refl)
same_magic Big Big true true e = (refl, refl)
same_magic Big Big false false e = (refl, refl)
same_magic Little Little true false e = absurd (omega (arith, ap (λ (l : List ℕ). get_or l 0 0) e))
same_magic Little Little false true e = absurd (omega (arith, ap (λ (l : List ℕ). get_or l 0 0) e))
same_magic Big Big true false e = absurd (omega (arith, ap (λ (l : List ℕ). get_or l 2 0) e))
same_magic Big Big false true e = absurd (omega (arith, ap (λ (l : List ℕ). get_or l 2 0) e))
same_magic Little Big true m e = absurd (little_big true m e)
same_magic Little Big false m e = absurd (little_big false m e)
same_magic Big Little n m e = absurd (little_big m n (sym e))

-- bytes begin in one way
pub magic_unique : (o p : Order) (n m : Bool) (bytes : List ℕ) → take 4 bytes ≡ four_bytes o (magic n) → take 4 bytes ≡ four_bytes p (magic m) → (o ≡ p) × (n ≡ m)
magic_unique o p n m bytes a b = same_magic o p n m (sym a ∙ b)
