-- The last of some bytes.
use Rattle.std.proofs.Common.{◌≡◌, ℕ, ◌+◌, ◌-◌, ◌<◌, ◌≤◌, min, List, [], ◌++◌, length, take, drop, refl, sym, ◌∙◌, ap, arith, inl, inr, append_assoc, length-append, length-drop, take-append-drop, drop_of_length-le}
use Rattle.std.proofs.Math.Seq.{drop-append-add, take-length}
use Rattle.std.proofs.lemmas.List.{drop-append-le}
use Rattle.std.proofs.lemmas.Bool.Decides.{leb_tells}
use Rattle.stream_scan.specs.LastBytes.{last_bytes}

last_behind : (n : ℕ) (front rest : List ℕ) → n ≤ length rest → last_bytes n (front ++ rest) ≡ last_bytes n rest
last_behind n front rest h =
    let e : length (front ++ rest) - n ≡ length front + (length rest - n) = omega (arith, length-append front rest) in
    ap (λ (k : ℕ). drop k (front ++ rest)) e ∙ drop-append-add front rest (length rest - n)

-- behind some bytes, the last of them tell which are the last of all
pub last_run : (n : ℕ) (bytes piece : List ℕ) → last_bytes n (last_bytes n bytes ++ piece) ≡ last_bytes n (bytes ++ piece)
last_run n bytes piece =
    elim (leb_tells n (length bytes)) [
      | inl t ↦ sym (last_behind n (take (length bytes - n) bytes) (last_bytes n bytes ++ piece) (omega (arith, length-append (last_bytes n bytes) piece, length-drop (length bytes - n) bytes)))
          ∙ ap (last_bytes n) (sym (append_assoc (take (length bytes - n) bytes) (last_bytes n bytes) piece) ∙ ap (λ (l : List ℕ). l ++ piece) (take-append-drop (length bytes - n) bytes))
      | inr t ↦ let none : length bytes - n ≡ 0 = omega arith in ap (λ (k : ℕ). last_bytes n (drop k bytes ++ piece)) none
    ]

-- they are put together of the last of a tail and of a piece
pub last_made : (n : ℕ) (tail piece : List ℕ) → drop (length tail - min (length tail) (n - min (length piece) n)) tail ++ drop (length piece - min (length piece) n) piece ≡ last_bytes n (tail ++ piece)
last_made n tail piece =
    elim (leb_tells n (length piece)) [
      | inl t ↦
          let all : length tail - min (length tail) (n - min (length piece) n) ≡ length tail = omega arith in
          let some : length piece - min (length piece) n ≡ length piece - n = omega arith in
          ap (λ (k : ℕ). drop k tail ++ drop (length piece - min (length piece) n) piece) all
          ∙ ap (λ (l : List ℕ). l ++ drop (length piece - min (length piece) n) piece) (drop_of_length-le tail (omega arith))
          ∙ ap (λ (k : ℕ). drop k piece) some
          ∙ sym (last_behind n tail piece t.1)
      | inr t ↦
          let all : length piece - min (length piece) n ≡ 0 = omega arith in
          let some : length tail - min (length tail) (n - min (length piece) n) ≡ length (tail ++ piece) - n = omega (arith, length-append tail piece) in
          ap (λ (k : ℕ). drop (length tail - min (length tail) (n - min (length piece) n)) tail ++ drop k piece) all
          ∙ ap (λ (k : ℕ). drop k tail ++ piece) some
          ∙ sym (drop-append-le (length (tail ++ piece) - n) tail piece (omega (arith, length-append tail piece)))
    ]

-- what a range up to the end has
pub part_from : (k : ℕ) (bytes : List ℕ) → take (length bytes - k) (drop k bytes) ≡ drop k bytes
part_from k bytes = ap (λ (n : ℕ). take n (drop k bytes)) (sym (length-drop k bytes)) ∙ take-length (drop k bytes)

pub last_parts : (n : ℕ) (tail piece : List ℕ) (p t : ℕ) (a b : List ℕ) → p ≡ min (length piece) n → t ≡ min (length tail) (n - p) → a ≡ take (length tail - (length tail - t)) (drop (length tail - t) tail)
    → b ≡ a ++ take (length piece - (length piece - p)) (drop (length piece - p) piece) → b ≡ last_bytes n (tail ++ piece)
last_parts n tail piece p t a b e f g h =
    h
    ∙ ap (λ (l : List ℕ). l ++ take (length piece - (length piece - p)) (drop (length piece - p) piece)) (g ∙ part_from (length tail - t) tail)
    ∙ ap (λ (l : List ℕ). drop (length tail - t) tail ++ l) (part_from (length piece - p) piece)
    ∙ ap (λ (m : ℕ). drop (length tail - m) tail ++ drop (length piece - p) piece) f
    ∙ ap (λ (m : ℕ). drop (length tail - min (length tail) (n - m)) tail ++ drop (length piece - m) piece) e
    ∙ last_made n tail piece
