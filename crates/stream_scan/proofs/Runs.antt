-- The bytes of a stream in order, and the pieces in which they are searched.
use Rattle.std.proofs.Common.{◌≡◌, ℕ, zero, suc, ◌+◌, ◌-◌, ◌*◌, ◌/◌, ◌%◌, ◌<◌, ◌≤◌, max, List, [], ◌∷◌, ◌++◌, length, take, drop, refl, sym, ◌∙◌, ap, subst, arith, length-drop}
use Rattle.std.specs.Prelude.{Option, Some, None, IsSome}
use Rattle.std.specs.Option.{option_to_list}
use Rattle.std.proofs.Math.Seq.{drop-append-add}
use Rattle.brick_spec.specs.Stream.{Payload, IsReady, byte_at, bytes_of}
use Rattle.brick_spec.proofs.Streams.{bytes_of-split}
use Rattle.stream_scan.specs.declared.search.Search.{Search}
use Rattle.stream_scan.specs.Searched.{Searched}
use Rattle.stream_scan.proofs.Lasts.{part_from}

one_byte : (o : Option ℕ) (xs : List ℕ) → IsSome o → length (option_to_list o ++ xs) ≡ suc (length xs)
one_byte None xs h = cc
one_byte (Some x) xs h = refl

module _ (payloads : List Payload) (ready : ℕ) (r : IsReady payloads ready) where
  pub run_long : (q n : ℕ) → q + n ≤ ready → length (bytes_of payloads q n) ≡ n
  run_long q zero h = refl
  run_long q (suc n) h = one_byte (byte_at payloads q) (bytes_of payloads (suc q) n) (r.below q (omega arith)) ∙ ap (λ (k : ℕ). suc k) (run_long (suc q) n (omega arith))

  -- what a run of bytes has from a position on
  run_part : (a n q : ℕ) → a ≤ q → q ≤ a + n → a + n ≤ ready → drop (q - a) (bytes_of payloads a n) ≡ bytes_of payloads q (a + n - q)
  run_part a n q h k l =
      let cut : n ≡ (q - a) + (a + n - q) = omega arith in
      let long : length (bytes_of payloads a (q - a)) ≡ q - a = run_long a (q - a) (omega arith) in
      let same : q - a ≡ length (bytes_of payloads a (q - a)) + 0 = omega (arith, long) in
      let place : a + (q - a) ≡ q = omega arith in
      ap (λ (m : ℕ). drop (q - a) (bytes_of payloads a m)) cut
      ∙ ap (drop (q - a)) (bytes_of-split payloads a (q - a) (a + n - q))
      ∙ ap (λ (m : ℕ). drop m (bytes_of payloads a (q - a) ++ bytes_of payloads (a + (q - a)) (a + n - q))) same
      ∙ drop-append-add (bytes_of payloads a (q - a)) (bytes_of payloads (a + (q - a)) (a + n - q)) 0
      ∙ ap (λ (m : ℕ). bytes_of payloads m (a + n - q)) place

  -- a piece of a run of bytes, behind those before it
  pub run_more : (a n q : ℕ) (run : List ℕ) → a ≤ q → q ≤ a + n → a + n ≤ ready → run ≡ bytes_of payloads a n
      → bytes_of payloads 0 q ++ take (length run - (q - a)) (drop (q - a) run) ≡ bytes_of payloads 0 (a + n)
  run_more a n q run h k l e =
      let sum : q + (a + n - q) ≡ a + n = omega arith in
      let from : 0 + q ≡ q = omega arith in
      ap (λ (xs : List ℕ). bytes_of payloads 0 q ++ xs) (part_from (q - a) run ∙ ap (drop (q - a)) e ∙ run_part a n q h k l)
      ∙ ap (λ (m : ℕ). bytes_of payloads 0 q ++ bytes_of payloads m (a + n - q)) (sym from)
      ∙ sym (bytes_of-split payloads 0 q (a + n - q))
      ∙ ap (bytes_of payloads 0) sum

  -- a search that came to a run has then come to its end
  pub run_searched : (s : Search) (a n q from : ℕ) (run : List ℕ) → a ≤ q → q ≤ a + n → a + n ≤ ready → from ≡ q - a → run ≡ bytes_of payloads a n → s.searched ≡ a + n
      → Searched s (bytes_of payloads 0 q ++ take (length run - from) (drop from run)) → Searched s (bytes_of payloads 0 s.searched)
  run_searched s a n q from run h k l f e g b =
      subst (λ (xs : List ℕ). Searched s xs)
      (ap (λ (m : ℕ). bytes_of payloads 0 q ++ take (length run - m) (drop m run)) f ∙ run_more a n q run h k l e ∙ ap (bytes_of payloads 0) (sym g)) b

-- how far a search of the part of a run has come
pub run_end : (q from a n : ℕ) (run : List ℕ) → length run ≡ n → from ≡ q - a → a ≤ q → q ≤ a + n → q + length (take (length run - from) (drop from run)) ≡ a + n
run_end q from a n run e f h k = omega (arith, ap length (part_from from run), length-drop from run)

-- the next window begins at or below what was searched, and ends behind it
pub window_at : (before j size : ℕ) → 0 < size → before / size ≤ j → (j * size ≤ max before (j * size)) × (max before (j * size) ≤ j * size + size)
window_at before j size h k = grind arith

pub window_whole : (ready j size : ℕ) → 0 < size → j < ready / size → j * size + size ≤ ready
window_whole ready j size h k = grind arith

pub next_max : (before j size : ℕ) → 0 < size → before / size ≤ j → j * size + size ≡ max before ((j + 1) * size)
next_max before j size h k = grind arith

pub rest_at : (ready size : ℕ) → 0 < size → (ready / size * size ≡ ready - ready % size) × (ready - ready % size + ready % size ≡ ready)
rest_at ready size h = (grind arith, grind arith)

pub first_window : (before size : ℕ) → 0 < size → before ≡ max before (before / size * size)
first_window before size h = grind arith

-- behind the last whole window
pub rest_from : (before ready j size : ℕ) → 0 < size → before ≤ ready → before / size ≤ j → ready / size ≤ j → j ≤ ready / size → (ready - ready % size ≤ max before (j * size)) × (max before (j * size) ≤ ready - ready % size + ready % size)
rest_from before ready j size h k a b c = grind arith

pub quotient_le : (a b n : ℕ) → 0 < n → a ≤ b → a / n ≤ b / n
quotient_le a b n h k = grind arith
