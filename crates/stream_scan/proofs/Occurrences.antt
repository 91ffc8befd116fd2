-- Where a text stands in bytes, and in bytes that are put together.
use Rattle.std.proofs.Common.{◌≡◌, ℕ, zero, suc, ◌+◌, ◌-◌, ◌<◌, ◌≤◌, ◌⊎◌, Bool, true, false, List, [], ◌∷◌, ◌++◌, Option, Some, None, length, take, drop, get_or, refl, sym, ◌∙◌, ap, subst, arith, inl, inr, length-append, length-drop, append_assoc, Decides, find}
use Rattle.std.specs.Prelude.{MatchOption, option_map}
use Rattle.std.specs.List.{range_with_len}
use Rattle.std.proofs.Math.ListN.{get_or-append}
use Rattle.std.proofs.lemmas.List.{get_or-append-add, length-take}
use Rattle.std.proofs.lemmas.Bool.{cases_Bool}
use Rattle.std.proofs.lemmas.Bool.Decides.{leb_tells}
use Rattle.std.proofs.lemmas.Slice.Eq.{bytes_eq-Decides}
use Rattle.memchr.specs.Find.{OccursAt, FindsNeedle, NoneBefore}
use Rattle.memchr.proofs.lemmas.MatchLemmas.{OccursAt-part, OccursAt-from_part}
use Rattle.flow_spec.specs.Scan.{stands_at, first_occurrence}

-- THE FIRST OF A RUN OF NUMBERS

-- r is the first of n numbers from a on that pass the test
abbrev IsFirstOf : (ℕ → Bool) → ℕ → ℕ → Option ℕ → Type 0
IsFirstOf p a n r = MatchOption r ((j : ℕ) → a ≤ j → j < a + n → p j ≡ false) (λ k. (a ≤ k) × (k < a + n) × (p k ≡ true) × ((j : ℕ) → a ≤ j → j < k → p j ≡ false))

first_further : (p : ℕ → Bool) (a n : ℕ) (r : Option ℕ) → p a ≡ false → IsFirstOf p (a + 1) n r → IsFirstOf p a (suc n) r
first_further p a n None e h = λ j l k. elim (leb_tells (a + 1) j) [ inl t ↦ h j t.1 (omega arith) | inr t ↦ let same : a ≡ j = omega arith in subst (λ (x : ℕ). p x ≡ false) same e ]
first_further p a n (Some k) e h = (
  omega arith,
  omega arith,
  h.2,
  λ j l m. elim (leb_tells (a + 1) j) [ inl t ↦ h.3 j t.1 m | inr t ↦ let same : a ≡ j = omega arith in subst (λ (x : ℕ). p x ≡ false) same e ],
)

found_is : (p : ℕ → Bool) (a n : ℕ) → IsFirstOf p a n (find p (range_with_len a n))
found_is p a zero = λ j l k. absurd (omega arith)
found_is p a (suc n) = by (p a) refl (found_is p (a + 1) n) where
  by : (b : Bool) → p a ≡ b → IsFirstOf p (a + 1) n (find p (range_with_len (a + 1) n)) → IsFirstOf p a (suc n) (find p (range_with_len a (suc n)))
  by true e h = rw e (omega arith, omega arith, e, λ j l m. absurd (omega arith))
  by false e h = rw e (first_further p a n (find p (range_with_len (a + 1) n)) e h)

-- where the first number passes the test, and where it does not
pub find_here : (p : ℕ → Bool) (a n : ℕ) → 0 < n → p a ≡ true → find p (range_with_len a n) ≡ Some a
find_here p a zero h e = absurd (omega arith)
find_here p a (suc n) h e = rw e refl

pub find_further : (p : ℕ → Bool) (a n m : ℕ) → n ≡ suc m → p a ≡ false → find p (range_with_len a n) ≡ find p (range_with_len (a + 1) m)
find_further p a n m h e = rw (h, e) refl

-- WHERE A TEXT STANDS

module _ (needle : List ℕ) (some : 0 < length needle) where
  stands : (bytes : List ℕ) (k : ℕ) → stands_at needle bytes k ≡ true → OccursAt bytes needle k
  stands bytes k e =
      let same : needle ≡ take (length needle) (drop k bytes) = (bytes_eq-Decides needle (take (length needle) (drop k bytes))).0 e in
      OccursAt-from_part bytes needle k (omega (arith, ap length same, length-take (length needle) (drop k bytes), length-drop k bytes)) (sym same)

  stands_not : (bytes : List ℕ) (k : ℕ) → stands_at needle bytes k ≡ false → ¬ OccursAt bytes needle k
  stands_not bytes k e h = let yes : stands_at needle bytes k ≡ true = (bytes_eq-Decides needle (take (length needle) (drop k bytes))).1 (sym (OccursAt-part bytes needle k h)) in cc

  finds : (bytes : List ℕ) (r : Option ℕ) → IsFirstOf (stands_at needle bytes) 0 (length bytes) r → FindsNeedle bytes needle 0 r
  finds bytes None h = λ k l m o. stands_not bytes k (h k l (omega (arith, o.fits))) o
  finds bytes (Some k) h = (record { low = omega arith; high = omega arith; before = λ j l m. stands_not bytes j (h.3 j l m) }, stands bytes k h.2)

  -- the first occurrence is what a search gives
  pub first_finds : (bytes : List ℕ) → FindsNeedle bytes needle 0 (first_occurrence needle bytes)
  first_finds bytes = finds bytes (first_occurrence needle bytes) (found_is (stands_at needle bytes) 0 (length bytes))

  -- a search gives one answer
  pub finds_one : (bytes : List ℕ) (r s : Option ℕ) → FindsNeedle bytes needle 0 r → FindsNeedle bytes needle 0 s → r ≡ s
  finds_one bytes None None g h = refl
  finds_one bytes None (Some k) g h = absurd (g k h.0.low h.0.high h.1)
  finds_one bytes (Some k) None g h = absurd (h k g.0.low g.0.high g.1)
  finds_one bytes (Some k) (Some l) g h =
      elim (leb_tells (suc k) l) [
        | inl t ↦ absurd (h.0.before k g.0.low t.1 g.1)
        | inr t ↦ elim (leb_tells (suc l) k) [ inl u ↦ absurd (g.0.before l h.0.low u.1 h.1) | inr u ↦ ap (λ (n : ℕ). Some n) (omega arith) ]
      ]

  -- BYTES PUT TOGETHER

  pub occurs_left : (a b : List ℕ) (k : ℕ) → OccursAt (a ++ b) needle k → k + length needle ≤ length a → OccursAt a needle k
  occurs_left a b k h l = record { fits = l; reads = λ j m. sym (get_or-append a b 0 (k + j) (omega arith)) ∙ h.reads j m }

  pub occurs_longer : (a b : List ℕ) (k : ℕ) → OccursAt a needle k → OccursAt (a ++ b) needle k
  occurs_longer a b k h = let fits = h.fits in record { fits = omega (arith, length-append a b); reads = λ j m. get_or-append a b 0 (k + j) (omega arith) ∙ h.reads j m }

  move : (a b c : ℕ) → a + b + c ≡ a + (b + c)
  move a b c = omega arith

  pub occurs_right : (a b : List ℕ) (k : ℕ) → OccursAt (a ++ b) needle (length a + k) → OccursAt b needle k
  occurs_right a b k h =
      let fits = h.fits in
      record {
        fits = omega (arith, length-append a b);
        reads = λ j m. sym (get_or-append-add a b (k + j) 0) ∙ ap (λ (n : ℕ). get_or (a ++ b) n 0) (sym (move (length a) k j)) ∙ h.reads j m;
      }

  pub occurs_behind : (a b : List ℕ) (k : ℕ) → OccursAt b needle k → OccursAt (a ++ b) needle (length a + k)
  occurs_behind a b k h =
      let fits = h.fits in
      record {
        fits = omega (arith, length-append a b);
        reads = λ j m. ap (λ (n : ℕ). get_or (a ++ b) n 0) (move (length a) k j) ∙ get_or-append-add a b (k + j) 0 ∙ h.reads j m;
      }

  no_more : (bytes : List ℕ) → FindsNeedle bytes needle 0 None → (k : ℕ) → ¬ OccursAt bytes needle k
  no_more bytes h k o = h k (omega arith) (omega (arith, o.fits)) o

  -- Bytes and a piece behind them, each cut in two: what an occurrence over the cut between them can have of them is `tail` and `head`.
  pub record Cut (bytes piece front tail head back : List ℕ) : Type 0 where
    pub before : front ++ tail ≡ bytes
    pub behind : head ++ back ≡ piece
    pub far : 0 < length front → length needle ≤ length tail + 1
    pub near : 0 < length back → length needle ≤ length head + 1
    pub short : length head < length needle

  module _ (bytes piece front tail head back : List ℕ) (c : Cut bytes piece front tail head back) where
    lengths : (length bytes ≡ length front + length tail) × (length piece ≡ length head + length back)
    lengths = (sym (ap length c.before) ∙ length-append front tail, sym (ap length c.behind) ∙ length-append head back)

    -- the bytes and the head, and behind them the back
    around : (front ++ (tail ++ head)) ++ back ≡ bytes ++ piece
    around =
        ap (λ (l : List ℕ). l ++ back) (sym (append_assoc front tail head))
        ∙ append_assoc (front ++ tail) head back
        ∙ ap (λ (l : List ℕ). l ++ (head ++ back)) c.before
        ∙ ap (λ (l : List ℕ). bytes ++ l) c.behind

    in_seam : (k : ℕ) → OccursAt (tail ++ head) needle k → OccursAt (bytes ++ piece) needle (length front + k)
    in_seam k h = subst (λ (l : List ℕ). OccursAt l needle (length front + k)) around (occurs_longer (front ++ (tail ++ head)) back (length front + k) (occurs_behind front (tail ++ head) k h))

    -- an occurrence from `front` on that is none in the piece
    seam_has : (i : ℕ) → OccursAt (bytes ++ piece) needle (length front + i) → i < length tail → OccursAt (tail ++ head) needle i
    seam_has i h l =
        let fits : length front + i + length needle ≤ length (bytes ++ piece) = h.fits in
        let n = lengths in
        occurs_right front (tail ++ head) i
        (occurs_left (front ++ (tail ++ head)) back (length front + i) (subst (λ (b : List ℕ). OccursAt b needle (length front + i)) (sym around) h)
        (elim (leb_tells 1 (length back)) [
          | inl t ↦ let near : length needle ≤ length head + 1 = c.near t.1 in omega (arith, length-append front (tail ++ head), length-append tail head)
          | inr t ↦ omega (arith, length-append front (tail ++ head), length-append tail head, length-append bytes piece)
        ]))

    bytes_have : (k : ℕ) → OccursAt (bytes ++ piece) needle k → k < length front → OccursAt bytes needle k
    bytes_have k h l = let far : length needle ≤ length tail + 1 = c.far (omega arith) in let n = lengths in occurs_left bytes piece k h (omega arith)

    -- it stands nowhere before a place where it is in none of the three
    nowhere : (k : ℕ) → FindsNeedle bytes needle 0 None → ((i : ℕ) → length front + i < k → ¬ OccursAt (tail ++ head) needle i) → ((i : ℕ) → length bytes + i < k → ¬ OccursAt piece needle i)
        → (j : ℕ) → j < k → ¬ OccursAt (bytes ++ piece) needle j
    nowhere k none seam rest j l h =
        let n = lengths in
        elim (leb_tells (length front) j) [
          | inr t ↦ no_more bytes none j (bytes_have j h t.1)
          | inl t ↦ elim (leb_tells (length bytes) j) [
            | inl u ↦ rest (j - length bytes) (omega arith) (occurs_right bytes piece (j - length bytes) (subst (λ (x : ℕ). OccursAt (bytes ++ piece) needle x) (behind (length bytes) j u.1) h))
            | inr u ↦ seam (j - length front) (omega arith) (seam_has (j - length front) (subst (λ (x : ℕ). OccursAt (bytes ++ piece) needle x) (behind (length front) j t.1) h) (omega arith))
          ]
        ] where
          behind : (a j : ℕ) → a ≤ j → j ≡ a + (j - a)
          behind a j h = omega arith

    at_first : (k : ℕ) → OccursAt (bytes ++ piece) needle k → ((j : ℕ) → j < k → ¬ OccursAt (bytes ++ piece) needle j) → FindsNeedle (bytes ++ piece) needle 0 (Some k)
    at_first k h b = (record { low = omega arith; high = omega (arith, h.fits); before = λ j l m. b j m }, h)

    pub seam_found : (i : ℕ) → FindsNeedle bytes needle 0 None → FindsNeedle (tail ++ head) needle 0 (Some i) → FindsNeedle (bytes ++ piece) needle 0 (Some (length front + i))
    seam_found i none h =
        let n = lengths in
        let fits : i + length needle ≤ length (tail ++ head) = h.1.fits in
        at_first (length front + i) (in_seam i h.1) (nowhere (length front + i) none (λ j l. h.0.before j (omega arith) (omega arith)) (λ j l. absurd (omega (arith, c.short, length-append tail head))))

    pub piece_found : (r : Option ℕ) → FindsNeedle bytes needle 0 None → FindsNeedle (tail ++ head) needle 0 None → FindsNeedle piece needle 0 r → FindsNeedle (bytes ++ piece) needle 0 (option_map (λ i. length bytes + i) r)
    piece_found None none seam h = λ j l m o. nowhere (suc j) none (λ i l. no_more (tail ++ head) seam i) (λ i l. no_more piece h i) j (omega arith) o
    piece_found (Some i) none seam h =
        at_first (length bytes + i) (occurs_behind bytes piece i h.1) (nowhere (length bytes + i) none (λ j l. no_more (tail ++ head) seam j) (λ j l. h.0.before j (omega arith) (omega arith)))

  -- what was found stays
  pub found_stays : (bytes piece : List ℕ) (k : ℕ) → FindsNeedle bytes needle 0 (Some k) → FindsNeedle (bytes ++ piece) needle 0 (Some k)
  found_stays bytes piece k h =
      let fits : k + length needle ≤ length bytes = h.1.fits in (
        record {
          low = omega arith;
          high = omega (arith, length-append bytes piece);
          before = λ j l m o. h.0.before j l m (occurs_left bytes piece j o (omega arith));
        },
        occurs_longer bytes piece k h.1,
      )
