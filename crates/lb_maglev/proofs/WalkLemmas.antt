-- How far the walks have come.
use Rattle.std.proofs.Common.{◌≡◌, ℕ, ◌+◌, ◌%◌, ◌<◌, ◌≢◌, sym, ◌∙◌, ap, subst, arith, inl, inr, get_or, List, [], ◌∷◌, ◌++◌, length, Option, set}
use Rattle.std.proofs.lemmas.List.{get_or-set_same, get_or-set_other, get_or_push, get_or_append_left, length-set, length-append, get_or_default}
use Rattle.std.proofs.lemmas.Bool.{cases_lt}
use Rattle.brick_spec.specs.Balance.{Places, preferred_place, offset_of, skip_of, first_free, with_taken, turn, turns}
use Rattle.lb_maglev.specs.Passed.{ArePassed}
use Rattle.lb_maglev.specs.Walks.{IsWalk, AreWalks}
use Rattle.lb_maglev.specs.declared.walk.Walk.{Walk}
use Rattle.lb_maglev.proofs.Searches.{stays_taken}
use Rattle.lb_maglev.proofs.TurnLemmas.{turns_more}

-- a walk has passed as far, whoever takes a place
walk_stays : (places : Places) (at : Option ℕ) (backend : ℕ) (name : List ℕ) (walk : Walk) → IsWalk places name walk → IsWalk (with_taken places at backend) name walk
walk_stays places at backend name walk is = record {
  offset = is.offset;
  skip = is.skip;
  passed = λ j h. stays_taken places at backend (preferred_place walk.offset walk.skip j) (is.passed j h);
}

-- one backend's turn
pub walks_step : (places new : Places) (names : List (List ℕ)) (walks : List Walk) (at : Option ℕ) (b : ℕ) (old walk : Walk)
    → AreWalks places names walks → b < length walks → new ≡ with_taken places at b
    → walk.offset ≡ (get_or walks b old).offset → walk.skip ≡ (get_or walks b old).skip → ArePassed new walk.offset walk.skip walk.next
    → AreWalks new names (set walks b walk)
walks_step places new names walks at b old walk are within taken offset skip passed i none below =
    elim (cases_lt i b) [
      | inl before ↦ other places new names walks at b walk i none are taken (omega (arith, length-set walks b walk)) (omega arith)
      | inr from ↦ elim (cases_lt b i) [
        | inl behind ↦ other places new names walks at b walk i none are taken (omega (arith, length-set walks b walk)) (omega arith)
        | inr last ↦
            let same : b ≡ i = omega arith in
            let was = are b old within in
            let here : IsWalk new (get_or names b []) (get_or (set walks b walk) b none) =
            subst (λ (w : Walk). IsWalk new (get_or names b []) w) (sym (get_or-set_same walks b walk none within))
            (record { offset = offset ∙ was.offset; skip = skip ∙ was.skip; passed = passed }) in
            subst (λ (k : ℕ). IsWalk new (get_or names k []) (get_or (set walks b walk) k none)) same here
      ]
    ]
  where
    other : (places new : Places) (names : List (List ℕ)) (walks : List Walk) (at : Option ℕ) (b : ℕ) (walk : Walk) (i : ℕ) (none : Walk)
        → AreWalks places names walks → new ≡ with_taken places at b → i < length walks → i ≢ b → IsWalk new (get_or names i []) (get_or (set walks b walk) i none)
    other places new names walks at b walk i none are taken below apart =
        subst (λ (w : Walk). IsWalk new (get_or names i []) w) (sym (get_or-set_other walks b i walk none apart))
        (subst (λ (p : Places). IsWalk p (get_or names i []) (get_or walks i none)) (sym taken) (walk_stays places at b (get_or names i []) (get_or walks i none) (are i none below)))

-- one walk more
pub walks_push : (places : Places) (names : List (List ℕ)) (walks new : List Walk) (walk : Walk) → AreWalks places names walks → new ≡ walks ++ walk ∷ [] → IsWalk places (get_or names (length walks) []) walk → AreWalks places names new
walks_push places names walks new walk are pushed is i none below =
    let long : length new ≡ length walks + 1 = ap length pushed ∙ length-append walks (walk ∷ []) in
    elim (cases_lt i (length walks)) [
      | inl before ↦ subst (λ (w : Walk). IsWalk places (get_or names i []) w) (sym (ap (λ (l : List Walk). get_or l i none) pushed ∙ get_or_append_left walks (walk ∷ []) none i before)) (are i none before)
      | inr last ↦
          let same : length walks ≡ i = omega arith in
          subst (λ (w : Walk). IsWalk places (get_or names i []) w) (sym (ap (λ (l : List Walk). get_or l i none) pushed ∙ get_or_push walks walk none i same))
          (subst (λ (k : ℕ). IsWalk places (get_or names k []) walk) same is)
    ]

-- a walk that has passed no place is one of any places
pub new_walk : (places : Places) (names : List (List ℕ)) (name : List ℕ) (i n : ℕ) (walk : Walk) → name ≡ get_or names i name → i < length names → n ≡ i
    → (walk.offset ≡ offset_of name) × (walk.skip ≡ skip_of name) × (walk.next ≡ 0) → IsWalk places (get_or names n []) walk
new_walk places names name i n walk read within same new =
    let named : name ≡ get_or names n [] = read ∙ get_or_default names i name [] within ∙ ap (λ k. get_or names k []) (sym same) in
    record { offset = new.0 ∙ ap offset_of named; skip = new.1 ∙ ap skip_of named; passed = λ j h. absurd (omega (arith, new.2)) }

-- a turn by a walk is a turn by its name
pub walks_turn : (names : List (List ℕ)) (walks : List Walk) (k : ℕ) (places new : Places) (old : Walk)
    → places ≡ turns names k → AreWalks places names walks → k % length names < length walks
    → new ≡ with_taken places (first_free places (get_or walks (k % length names) old).offset (get_or walks (k % length names) old).skip) (k % length names)
    → new ≡ turns names (k + 1)
walks_turn names walks k places new old was are within taken =
    let is = are (k % length names) old within in
    taken
    ∙ ap (λ offset. with_taken places (first_free places offset (get_or walks (k % length names) old).skip) (k % length names)) is.offset
    ∙ ap (λ skip. with_taken places (first_free places (offset_of (get_or names (k % length names) [])) skip) (k % length names)) is.skip
    ∙ ap (λ p. turn p (get_or names (k % length names) []) (k % length names)) was
    ∙ sym (turns_more names k)
