-- Works and their results, place by place.
use Rattle.std.proofs.Common.{◌≡◌, ℕ, zero, suc, Option, Result, Ok, Err, IfOk, IsErr, ◌<◌, ◌≤◌, List, [], ◌∷◌, ◌++◌, map, length, Bool, true, false, ◌||◌, refl, ap, sym, subst, ◌∙◌, arith, get_or}
use Rattle.std.specs.List.{AllByRecursion, list_any}
use Rattle.brick_spec.specs.Flow.{Class}
use Rattle.flow_spec.specs.Answer.{ClassedItem, Answer}
use Rattle.flow_spec.specs.Plan.{Plan, leaf_count, flow_meaning}
use Rattle.flow_work.specs.Log.{OwnsKeys}
use Rattle.brick_base.specs.declared.memory.NoMemory.{NoMemory}
use Rattle.work_core.specs.ChainWork.{HasLists, TookEnd, GivesAnswer}
use Rattle.work_core.specs.Result.{items_view, result_view}
use Rattle.work_core.specs.declared.result.WorkResult.{WorkResult}
use Rattle.work_parts.specs.Merged.{merged}
use Rattle.work_parts.specs.Wholes.{IsMergedOf}
use Rattle.work_parts.specs.Works.{IsResultOf, AreResultsOf, StandFor, GivesMerged}

-- what holds of each holds at each place
pub all_at : {X : Type 0} (P : X → Type 0) (xs : List X) (k : ℕ) (d : X) → k < length xs → AllByRecursion P xs → P (get_or xs k d)
all_at P [] k d l h = absurd (omega (arith, l))
all_at P (x ∷ xs) zero d l (h, hs) = h
all_at P (x ∷ xs) (suc k) d l (h, hs) = all_at P xs k d (omega (arith, l)) hs

pub all_more : {X : Type 0} (P : X → Type 0) (xs : List X) (x : X) → AllByRecursion P xs → P x → AllByRecursion P (xs ++ x ∷ [])
all_more P [] x h p = (p, tt)
all_more P (y ∷ xs) x (h, hs) p = (h, all_more P xs x hs p)

-- none of them is what one is
pub none_is : {X : Type 0} (t : X → Bool) (xs : List X) → AllByRecursion (λ x. t x ≡ false) xs → list_any t xs ≡ true → ⊥
none_is t [] h e = no e where
  no : false ≡ true → ⊥
  no z = cc
none_is t (x ∷ xs) (h, hs) e = none_is t xs hs (ap (λ b. b || list_any t xs) (sym h) ∙ e)

module _ {W : Type 0} (follows : W → Plan → Type 0) (stands : W → List ClassedItem → Type 0) (answer : Plan → List ClassedItem → ℕ → Answer) (n : ℕ) where
  parts_more : (works : List W) (parts : List WorkResult) (w : W) (part : WorkResult) → AreResultsOf follows stands answer n works parts → IsResultOf follows stands answer n w part
      → AreResultsOf follows stands answer n (works ++ w ∷ []) (parts ++ part ∷ [])
  parts_more [] [] w part h p = (p, tt)
  parts_more [] (q ∷ parts) w part h p = absurd h
  parts_more (v ∷ works) [] w part h p = absurd h
  parts_more (v ∷ works) (q ∷ parts) w part (h, hs) p = (h, parts_more works parts w part hs p)

  pub parts_pushed : (works : List W) (parts new : List WorkResult) (w : W) (part : WorkResult) → new ≡ parts ++ part ∷ [] → AreResultsOf follows stands answer n works parts → IsResultOf follows stands answer n w part
      → AreResultsOf follows stands answer n (works ++ w ∷ []) new
  parts_pushed works parts new w part e h p = subst (AreResultsOf follows stands answer n (works ++ w ∷ [])) (sym e) (parts_more works parts w part h p)

  pub as_many : (works : List W) (parts : List WorkResult) → AreResultsOf follows stands answer n works parts → length parts ≡ length works
  as_many [] [] h = refl
  as_many [] (q ∷ parts) h = absurd h
  as_many (v ∷ works) [] h = absurd h
  as_many (v ∷ works) (q ∷ parts) (h, hs) = ap suc (as_many works parts hs)

  -- the results are the answers for what the works stand for
  views : (plan : Plan) (class_at : ℕ → Class) (works : List W) (parts : List WorkResult) (lists : List (List ClassedItem)) → OwnsKeys (flow_meaning plan) → AreResultsOf follows stands answer n works parts
      → StandFor follows stands plan class_at n works lists → map result_view parts ≡ map (λ list. answer plan list n) lists
  views plan class_at [] [] [] owns h s = refl
  views plan class_at [] [] (list ∷ lists) owns h s = absurd s
  views plan class_at [] (q ∷ parts) lists owns h s = absurd h
  views plan class_at (v ∷ works) [] lists owns h s = absurd h
  views plan class_at (v ∷ works) (q ∷ parts) [] owns h s = absurd s
  views plan class_at (v ∷ works) (q ∷ parts) (list ∷ lists) owns (h, hs) (f, records, stood, s) =
      λ i. h plan class_at list f owns records stood i ∷ views plan class_at works parts lists owns hs s i

  long_groups : {X Y : Type 0} (f : X → Y) (xs : List X) → length (map f xs) ≡ length xs
  long_groups f [] = refl
  long_groups f (x ∷ xs) = ap suc (long_groups f xs)

  have_groups : HasLists answer → (plan : Plan) (class_at : ℕ → Class) (works : List W) (parts : List WorkResult) (lists : List (List ClassedItem)) → OwnsKeys (flow_meaning plan) → AreResultsOf follows stands answer n works parts
      → StandFor follows stands plan class_at n works lists → AllByRecursion (λ (part : WorkResult). length part.groups.items ≡ leaf_count plan) parts
  have_groups law plan class_at [] [] lists owns h s = tt
  have_groups law plan class_at [] (q ∷ parts) lists owns h s = absurd h
  have_groups law plan class_at (v ∷ works) [] lists owns h s = tt
  have_groups law plan class_at (v ∷ works) (q ∷ parts) [] owns h s = absurd s
  have_groups law plan class_at (v ∷ works) (q ∷ parts) (list ∷ lists) owns (h, hs) (f, records, stood, s) =
      (sym (long_groups (λ v. items_view v) q.groups.items) ∙ (ap (λ a. length a.groups) (h plan class_at list f owns records stood) ∙ law plan list n), have_groups law plan class_at works parts lists owns hs s)

  pub gives_merged : HasLists answer → (works : List W) (parts : List WorkResult) (r : WorkResult) → 1 ≤ length works → AreResultsOf follows stands answer n works parts → IsMergedOf parts r → GivesMerged follows stands answer n works r
  gives_merged law works parts r some h merges plan class_at lists owns s =
      let many = as_many works parts h in
      merges (leaf_count plan) (omega (arith, many, some)) (have_groups law plan class_at works parts lists owns h s)
      ∙ ap (merged (leaf_count plan)) (views plan class_at works parts lists owns h s)

-- ONE WORK

not_failed : (b : Bool) → (b ≡ true → false ≡ true) → b ≡ false
not_failed false h = refl
not_failed true h = sym (h refl)

module _ {W : Type 0} (follows : W → Plan → Type 0) (stands : W → List ClassedItem → Type 0) (finished : W → ℕ → List ClassedItem → Type 0) (ended : W → Option ℕ) (broken : W → Bool)
    (answer : Plan → List ClassedItem → ℕ → Answer) (n : ℕ) (old new : W) (over : TookEnd follows stands finished ended broken old new n) where
  pub part_given : (r : Result WorkResult NoMemory) → IfOk r (GivesAnswer follows answer finished new) → (broken new ≡ true → IsErr r) → IfOk r (IsResultOf follows stands answer n old)
  part_given (Ok part) gives fails = λ plan class_at list follow owns records stood.
      gives plan class_at n list (over.same plan follow) owns records (over.goes (not_failed (broken new) fails) list stood)
  part_given (Err e) gives fails = tt

  pub part_works : (r : Result WorkResult NoMemory) → (broken new ≡ true → IsErr r) → IfOk r (λ part. broken old ≡ false)
  part_works (Ok part) fails = not_failed (broken old) (λ h. fails (over.stays_broken h))
  part_works (Err e) fails = tt

pub if_ok : (r : Result WorkResult NoMemory) (P Q : WorkResult → Type 0) → ((part : WorkResult) → P part → Q part) → IfOk r P → IfOk r Q
if_ok (Ok part) P Q k h = k part h
if_ok (Err e) P Q k h = tt
