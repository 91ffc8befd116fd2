-- Splitting a flow group after group is picking the first group for each item.
use Rattle.std.proofs.Common.{◌≡◌, Bool, true, false, not, cond, ◌&&◌, ◌||◌, List, [], ◌∷◌, ◌++◌, refl, ap, sym, ◌∙◌}
use Rattle.std.proofs.lemmas.List.Folds.{list_any-append}
use Rattle.std.specs.List.{filter}
use Rattle.brick_spec.specs.FlowStage.{FlowItem, FlowInput}
use Rattle.flow_spec.specs.Parts.{Part, only, others, beside, shared}
use Rattle.worked_rows.specs.GroupLaws.{some_takes, is_first, picked, SharingPicksTheFirst}

kept_twice : {X : Type 0} (p q : X → Bool) (xs : List X) → filter q (filter p xs) ≡ filter (λ x. p x && q x) xs
kept_twice p q [] = refl
kept_twice p q (x ∷ xs) = by (p x) (filter p xs) ∙ ap (λ zs. cond (p x && q x) (x ∷ zs) zs) (kept_twice p q xs) where
  by : (b : Bool) (zs : List _) → filter q (cond b (x ∷ zs) zs) ≡ cond (b && q x) (x ∷ filter q zs) (filter q zs)
  by true zs = refl
  by false zs = refl

all_kept : {X : Type 0} (xs : List X) → filter (λ _. true) xs ≡ xs
all_kept [] = refl
all_kept (x ∷ xs) = ap (λ zs. x ∷ zs) (all_kept xs)

-- none of the earlier groups takes it, and the next does not take it
neither : (b c : Bool) → (not b && not c) ≡ not (b || c)
neither true c = refl
neither false c = refl

or_false : (b : Bool) → (b || false) ≡ b
or_false true = refl
or_false false = refl

none_more : (earlier : List Part) (g : Part) (x : FlowItem) → (not (some_takes earlier x) && not (g.takes x)) ≡ not (some_takes (earlier ++ g ∷ []) x)
none_more earlier g x = neither (some_takes earlier x) (g.takes x)
    ∙ ap (λ b. not (some_takes earlier x || b)) (sym (or_false (g.takes x)))
    ∙ ap not (sym (list_any-append (λ (h : Part). h.takes x) earlier (g ∷ [])))

shared_among : (earlier groups : List Part) (came : FlowInput) → shared groups (only (λ x. not (some_takes earlier x)) came) ≡ picked earlier groups came
shared_among earlier [] came = refl
shared_among earlier (g ∷ gs) came =
    let mine : only g.takes (only (λ x. not (some_takes earlier x)) came) ≡ only (is_first earlier g) came =
    ap (λ (xs : List FlowItem). record { items = xs; ended = came.ended }) (kept_twice (λ x. not (some_takes earlier x)) g.takes came.items) in
    let left : only (others g.takes) (only (λ x. not (some_takes earlier x)) came) ≡ only (λ x. not (some_takes (earlier ++ g ∷ []) x)) came =
    ap (λ (xs : List FlowItem). record { items = xs; ended = came.ended }) (kept_twice (λ x. not (some_takes earlier x)) (others g.takes) came.items
    ∙ (λ i. filter (λ x. none_more earlier g x i) came.items)) in
    (λ i. beside (g.makes (mine i)) (shared gs (left i))) ∙ ap (λ p. beside (g.makes (only (is_first earlier g) came)) p) (shared_among (earlier ++ g ∷ []) gs came)

pub sharing_picks : SharingPicksTheFirst
sharing_picks groups came = ap (λ (xs : List FlowItem). shared groups (record { items = xs; ended = came.ended })) (sym (all_kept came.items)) ∙ shared_among [] groups came
