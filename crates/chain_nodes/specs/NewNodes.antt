-- Places to which nothing came.
use Rattle.std.proofs.Common.{◌≡◌, List, [], ◌∷◌, ◌++◌, map, length, Option, None, refl, ap, sym, ◌∙◌, arith}
use Rattle.std.proofs.lemmas.List.{map-append}
use Rattle.std.proofs.lemmas.List.Sorted.{IsPermutation-refl}
use Rattle.std.specs.List.{AllByRecursion}
use Rattle.brick_spec.specs.Flow.{Flow}
use Rattle.brick_spec.specs.Item.{Item}
use Rattle.brick_spec.specs.Match.{Match}
use Rattle.brick_spec.specs.FlowStage.{FlowItem, FlowInput, FlowOutput, nothing}
use Rattle.flow_spec.specs.Parts.{Parts}
use Rattle.flow_work.specs.Meaning.{Meaning}
use Rattle.flow_work.specs.Node.{blanks, ListStands, PipeStands, FanStands, fan_results}
use Rattle.flow_work.specs.Log.{fresh}
use Rattle.chain_nodes.specs.Work.{IsNewNode, none_came}
use Rattle.chain_nodes.specs.Fan.{PlacesStand}

all_both : {X : Type 0} (P : X → Type 0) (xs ys : List X) → AllByRecursion P xs → AllByRecursion P ys
    → AllByRecursion P (xs ++ ys)
all_both P [] ys h k = k
all_both P (x ∷ xs) ys (h, hs) k = (h, all_both P xs ys hs k)

-- a list without items
pub list_new : {L : Type 0} (items : L → List Item) (l : L) → items l ≡ []
    → IsNewNode (λ (l : L) flow came parts. ListStands came parts) (λ l. items l ∷ []) l
list_new items l e = record { nothing = λ f. (refl, refl); empty = (e, tt) }

-- a row of stages to which nothing came, and a place to which nothing came
pub pipe_new : {P N T : Type 0} (row_stands : P → Flow → FlowInput → FlowOutput → Type 0) (stands : N → Flow
    → FlowInput → Parts → Type 0) (results : N → List (List Item)) (path : T → P) (next : T → N) (t : T)
    → ((f : Flow) → row_stands (path t) f none_came nothing) → IsNewNode stands results (next t)
    → IsNewNode (λ t flow came parts. PipeStands row_stands stands (path t) (next t) flow came parts)
    (λ t. results (next t)) t
pipe_new row_stands stands results path next t row h = record {
  nothing = λ f.
      (nothing, fresh (results (next t)), row f, h.nothing f, refl, IsPermutation-refl []);
  empty = h.empty;
}

fan_nothing : {N : Type 0} (stands : N → Flow → FlowInput → Parts → Type 0) (results : N
    → List (List Item)) (ms : List (Option Match)) (ns : List N) → length ms ≡ length ns
    → AllByRecursion (IsNewNode stands results) ns → (f : Flow)
    → FanStands stands ms ns f none_came (fresh (fan_results results ns))
fan_nothing stands results [] [] l h f = (refl, refl)
fan_nothing stands results [] (n ∷ ns) l h f = absurd (omega (arith, l))
fan_nothing stands results (m ∷ ms) [] l h f = absurd (omega (arith, l))
fan_nothing stands results (m ∷ ms) (n ∷ ns) l (h, hs) f = (
  fresh (results n),
  fresh (fan_results results ns),
  h.nothing f,
  fan_nothing stands results ms ns
      (omega arith) hs f,
  map-append (λ _. let none : List FlowItem = [] in none) (results n)
      (fan_results results ns),
  IsPermutation-refl [],
)

fan_empty : {N : Type 0} (stands : N → Flow → FlowInput → Parts → Type 0) (results : N
    → List (List Item)) (ns : List N) → AllByRecursion (IsNewNode stands results) ns
    → AllByRecursion (λ (list : List Item). list ≡ []) (fan_results results ns)
fan_empty stands results [] h = tt
fan_empty stands results (n ∷ ns) (h, hs) = all_both (λ (list : List Item). list
    ≡ []) (results n) (fan_results results ns) h.empty (fan_empty stands results ns hs)

-- groups to which nothing came
pub fan_new : {N T : Type 0} (stands : N → Flow → FlowInput → Parts → Type 0) (results : N
    → List (List Item)) (matches : T → List (Option Match)) (places : T → List N) (t : T)
    → length (matches t) ≡ length (places t) → AllByRecursion (IsNewNode stands results) (places t)
    → IsNewNode (λ t flow came parts. PlacesStand stands (matches t) (places t) flow came parts)
    (λ t. fan_results results (places t)) t
fan_new stands results matches places t l h = record {
  nothing = λ f.
      (l, fan_nothing stands results (matches t) (places t) l h f);
  empty = fan_empty stands results (places t) h;
}
