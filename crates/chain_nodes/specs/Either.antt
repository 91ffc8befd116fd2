-- A place of one kind or of another.
use Rattle.std.specs.Prelude.{ℕ, ◌≡◌, ◌≤◌, List, length}
use Rattle.brick_spec.specs.Flow.{Flow}
use Rattle.brick_spec.specs.Item.{Item}
use Rattle.brick_spec.specs.FlowStage.{FlowInput}
use Rattle.flow_spec.specs.Parts.{Parts}
use Rattle.flow_work.specs.Meaning.{Meaning}
use Rattle.flow_work.specs.Node.{IsNode, IsMade}
use Rattle.chain_nodes.specs.declared.either.Either.{Either}
use Rattle.chain_nodes.specs.declared.either.Either.TheVariants.{First, Second}

module _ {A B : Type 0} where
  abbrev pub either_stands : (A → Flow → FlowInput → Parts → Type 0) → (B → Flow → FlowInput → Parts → Type 0)
      → Either A B → Flow → FlowInput → Parts → Type 0
  either_stands f g (First a) = f a
  either_stands f g (Second b) = g b

  abbrev pub either_makes : (A → Meaning) → (B → Meaning) → Either A B → Meaning
  either_makes f g (First a) = f a
  either_makes f g (Second b) = g b

  abbrev pub either_results : (A → List (List Item)) → (B → List (List Item)) → Either A B → List (List Item)
  either_results f g (First a) = f a
  either_results f g (Second b) = g b

  abbrev pub either_serves : (A → ℕ → ℕ → ℕ → Type 0) → (B → ℕ → ℕ → ℕ → Type 0) → Either A B → ℕ → ℕ → ℕ → Type 0
  either_serves f g (First a) = f a
  either_serves f g (Second b) = g b

  pub either_node : (sa : A → Flow → FlowInput → Parts → Type 0) (ma : A → Meaning) (ra : A → List (List Item))
      → IsNode sa ma ra → (sb : B → Flow → FlowInput → Parts → Type 0) (mb : B → Meaning) (rb : B → List (List Item))
      → IsNode sb mb rb
      → IsNode (either_stands sa sb) (either_makes ma mb) (either_results ra rb)
  either_node sa ma ra na sb mb rb nb = record { means = means; many = many } where
    means : (n : Either A B) (flow : Flow) (came : FlowInput) (parts : Parts) → either_stands sa sb n flow came parts
        → IsMade parts (either_makes ma mb n flow came)
    means (First a) = na.means a
    means (Second b) = nb.means b

    many : (n : Either A B) (flow : Flow) (came : FlowInput) (parts : Parts) → either_stands sa sb n flow came parts
        → length parts.lists ≡ length (either_results ra rb n)
    many (First a) = na.many a
    many (Second b) = nb.many b

  pub either_more : (sa : A → ℕ → ℕ → ℕ → Type 0)
      → ((n : A) (count bytes free all : ℕ) → free ≤ all → sa n count bytes free → sa n count bytes all)
      → (sb : B → ℕ → ℕ → ℕ → Type 0)
      → ((n : B) (count bytes free all : ℕ) → free ≤ all → sb n count bytes free → sb n count bytes all)
      → (n : Either A B) (count bytes free all : ℕ) → free ≤ all → either_serves sa sb n count bytes free
      → either_serves sa sb n count bytes all
  either_more sa ma sb mb (First a) = ma a
  either_more sa ma sb mb (Second b) = mb b
