-- Groups beside one another.
use Rattle.std.specs.Prelude.{ℕ, ◌≡◌, ◌≤◌, List, [], ◌∷◌, ◌++◌, map, length, Option, Result, OnOk, ⊤}
use Rattle.std.specs.List.{AllByRecursion}
use Rattle.brick_spec.specs.Flow.{Flow}
use Rattle.brick_spec.specs.Item.{Item}
use Rattle.brick_spec.specs.Match.{Match}
use Rattle.brick_spec.specs.FlowStage.{FlowInput}
use Rattle.flow_spec.specs.Parts.{Parts}
use Rattle.flow_work.specs.Meaning.{Meaning}
use Rattle.flow_work.specs.Node.{IsNode, IsMade, FanStands, fan_makes, fan_results}
use Rattle.flow_work.proofs.Nodes.{fan_means, fan_many}

-- there are as many places as matches
abbrev pub PlacesStand : {N : Type 0} → (N → Flow → FlowInput → Parts → Type 0) → List (Option Match) → List N → Flow
    → FlowInput → Parts → Type 0
PlacesStand stands ms ns flow came parts = (length ms ≡ length ns) × FanStands stands ms ns flow came parts

abbrev pub FanServes : {N : Type 0} → (N → ℕ → ℕ → ℕ → Type 0) → List (Option Match) → List N → ℕ → ℕ → ℕ → Type 0
FanServes serves ms ns count bytes free = (length ms ≡ length ns) × AllByRecursion (λ n. serves n count bytes free) ns

module _ {N T : Type 0} (stands : N → Flow → FlowInput → Parts → Type 0) (makes : N → Meaning) (results : N
    → List (List Item)) (matches : T → List (Option Match)) (places : T → List N) where
  pub fan_node : IsNode stands makes results
      → IsNode (λ t flow came parts. PlacesStand stands (matches t) (places t) flow came parts)
      (λ t. fan_makes makes (matches t) (places t)) (λ t. fan_results results (places t))
  fan_node node = record {
    means = λ t flow came parts (l, h). fan_means stands makes results node (matches t) (places t) flow came parts h;
    many = λ t flow came parts (l, h). fan_many stands makes results node (matches t) (places t) l flow came parts h;
  }

pub fan_more : {N : Type 0} (serves : N → ℕ → ℕ → ℕ → Type 0)
    → ((n : N) (count bytes free all : ℕ) → free ≤ all → serves n count bytes free → serves n count bytes all)
    → (ms : List (Option Match)) (ns : List N) (count bytes free all : ℕ) → free ≤ all
    → FanServes serves ms ns count bytes free → FanServes serves ms ns count bytes all
fan_more serves more ms ns count bytes free all h (l, hs) = (l, each ns hs) where
  each : (ns : List _) → AllByRecursion (λ n. serves n count bytes free) ns
      → AllByRecursion (λ n. serves n count bytes all) ns
  each [] hs = tt
  each (n ∷ ns) (one, hs) = (more n count bytes free all h one, each ns hs)
