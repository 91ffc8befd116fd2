-- A work to which nothing came.
use Rattle.std.proofs.Common.{◌≡◌, ℕ, zero, suc, ◌<◌, ◌≤◌, List, [], ◌∷◌, ◌++◌, map, length, Option, None, Some, false, true, nat_eq, get_or, slice_index, replicate, min, refl, ap, sym, subst, ◌∙◌, arith}
use Rattle.std.specs.List.{AllByRecursion, count_by}
use Rattle.brick_spec.specs.Flow.{Flow}
use Rattle.brick_spec.specs.Item.{Item}
use Rattle.brick_spec.specs.FlowStage.{FlowInput}
use Rattle.packet_owner.specs.Spare.{AreSlots}
use Rattle.batch_ops.specs.Outlet.{IsEmptied}
use Rattle.flow_spec.specs.Parts.{Parts}
use Rattle.flow_spec.specs.Answer.{ClassedItem}
use Rattle.flow_work.specs.Meaning.{Meaning}
use Rattle.flow_work.specs.Log.{EndedFor, AreCounts}
use Rattle.chain_nodes.specs.declared.work.NodeWork.{NodeWork}
use Rattle.chain_nodes.specs.Flows.{AreSeen, flows_in}
use Rattle.chain_nodes.specs.Work.{IsNewNode, StandsFor, IsReady}

none_at : (xss : List (List Item)) (g : ℕ) → AllByRecursion (λ list. list ≡ []) xss → get_or xss g [] ≡ []
none_at [] g h = refl
none_at (xs ∷ xss) zero (h, hs) = h
none_at (xs ∷ xss) (suc g) (h, hs) = none_at xss g hs

zeros : (counts : List ℕ) → ((k : ℕ) → k < 9 → slice_index counts k ≡ 0) → AreCounts counts []
zeros counts h k l = h k l ∙ omega arith

module _ {N : Type 0} (stands : N → Flow → FlowInput → Parts → Type 0) (makes : N → Meaning) (results : N → List (List Item)) (serves : N → ℕ → ℕ → ℕ → Type 0) where
  pub new_begins : (w : NodeWork N) → IsNewNode stands results w.root → flows_in w.flows ≡ [] → ((k : ℕ) → k < 9 → slice_index w.desk.counts k ≡ 0) → StandsFor stands makes results serves w []
  new_begins w h none counts = record { log = []; means = record { flows = λ f are. h.nothing f; kept = λ g l. none_at (results w.root) g h.empty; drops = zeros w.desk.counts counts; known = tt }; flows = none }

pub zero_at : (xs : List ℕ) (k : ℕ) → AllByRecursion (λ x. x ≡ 0) xs → slice_index xs k ≡ 0
zero_at [] k h = refl
zero_at (x ∷ xs) zero (h, hs) = h
zero_at (x ∷ xs) (suc k) (h, hs) = zero_at xs k hs
