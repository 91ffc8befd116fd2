-- A tenant's work over many turns.
use Rattle.std.specs.Prelude.{ℕ, ◌≡◌, ◌≤◌, List, [], ◌++◌, map, length, true, false, Option}
use Rattle.std.specs.List.{AllByRecursion}
use Rattle.brick_spec.specs.Flow.{Flow}
use Rattle.brick_spec.specs.Item.{Item}
use Rattle.brick_spec.specs.FlowStage.{FlowInput}
use Rattle.batch_ops.specs.declared.batch.Work.{Work}
use Rattle.flow_spec.specs.Parts.{Parts}
use Rattle.flow_spec.specs.Answer.{ClassedItem}
use Rattle.flow_work.specs.Meaning.{Meaning}
use Rattle.flow_work.specs.Buffers.{is_own, work_buffer}
use Rattle.chain_nodes.specs.declared.work.NodeWork.{NodeWork}
use Rattle.chain_nodes.specs.Work.{IsReady, StandsFor}
use Rattle.work_core.specs.Classed.{classed}

-- a batch of packets, none of them in a spare buffer
abbrev pub AreLent : List Work → Type 0
AreLent batch = AllByRecursion (λ w. is_own (work_buffer w) ≡ true) batch

-- it took the turns of these packets
pub record HasTurned {N : Type 0} (stands : N → Flow → FlowInput → Parts → Type 0) (makes : N → Meaning) (results : N
    → List (List Item)) (serves : N → ℕ → ℕ → ℕ → Type 0) (old new : NodeWork N) (works : List Work) : Type 0 where
  pub ready : IsReady stands makes results serves new
  pub none_left : new.desk.back ≡ []
  pub ended : new.ended ≡ old.ended
  pub stands_for : new.failed ≡ false → (list : List ClassedItem) → StandsFor stands makes results serves old list
      → StandsFor stands makes results serves new (list ++ map classed works)
  pub stays_failed : old.failed ≡ true → new.failed ≡ true
  pub same : makes new.root ≡ makes old.root
  pub many : length (results new.root) ≡ length (results old.root)
