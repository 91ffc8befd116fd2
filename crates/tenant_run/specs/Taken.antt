-- Records that were taken.
use Rattle.std.specs.Prelude.{◌≡◌, ℕ, Bool, List, take, Option}
use Rattle.brick_spec.specs.Capture.{Contents}
use Rattle.flow_spec.specs.Answer.{ClassedItem}
use Rattle.flow_spec.specs.Plan.{Plan}
use Rattle.flow_key.specs.Frames.{frames_of}
use Rattle.flow_key.specs.Maps.{ClassifierModel, after_frames}
use Rattle.chain_spec.specs.ChainSet.{Chain}
use Rattle.tenant_spec.specs.ChainPlan.{plan_of}
use Rattle.tenant_run.specs.Made.{accepted_upto, AreCounted}
use Rattle.tenant_run.specs.Turns.{Carries, Waits}
use Rattle.tenant_run.specs.declared.turns.Turns.{Turns}
use Rattle.tenant_run.specs.declared.records.Counts.{Counts}

-- The first k records were taken: the classifier knows them all, and those that are not Big came to the work of the
-- chain.
pub record HasTaken {W : Type 0} (follows : W → Plan → Type 0) (ready : W → Type 0) (stands : W → List ClassedItem
    → Type 0) (ended : W → Option ℕ) (broken : W → Bool)
    (chain : Chain) (c : Contents) (k : ℕ) (classifier : ClassifierModel) (t : Turns W) (counts : Counts) : Type 0 where
  pub known : classifier ≡ after_frames chain.nat (take k (frames_of c))
  pub carried : Carries ready ended broken chain.bytes t
  pub came : Waits stands (accepted_upto chain c k) t
  pub counted : AreCounted chain c k counts
  pub plan : follows t.work (plan_of chain)
