-- A work, and packets that wait for their turn.
use Rattle.std.specs.Prelude.{◌≡◌, ℕ, Bool, true, false, List, ◌++◌, map, Option, None}
use Rattle.std.specs.List.{AllByRecursion}
use Rattle.packet_owner.specs.Buffer.{BufferModel}
use Rattle.batch_ops.specs.declared.batch.Work.{Work}
use Rattle.flow_spec.specs.Answer.{ClassedItem}
use Rattle.flow_work.specs.Buffers.{is_own, work_buffer}
use Rattle.work_core.specs.Classed.{classed}
use Rattle.tenant_run.specs.declared.turns.Turns.{Turns}

-- a buffer of a lane's slot and of so many bytes
abbrev pub IsOf : ℕ → BufferModel → Type 0
IsOf room b = (is_own b ≡ true) × (b.room ≡ room)

abbrev pub AreOf : ℕ → List BufferModel → Type 0
AreOf room bs = AllByRecursion (IsOf room) bs

-- the work may be used, and all buffers are of so many bytes
pub record Carries {W : Type 0} (ready : W → Type 0) (ended : W → Option ℕ) (broken : W
    → Bool) (room : ℕ) (t : Turns W) : Type 0 where
  pub usable : ready t.work
  pub open_work : ended t.work ≡ None
  pub works : broken t.work ≡ false
  pub waiting : AllByRecursion (λ (w : Work). IsOf room (work_buffer w)) t.batch
  pub lying : AreOf room t.ready

-- the items came: the work stands for the first of them, and the packets of the others wait
abbrev pub Waits : {W : Type 0} → (W → List ClassedItem → Type 0) → List ClassedItem → Turns W → Type 0
Waits stands list t = (done : List ClassedItem) × stands t.work done × (list ≡ done ++ map classed t.batch)
