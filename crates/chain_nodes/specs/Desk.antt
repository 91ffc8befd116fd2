-- Where packets of a chain come to rest.
use Rattle.std.specs.Prelude.{ℕ, ◌≡◌, List, Option, Some, None, cond}
use Rattle.brick_spec.specs.FlowStage.{Drop}
use Rattle.brick_base.specs.Reason.{reason_view}
use Rattle.brick_base.specs.declared.drops.Reason.{Reason}
use Rattle.packet_owner.specs.Buffer.{BufferModel}
use Rattle.batch_ops.specs.declared.outlet.Outlet.{Outlet}
use Rattle.batch_ops.specs.declared.outlet.Dropped.{Dropped}
use Rattle.batch_ops.specs.declared.outlet.Passed.{Passed}
use Rattle.batch_ops.specs.Outlet.{buffer_of}
use Rattle.flow_spec.specs.Answer.{is_at}

abbrev pub passed_buffer : Passed → BufferModel
passed_buffer p = buffer_of p.packet

abbrev pub dropped_buffer : Dropped → BufferModel
dropped_buffer d = buffer_of d.packet

-- how many a drop adds to the count of place k: one that was lost to want of memory adds none
abbrev pub counted : ℕ → Option Reason → ℕ
counted k None = 0
counted k (Some r) = cond (is_at k (reason_view r)) 1 0

-- the lists stay
pub record SameLists (old new : Outlet) : Type 0 where
  pub passed : new.passed ≡ old.passed
  pub dropped : new.dropped ≡ old.dropped
  pub consumed : new.consumed ≡ old.consumed
