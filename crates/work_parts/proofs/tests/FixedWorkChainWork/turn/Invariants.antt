use Rattle.std.proofs.Common.{◌≡◌, ◌≤◌, ◌+◌, ◌++◌, map, length}
use Rattle.flow_work.specs.Buffers.{work_buffer}
use Rattle.work_parts.proofs.tests.FixedWorkChainWork.turn.Given as goal

-- those that were taken out go back, and the others are still to come
abbrev pub invariant-each : goal.invariant-each
invariant-each l = (map work_buffer l.fn.batch ≡ l.gone ++ map work_buffer l.batch) × (length l.fn.batch ≡ length l.gone + length l.batch) × (length l.fn.batch ≤ 32)

abbrev pub decreases-each : goal.decreases-each
decreases-each l = length l.batch
