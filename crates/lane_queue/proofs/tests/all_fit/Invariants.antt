use Rattle.std.proofs.Common.{◌≡◌, ℕ, ◌<◌, ◌≤◌, length}
use Rattle.std.specs.Prelude.{slice_get, Some}
use Rattle.brick_spec.specs.Capture.{Entry}
use Rattle.lane_queue.proofs.tests.all_fit.Given as goal

-- the frames of the first k records fit
abbrev pub invariant-loop-k : goal.invariant-loop-k
invariant-loop-k l = (i : ℕ) (e : Entry) → i < l.k → slice_get l.capture.entries i ≡ Some e → length e.frame ≤ l.bytes
