use Rattle.std.proofs.Common.{ℕ, ◌≡◌, length}
use Rattle.window_stage.specs.Kept.{kept_at}
use Rattle.window_stage.proofs.flows.make_place.Given as goal

-- nothing is kept at the places that are new
abbrev pub invariant-fill : goal.invariant-fill
invariant-fill l = record {
  same : (q : ℕ) → kept_at l.kept.items q ≡ kept_at l.fn.kept.items q;
  long : length l.kept.items ≡ l.counter;
}
