-- The names of backends.
use Rattle.std.specs.Prelude.{ℕ, List, map}
use Rattle.chain_types.specs.StageView.{backends_view}
use Rattle.chain_types.specs.declared.stage.Backend.{Backend}

abbrev pub backend_names : List Backend → List (List ℕ)
backend_names backends = map (λ b. b.name) (backends_view backends)
