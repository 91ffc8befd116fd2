use Rattle.std.proofs.Common.{◌≡◌, drop}
use Rattle.chain_spec.specs.ChainSet.{is_among}
use Rattle.stage_text.specs.Names.{backend_names}
use Rattle.stage_text.proofs.backends.has_backend.Given as goal

abbrev pub invariant-loop-backend : goal.invariant-loop-backend
invariant-loop-backend l = is_among l.name (backend_names (drop l.backend-index l.backends)) ≡ is_among l.name (backend_names l.backends)
