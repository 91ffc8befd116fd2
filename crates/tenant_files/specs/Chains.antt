-- What reading the chain file of a store gives.
use Rattle.std.specs.Prelude.{List, ℕ, Result, Ok, Err, IfSome, map}
use Rattle.std.specs.Global.{Vec}
use Rattle.brick_spec.specs.Files.{Files}
use Rattle.run_spec.specs.Seen.{Says, Refuses}
use Rattle.chain_text.specs.Gives.{seen}
use Rattle.chain_types.specs.View.{chain_view}
use Rattle.chain_types.specs.declared.chain.Chain.{Chain}
use Rattle.tenant_files.specs.declared.chains.ChainsFault.{ChainsFault}
use Rattle.tenant_files.specs.declared.chains.ChainsFault.TheVariants.{Refused, Failed, NoMemory}

-- the chains that the chain file says, or its first fault, unless memory ran out
abbrev pub ReadsChains : List ℕ → List ℕ → Files → Result (Vec Chain) ChainsFault → Type 0
ReadsChains chains out files (Ok set) = Says chains out files (map chain_view set.items)
ReadsChains chains out files (Err (Refused fault)) = IfSome (seen fault) (Refuses chains out files)
ReadsChains chains out files (Err Failed) = Unit {0}
ReadsChains chains out files (Err NoMemory) = Unit {0}
