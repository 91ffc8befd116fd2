-- The chains of accepted chain files.
use Rattle.std.specs.Prelude.{◌≡◌, ℕ, List, [], ◌++◌, flat_map, Ok, Contains}
use Rattle.chain_spec.specs.ChainSet.{Stage, Leaf, Below, Output, Inner, Group, Chain}
use Rattle.chain_spec.specs.ChainWalk.{read_chains}

-- the chain is one of those that the bytes of the chain file `own` give for the folder `out`
pub record IsAccepted (chain : Chain) : Type 0 where
  pub own : List ℕ
  pub out : List ℕ
  pub bytes : List ℕ
  pub chains : List Chain
  pub read : read_chains own out bytes ≡ Ok chains
  pub one_of : Contains chains chain

abbrev pub stages_below : Below → List Stage
stages_below (Output o) = []
stages_below (Inner leaves) = flat_map (λ (l : Leaf). l.stages) leaves

-- the stages that stand anywhere in the chain
abbrev pub all_stages : Chain → List Stage
all_stages chain = chain.stages ++ flat_map (λ (g : Group). g.stages ++ stages_below g.below) chain.groups
