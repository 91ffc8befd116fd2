-- What a chain file says is one set of chains.
use Rattle.std.proofs.Common.{◌≡◌, ℕ, List, sym, ◌∙◌}
use Rattle.std.specs.Prelude.{Option, Some, None, Result, Ok, IsSomeAnd}
use Rattle.brick_spec.specs.Files.{Files}
use Rattle.chain_spec.specs.ChainFault.{ChainFault}
use Rattle.chain_spec.specs.ChainSet.{Chain}
use Rattle.chain_spec.specs.ChainWalk.{read_chains}
use Rattle.run_spec.specs.Seen.{Says}

same_ok : (x y : List Chain) → ◌≡◌ {A = Result (List Chain) ChainFault} (Ok x) (Ok y) → x ≡ y
same_ok x y e = cc

-- a chain file says one set of chains
pub one_set : (chains out : List ℕ) (files : Files) (a b : List Chain) → Says chains out files a → Says chains out files b → a ≡ b
one_set chains out files a b s t = by (files chains) s t
  where
    by : (o : Option (List ℕ)) → IsSomeAnd o (λ bytes. read_chains chains out bytes ≡ Ok a) → IsSomeAnd o (λ bytes. read_chains chains out bytes ≡ Ok b) → a ≡ b
    by None h k = absurd h
    by (Some bytes) h k = same_ok a b (sym h ∙ k)
