-- The files of a run on an accepted chain file.
use Rattle.std.specs.Prelude.{◌≡◌, ◌≢◌, ℕ, List, [], ◌∷◌, Ok}
use Rattle.std.specs.List.{AllByRecursion}
use Rattle.chain_spec.specs.ChainSet.{Chain, run_files}
use Rattle.chain_spec.specs.ChainWalk.{read_chains}

-- no name stands twice
abbrev pub NoNameTwice : List (List ℕ) → Type 0
NoNameTwice [] = Unit {0}
NoNameTwice (n ∷ ns) = AllByRecursion (λ m. n ≢ m) ns × NoNameTwice ns

-- the name is none of these
abbrev pub IsNoneOf : List (List ℕ) → List ℕ → Type 0
IsNoneOf names name = AllByRecursion (λ n. name ≢ n) names

-- No two files of the run have the same name, whether of one tenant or of two. None is the chain file, and none is a
-- tenant's capture.
pub record HasOwnFiles (own out : List ℕ) (set : List Chain) : Type 0 where
  pub distinct : NoNameTwice (run_files out set)
  pub chain_file : IsNoneOf (run_files out set) own
  pub captures : AllByRecursion (λ d. IsNoneOf (run_files out set) d.capture) set

-- So it is of each chain set that a chain file `own` gives for the folder `out`.
abbrev pub FilesAreDistinct : Type 0
FilesAreDistinct =
    (own out bytes : List ℕ) (set : List Chain) → read_chains own out bytes ≡ Ok set → HasOwnFiles own out set
