-- Counts of faults by account, each for all names of the account.
use Rattle.std.specs.Prelude.{◌≡◌, ◌≢◌, ℕ, List, Result, IsErrOf, OnOk, slice_index}
use Rattle.brick_spec.specs.Files.{FaultCounts}
use Rattle.brick_spec.specs.Cause.{one_more}
use Rattle.store_io.specs.declared.traits.IoFault.{IoFault}
use Rattle.store_io.specs.declared.traits.IoFault.TheVariants.{Failed}

-- one count for all names of an account
abbrev pub per_account : List ℕ → FaultCounts
per_account counts account name = slice_index counts account

-- The count of the account is one more, on each of its names. All other counts stay.
pub record RaisesAccount (account : ℕ) (before now : FaultCounts) : Type 0 where
  pub one : (n : List ℕ) → now account n ≡ one_more (before account n)
  pub others : (a : ℕ) (n : List ℕ) → a ≢ account → now a n ≡ before a n

-- `Failed` is counted once, on this account, and no success is counted.
pub record CountsAccount {T : Type 0} (account : ℕ) (before now : FaultCounts)
    (result : Result T IoFault) : Type 0 where
  pub failed : IsErrOf result Failed → RaisesAccount account before now
  pub ok : OnOk result ((a : ℕ) (n : List ℕ) → now a n ≡ before a n)
