-- When a call may answer a fault.
use Rattle.std.specs.Prelude.{◌≡◌, ◌≢◌, ℕ, ◌+◌, ◌≤◌, List, Result, IsErr, IsErrOf, OnOk}
use Rattle.brick_spec.specs.Cause.{Rose}
use Rattle.brick_spec.specs.Files.{FaultCounts}
use Rattle.store_io.specs.declared.traits.IoFault.{IoFault}
use Rattle.store_io.specs.declared.traits.IoFault.TheVariants.{Failed, NoMemory}

-- `Failed` is answered only where the count rose, which never falls. After `NoMemory` it stands.
pub record HasCause {T : Type 0} (before now : ℕ) (result : Result T IoFault) : Type 0 where
  pub later : before ≤ now
  pub failed : IsErrOf result Failed → Rose before now
  pub no_memory : IsErrOf result NoMemory → now ≡ before

-- The same of the count of an account on a name. No count falls, and those of other accounts stay.
pub record HasCauseAt {T : Type 0} (account : ℕ) (name : List ℕ) (before now : FaultCounts)
    (result : Result T IoFault) : Type 0 where
  pub later : (a : ℕ) (n : List ℕ) → before a n ≤ now a n
  pub others : (a : ℕ) (n : List ℕ) → a ≢ account → now a n ≡ before a n
  pub failed : IsErrOf result Failed → Rose (before account name) (now account name)
  pub no_memory : IsErrOf result NoMemory → (a : ℕ) (n : List ℕ) → now a n ≡ before a n

-- The count of an account on a name rose. No count falls, and those of other accounts stay.
pub record Counted (account : ℕ) (name : List ℕ) (before now : FaultCounts) : Type 0 where
  pub rose : Rose (before account name) (now account name)
  pub later : (a : ℕ) (n : List ℕ) → before a n ≤ now a n
  pub others : (a : ℕ) (n : List ℕ) → a ≢ account → now a n ≡ before a n

-- `Failed` is answered only here, and here no call succeeds.
pub record FailsWhere {T : Type 0} (here : Type 0) (result : Result T IoFault) : Type 0 where
  pub only : IsErrOf result Failed → here
  pub each : here → IsErr result

-- The count of an account on a name is one more. All other counts stay.
pub record CountsOne (account : ℕ) (name : List ℕ) (before now : FaultCounts) : Type 0 where
  pub one : now account name ≡ before account name + 1
  pub accounts : (a : ℕ) (n : List ℕ) → a ≢ account → now a n ≡ before a n
  pub names : (a : ℕ) (n : List ℕ) → n ≢ name → now a n ≡ before a n

-- `Failed` is counted once, on this account and this name, and no other answer is counted.
pub record CountsFailed {T : Type 0} (account : ℕ) (name : List ℕ) (before now : FaultCounts)
    (result : Result T IoFault) : Type 0 where
  pub failed : IsErrOf result Failed → CountsOne account name before now
  pub ok : OnOk result ((a : ℕ) (n : List ℕ) → now a n ≡ before a n)
