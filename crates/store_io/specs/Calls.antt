-- What the calls of a store and a sink do to what is held.
use Rattle.std.specs.Prelude.{◌≡◌, ℕ, List, [], ◌++◌, Some, Result, IfOk, OnOk, IsErrOf, IsSomeAnd}
use Rattle.brick_spec.specs.Files.{Files, GivesFrom, AllStay, OthersStay, MayCreate, Appends, MayAppend, AppendsFront}
use Rattle.store_io.specs.declared.traits.IoFault.{IoFault}
use Rattle.store_io.specs.declared.traits.IoFault.TheVariants.{NoMemory}

-- It gives bytes of a file that is there, and changes nothing.
pub record Reads (name : List ℕ) (at : ℕ) (old new : Files) (into : List ℕ) (result : Result ℕ IoFault) : Type 0 where
  pub gives : IfOk result (λ n. IsSomeAnd (old name) (λ content. GivesFrom content at into n))
  pub held : AllStay old new

-- The file is there and empty. Whatever the answer, it is unchanged or empty.
pub record Creates {T : Type 0} (name : List ℕ) (old new : Files) (result : Result T IoFault) : Type 0 where
  pub ok : OnOk result (new name ≡ Some [])
  pub at_most : MayCreate name old new
  pub no_memory : IsErrOf result NoMemory → AllStay old new
  pub others : OthersStay name old new

-- The bytes are behind what the file had. Whatever the answer, a prefix of them is, or the file is unchanged.
pub record AppendsTo {T : Type 0} (name bytes : List ℕ) (old new : Files) (result : Result T IoFault) : Type 0 where
  pub ok : OnOk result (Appends name bytes old new)
  pub at_most : MayAppend name bytes old new
  pub no_memory : IsErrOf result NoMemory → AllStay old new
  pub others : OthersStay name old new

-- The bytes are written. Whatever the answer, a prefix of them is.
pub record Writes {T : Type 0} (bytes old new : List ℕ) (result : Result T IoFault) : Type 0 where
  pub ok : OnOk result (new ≡ old ++ bytes)
  pub at_most : AppendsFront bytes old new
  pub no_memory : IsErrOf result NoMemory → new ≡ old
