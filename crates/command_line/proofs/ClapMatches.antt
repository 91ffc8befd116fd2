-- What `clap` says of the command, and from its faults to the matches.
use Rattle.std.proofs.Common.{◌≡◌, ◌⊎◌, refl, List, [], ◌∷◌, true, Some, None, inl, inr}
use Rattle.clap.specs.Words.{Row, Text, matches_of, fault_of, is_simple, is_simple_and_free, Kinds, IsAmong}
use Rattle.clap.specs.declared.error.kind.ErrorKind.{ErrorKind}
use Rattle.clap.specs.declared.error.kind.ErrorKind.TheVariants as kind
use Rattle.clap.proofs.OnLiterals.{clap_on_literals}
use Rattle.words_spec.specs.AcceptedWords.{command, rows, where_none}

pub command_simple : is_simple command ≡ true
unfolding clap_on_literals
command_simple = refl

pub command_free : is_simple_and_free command ≡ true
unfolding clap_on_literals
command_free = refl

some_where : (k : Kinds) (m : List Row) → k ≡ [] → where_none k m ≡ Some m
some_where k m e = rw e refl

none_where : (k : Kinds) (m : List Row) (x : ErrorKind) → (x ≡ kind.OutOfMemory → ⊥)
    → (x ≡ kind.OutOfMemory) ⊎ IsAmong x k → where_none k m ≡ None
none_where [] m x not_memory (inl h) = absurd (not_memory h)
none_where [] m x not_memory (inr h) = absurd h
none_where (y ∷ ys) m x not_memory h = refl

-- no fault: the matches are the rows
pub rows_found : (words : List Text) → fault_of command words ≡ [] → rows words ≡ Some (matches_of command words)
unfolding rows
rows_found words e = some_where (fault_of command words) (matches_of command words) e

-- an error that is not for memory: there are none
pub rows_none : (words : List Text) (x : ErrorKind) → (x ≡ kind.OutOfMemory → ⊥)
    → (x ≡ kind.OutOfMemory) ⊎ IsAmong x (fault_of command words) → rows words ≡ None
unfolding rows
rows_none words x not_memory h = none_where (fault_of command words) (matches_of command words) x not_memory h
