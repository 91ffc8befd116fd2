-- The names of a tenant's files, of which none stands twice.
use Rattle.std.proofs.Common.{◌≡◌, ◌≢◌, ℕ, List, [], ◌∷◌, map, sym, subst}
use Rattle.std.specs.Prelude.{IsTrue}
use Rattle.std.specs.List.{AllByRecursion}
use Rattle.brick_spec.specs.Files.{Files}
use Rattle.brick_spec.specs.Texts.{Text, AreDistinct, OthersStayOf}
use Rattle.brick_spec.specs.Capture.{Contents}
use Rattle.chain_spec.specs.ChainSet.{Chain, file_names, are_distinct}
use Rattle.tenant_spec.specs.Tenant.{texts_of}
use Rattle.tenant_spec.proofs.Texts.{names_of_texts}
use Rattle.chain_laws.specs.Files.{NoNameTwice}
use Rattle.chain_laws.proofs.Files.{names_apart}

-- THE TEXTS OF A TENANT

by_names : (ts : List Text) → NoNameTwice (map (λ (t : Text). t.name) ts) → AreDistinct ts
by_names [] h = tt
by_names (t ∷ ts) h = (others ts h.0, by_names ts h.1)
  where
    others : (us : List Text) → AllByRecursion (λ m. t.name ≢ m) (map (λ (u : Text). u.name) us) → AllByRecursion (λ u. t.name ≢ u.name) us
    others [] h = tt
    others (u ∷ us) h = (h.0, others us h.1)

pub distinct_texts : (out : List ℕ) (chain : Chain) (refused : List ℕ) (c : Contents) → IsTrue (are_distinct chain.outputs) → AreDistinct (texts_of out chain refused c)
distinct_texts out chain refused c distinct = by_names (texts_of out chain refused c) (subst NoNameTwice (sym (names_of_texts out chain refused c)) (names_apart out chain.name chain.outputs distinct))

-- what is said of the names of the texts is said of the files
pub file_others : (out : List ℕ) (chain : Chain) (refused : List ℕ) (c : Contents) (old new : Files) → OthersStayOf (map (λ (t : Text). t.name) (texts_of out chain refused c)) old new → OthersStayOf (file_names out chain) old new
file_others out chain refused c old new others = subst (λ (names : List (List ℕ)). OthersStayOf names old new) (names_of_texts out chain refused c) others
