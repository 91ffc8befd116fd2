-- Tenants stand alone, where what a capture says is unique.
use Rattle.std.proofs.Common.{◌≡◌, ℕ, List, [], ◌∷◌, map, Option, Some, None, IsSomeAnd, sym, ◌∙◌, subst}
use Rattle.std.specs.List.{AllByRecursion}
use Rattle.brick_spec.specs.Capture.{Contents, IsReadable}
use Rattle.brick_spec.specs.Files.{Files}
use Rattle.brick_spec.specs.Texts.{Text, Holds}
use Rattle.tenant_spec.specs.Tenant.{texts_of}
use Rattle.tenant_spec.proofs.Texts.{names_of_texts}
use Rattle.run_spec.specs.Isolation.{TenantsStandAlone}

-- files that hold the same texts
same_held : (now now' : Files) (texts : List Text) → AllByRecursion (Holds now) texts → AllByRecursion (Holds now') texts → AllByRecursion (λ name. now' name ≡ now name) (map (λ (t : Text). t.name) texts)
same_held now now' [] h h' = tt
same_held now now' (t ∷ ts) h h' = (h'.0 ∙ sym h.0, same_held now now' ts h.1 h'.1)

pub Unique : Type 0
Unique = (bytes : List ℕ) (c d : Contents) → IsReadable bytes c → IsReadable bytes d → c ≡ d

pub unique : ((bytes : List ℕ) (c d : Contents) → IsReadable bytes c → IsReadable bytes d → c ≡ d) → Unique
unfolding Unique
unique one = one

pub same_contents : Unique → (held : Option (List ℕ)) (c d : Contents) → IsSomeAnd held (λ bytes. IsReadable bytes c) → IsSomeAnd held (λ bytes. IsReadable bytes d) → c ≡ d
unfolding Unique
same_contents one None c d h k = absurd h
same_contents one (Some bytes) c d h k = one bytes c d h k

pub stand_alone : ((bytes : List ℕ) (c d : Contents) → IsReadable bytes c → IsReadable bytes d → c ≡ d) → TenantsStandAlone
unfolding Unique
stand_alone one out chain refused t u before now before' now' end end' p p' same done done' =
    let m : _ = (p.done tt).means done in
    let m' : _ = (p'.done tt).means done' in
    let e : m.0 ≡ m'.0 = same_contents one (before.files chain.capture) m.0 m'.0 m.1 (subst (λ f. IsSomeAnd f (λ bytes. IsReadable bytes m'.0)) same m'.1) in
    subst (λ names. AllByRecursion (λ name. now'.files name ≡ now.files name) names) (names_of_texts out chain refused m.0)
    (same_held now.files now'.files (texts_of out chain refused m.0) m.3 (subst (λ c. AllByRecursion (Holds now'.files) (texts_of out chain refused c)) (sym e) m'.3))
