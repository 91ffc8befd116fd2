-- A map after one value was written.
use Rattle.std.proofs.Common.{◌≡◌, ◌≢◌, ◌∙◌, ℕ, false, List, Option, Some, Result, Ok, Err, OnOk, OnErr, sym, ap, subst, arith, ⊎_elim}
use Rattle.std.proofs.lemmas.Grind.{common_steps}
use Rattle.std.proofs.lemmas.Bool.{cases_eq}
use Rattle.std.specs.Ordering.{nat_cmp}
use Rattle.std.specs.BTreeMap.{BTreeMap, get, is_at, UpdatesBy, IsUnchanged}
use Rattle.std.specs.Map.{lookup}

pub apart_at : (flow q : ℕ) → q ≢ flow → is_at (nat_cmp flow) q ≡ false
apart_at flow q apart = grind (arith, common_steps)

module _ {X : Type 0} (old new : BTreeMap ℕ X) (flow : ℕ) (x : X) (updates : UpdatesBy nat_cmp (nat_cmp flow) old new (Some x)) where
  pub written_apart : (q : ℕ) → q ≢ flow → get nat_cmp new q ≡ get nat_cmp old q
  written_apart q apart = updates.2 q (apart_at flow q apart)

  -- what holds of the value and of the others holds of each
  pub written_all : (P : X → Type 0) → P x → ((q : ℕ) (y : X) → get nat_cmp old q ≡ Some y → P y) → (q : ℕ) (y : X) → get nat_cmp new q ≡ Some y → P y
  written_all P here others q y is = ⊎_elim
      (λ (e : q ≡ flow). let same : Some x ≡ Some y = sym updates.1 ∙ ap (get nat_cmp new) (sym e) ∙ is in subst P (some_same x y same) here)
      (λ (ne : q ≢ flow). others q y (sym (written_apart q ne) ∙ is))
      (cases_eq q flow)
    where
      some_same : (a b : X) → Some a ≡ Some b → a ≡ b
      some_same a b e = cc

-- an insertion wrote the value, or memory ran out and the entries stayed
pub inserted_all : {X E : Type 0} (r : Result (Option X) E) (old new : BTreeMap ℕ X) (flow : ℕ) (x : X) → OnOk r (UpdatesBy nat_cmp (nat_cmp flow) old new (Some x)) → OnErr r (IsUnchanged old new)
    → (P : X → Type 0) → P x → ((q : ℕ) (y : X) → get nat_cmp old q ≡ Some y → P y) → (q : ℕ) (y : X) → get nat_cmp new q ≡ Some y → P y
inserted_all (Ok v) old new flow x updates same P here others q y is = written_all old new flow x updates P here others q y is
inserted_all {X = X} (Err e) old new flow x updates same P here others q y is = others q y (subst (λ (es : List (ℕ × X)). lookup (is_at (nat_cmp q)) es ≡ Some y) same is)
