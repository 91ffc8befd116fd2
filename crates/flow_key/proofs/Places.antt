-- A search that finds one place or none.
use Rattle.std.proofs.Common.{◌≡◌, ℕ, ◌<◌, ◌≤◌, Bool, true, false, cond, ltb, refl, sym, ◌∙◌, ap, arith, get_or, List, length, Option, Some, None}
use Rattle.std.specs.List.{position, position_or_len, slice_get}
use Rattle.std.specs.Option.{IfSome}
use Rattle.std.proofs.lemmas.List.Sums.{position_or_len_is}
use Rattle.std.proofs.lemmas.List.Quantifiers.{position-Some}
use Rattle.std.proofs.lemmas.Option.{slice_get_past, same_Some, none-some}
use Rattle.std.proofs.lemmas.Bool.Decides.{nat_tests}
use Rattle.brick_spec.specs.Tuple.{Tuple}
use Rattle.brick_spec.specs.FlowClass.{NatPlan, Opened, flow_at, is_reply, is_reply_to}
use Rattle.flow_key.specs.Maps.{AreRanks}

place_found : {X : Type 0} (n i : ℕ) (xs : List X) → n ≡ i → i < length xs → cond (ltb n (length xs)) (Some n) None ≡ Some i
place_found n i xs e within = ap (λ m. cond (ltb m (length xs)) (Some m) None) e ∙ ap (λ b. cond b (Some i) None) (let t : ltb i (length xs) ≡ true = grind (arith, nat_tests) in t)

place_missed : {X : Type 0} (n : ℕ) (xs : List X) → n ≡ length xs → cond (ltb n (length xs)) (Some n) None ≡ None
place_missed n xs e = ap (λ b. cond b (Some n) None) (let t : ltb n (length xs) ≡ false = grind (arith, nat_tests) in t)

-- the place that passes, where no other does
pub position_only : {X : Type 0} (p : X → Bool) (xs : List X) (i : ℕ) (d : X) → i < length xs → p (get_or xs i d) ≡ true → ((k : ℕ) → k < length xs → p (get_or xs k d) ≡ true → k ≡ i) → position p xs ≡ Some i
position_only p xs i d within passes alone =
    place_found (position_or_len p xs) i xs
    (position_or_len_is p xs i d (omega arith) (λ k below. elim (p (get_or xs k d)) as (λ (b : Bool). p (get_or xs k d) ≡ b → p (get_or xs k d) ≡ false) [
      | true ↦ λ e. absurd (let same = alone k (omega arith) e in omega arith)
      | false ↦ λ e. e
    ] refl) (λ h. passes))
    within

pub position_nothing : {X : Type 0} (p : X → Bool) (xs : List X) (d : X) → ((k : ℕ) → k < length xs → p (get_or xs k d) ≡ true → ⊥) → position p xs ≡ None
position_nothing p xs d none =
    place_missed (position_or_len p xs) xs
    (position_or_len_is p xs (length xs) d (omega arith) (λ k below. elim (p (get_or xs k d)) as (λ (b : Bool). p (get_or xs k d) ≡ b → p (get_or xs k d) ≡ false) [
      | true ↦ λ e. absurd (none k below e)
      | false ↦ λ e. e
    ] refl) (λ h. absurd (omega arith)))

-- what passes has one rank
module _ (p : Opened → Bool) (rank : Option ℕ) (tells : (f : Opened) → p f ≡ true → f.rank ≡ rank) (flows : List Opened) (ranks : List ℕ) (kept : AreRanks flows ranks) where
  pub no_flow : ((r : ℕ) → rank ≡ Some r → length ranks ≤ r) → ((f : Opened) → p f ≡ true → (r : ℕ) × (f.rank ≡ Some r)) → position p flows ≡ None
  no_flow past ranked = position_nothing p flows (record { first = None; rank = None; opened = 0 }) (λ k below passes.
      let r = ranked (flow_at flows k) passes in
      let e = kept.all k r.0 below r.1 in
      none-some k (sym (slice_get_past ranks r.0 (past r.0 (sym (tells (flow_at flows k) passes) ∙ r.1))) ∙ e))

  pub one_flow : (r i : ℕ) → rank ≡ Some r → slice_get ranks r ≡ Some i → p (flow_at flows i) ≡ true → position p flows ≡ Some i
  one_flow r i e there passes = position_only p flows i (record { first = None; rank = None; opened = 0 }) (kept.here r i there).0 passes (λ k below passes'.
      let e' = kept.all k r below (tells (flow_at flows k) passes' ∙ e) in same_Some k i (sym e' ∙ there))

  pub failed_flow : (r i : ℕ) → rank ≡ Some r → slice_get ranks r ≡ Some i → p (flow_at flows i) ≡ false → position p flows ≡ None
  failed_flow r i e there fails = position_nothing p flows (record { first = None; rank = None; opened = 0 }) (λ k below passes.
      let e' = kept.all k r below (tells (flow_at flows k) passes ∙ e) in
      let same = same_Some k i (sym e' ∙ there) in
      let passes' = sym (ap (λ n. p (flow_at flows n)) same) ∙ passes in cc)

-- a flow that a frame answers has a rank
reply_ranked : (plan : NatPlan) (t : Tuple) (ports : Option (ℕ × ℕ)) (first : Option Tuple) (rank : Option ℕ) → is_reply_to plan t ports first rank ≡ true → (r : ℕ) × (rank ≡ Some r)
reply_ranked plan t None first rank e = cc
reply_ranked plan t (Some ports) None rank e = cc
reply_ranked plan t (Some ports) (Some first) None e = cc
reply_ranked plan t (Some ports) (Some first) (Some r) e = (r, refl)

pub reply_has_rank : (plan : NatPlan) (t : Tuple) (f : Opened) → is_reply plan t f ≡ true → (r : ℕ) × (f.rank ≡ Some r)
reply_has_rank plan t f e = reply_ranked plan t t.ports f.first f.rank e

pub found_within : {X : Type 0} (p : X → Bool) (xs : List X) (d : X) (o : Option ℕ) → o ≡ position p xs → IfSome o (λ i. i < length xs)
found_within p xs d None e = tt
found_within p xs d (Some i) e = (position-Some p xs i d (sym e)).0
