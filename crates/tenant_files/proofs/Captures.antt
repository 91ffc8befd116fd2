-- Captures that were read.
use Rattle.std.proofs.Common.{◌≡◌, ℕ, suc, ◌≤◌, ◌<◌, List, [], ◌∷◌, Option, IsSomeAnd, length, sym, subst, arith}
use Rattle.brick_spec.specs.Capture.{IsReadable, longest_capture}
use Rattle.brick_spec.specs.CaptureFault.{Stands}
use Rattle.brick_spec.specs.Cause.{Rose, reading_account}
use Rattle.brick_spec.specs.Files.{FaultCounts, AllStay}
use Rattle.chain_spec.specs.ChainSet.{Chain}
use Rattle.run_spec.specs.Seen.{Held}
use Rattle.run_spec.specs.Tenants.{NoneFell}
use Rattle.run_report.specs.View.{refusal_view}
use Rattle.tenant_files.specs.Inputs.{IsInput, AreInputs}
use Rattle.tenant_files.specs.declared.inputs.TenantInput.{TenantInput}
use Rattle.tenant_files.specs.declared.inputs.TenantInput.TheVariants.{Whole, TooLong, Bad, Unread}

-- no count fell since
pub input_later : (tells : Type 0) (t : ℕ) (chain : Chain) (first : Held) (mid now : FaultCounts) (i : TenantInput) → ((a : ℕ) (n : List ℕ) → mid a n ≤ now a n) → IsInput tells t chain first mid i → IsInput tells t chain first now i
input_later tells t chain first mid now (Whole c) later h = h
input_later tells t chain first mid now TooLong later h = h
input_later tells t chain first mid now (Bad refusal) later h = h
input_later tells t chain first mid now Unread later h = omega (arith, later (reading_account t) chain.capture)

pub inputs_later : (tells : Type 0) (t : ℕ) (set : List Chain) (first : Held) (mid now : FaultCounts) (is : List TenantInput) → ((a : ℕ) (n : List ℕ) → mid a n ≤ now a n) → AreInputs tells t set first mid is → AreInputs tells t set first now is
inputs_later tells t [] first mid now [] later h = tt
inputs_later tells t [] first mid now (i ∷ is) later h = h
inputs_later tells t (c ∷ set) first mid now [] later h = h
inputs_later tells t (c ∷ set) first mid now (i ∷ is) later h = (input_later tells t c first mid now i later h.0, inputs_later tells (suc t) set first mid now is later h.1)

-- before them every name had what it has
input_before : (tells : Type 0) (t : ℕ) (chain : Chain) (first mid : Held) (now : FaultCounts) (i : TenantInput) → (tells → AllStay first.files mid.files) → NoneFell first mid → IsInput tells t chain mid now i → IsInput tells t chain first now i
input_before tells t chain first mid now (Whole c) stay later h = λ x. subst (λ (o : Option (List ℕ)). IsSomeAnd o (λ bytes. IsReadable bytes c)) (stay x chain.capture) (h x)
input_before tells t chain first mid now TooLong stay later h = λ x. subst (λ (o : Option (List ℕ)). IsSomeAnd o (λ bytes. longest_capture < length bytes)) (stay x chain.capture) (h x)
input_before tells t chain first mid now (Bad refusal) stay later h =
    λ x. subst (λ (o : Option (List ℕ)). IsSomeAnd o (λ bytes. (length bytes ≤ longest_capture) × Stands bytes (refusal_view refusal))) (stay x chain.capture) (h x)
input_before tells t chain first mid now Unread stay later h = omega (arith, later (reading_account t) chain.capture)

pub inputs_before : (tells : Type 0) (t : ℕ) (set : List Chain) (first mid : Held) (now : FaultCounts) (is : List TenantInput) → (tells → AllStay first.files mid.files) → NoneFell first mid → AreInputs tells t set mid now is → AreInputs tells t set first now is
inputs_before tells t [] first mid now [] stay later h = tt
inputs_before tells t [] first mid now (i ∷ is) stay later h = h
inputs_before tells t (c ∷ set) first mid now [] stay later h = h
inputs_before tells t (c ∷ set) first mid now (i ∷ is) stay later h = (input_before tells t c first mid now i stay later h.0, inputs_before tells (suc t) set first mid now is stay later h.1)

-- one was read, and then the others
pub read_first : (tells : Type 0) (t n : ℕ) (set : List Chain) (c : Chain) (more : List Chain) (first mid : Held) (now : FaultCounts) (i : TenantInput) (is : List TenantInput) → set ≡ c ∷ more → n ≡ suc t
    → (tells → AllStay first.files mid.files) → NoneFell first mid → ((a : ℕ) (n : List ℕ) → mid.faults a n ≤ now a n) → IsInput tells t c first mid.faults i → AreInputs tells n more mid now is
    → AreInputs tells t set first now (i ∷ is)
read_first tells t n set c more first mid now i is same num stay later after one others =
    subst (λ (s : List Chain). AreInputs tells t s first now (i ∷ is)) (sym same) (
      input_later tells t c first mid.faults now i after one,
      inputs_before tells (suc t) more first mid now is stay later (subst (λ (k : ℕ). AreInputs tells k more mid now is) num others),
    )
