-- What reading the captures of tenants gives.
use Rattle.std.specs.Prelude.{ℕ, suc, List, [], ◌∷◌}
use Rattle.brick_spec.specs.Cause.{Rose, reading_account}
use Rattle.brick_spec.specs.Files.{FaultCounts}
use Rattle.chain_spec.specs.ChainSet.{Chain}
use Rattle.run_spec.specs.Seen.{Held, Captured, IsTooLong, IsBad}
use Rattle.run_report.specs.View.{refusal_view}
use Rattle.tenant_files.specs.declared.inputs.TenantInput.{TenantInput}
use Rattle.tenant_files.specs.declared.inputs.TenantInput.TheVariants.{Whole, TooLong, Bad, Unread}

-- what is true of the capture of tenant t as it was first, or of the counts that rose since
abbrev pub IsInput : Type 0 → ℕ → Chain → Held → FaultCounts → TenantInput → Type 0
IsInput tells t chain first now (Whole c) = tells → Captured first.files chain.capture c
IsInput tells t chain first now TooLong = tells → IsTooLong first.files chain.capture
IsInput tells t chain first now (Bad refusal) = tells → IsBad first.files chain.capture (refusal_view refusal)
IsInput tells t chain first now Unread =
    Rose (first.faults (reading_account t) chain.capture) (now (reading_account t) chain.capture)

-- so of each tenant from number t on
abbrev pub AreInputs : Type 0 → ℕ → List Chain → Held → FaultCounts → List TenantInput → Type 0
AreInputs tells t [] first now [] = Unit {0}
AreInputs tells t (chain ∷ set) first now (input ∷ inputs) =
    IsInput tells t chain first now input × AreInputs tells (suc t) set first now inputs
AreInputs tells t _ first now _ = ⊥
