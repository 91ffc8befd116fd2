-- What the parts of a run leave, and why they failed.
use Rattle.std.specs.Prelude.{◌≡◌, ℕ, List, [], ◌∷◌, map, Result, Ok, Err}
use Rattle.std.specs.List.{AllByRecursion}
use Rattle.std.specs.Global.{Vec}
use Rattle.brick_base.specs.declared.memory.NoMemory.{NoMemory}
use Rattle.brick_spec.specs.Files.{AllStay}
use Rattle.chain_spec.specs.ChainSet.{Chain}
use Rattle.run_spec.specs.Isolation.{Refusals}
use Rattle.run_spec.specs.Report as report
use Rattle.run_spec.specs.Seen.{Held}
use Rattle.run_spec.specs.Tenants.{NoneFell, AllApart, TenantsRan, TenantsMay}
use Rattle.run_report.specs.View.{refusal_view, end_view, line_view}
use Rattle.run_report.specs.declared.report.TenantEnd.{TenantEnd}
use Rattle.run_report.specs.declared.report.Line.{Line}
use Rattle.tenant_files.specs.Inputs.{AreInputs}
use Rattle.tenant_files.specs.Written.{Wrote}
use Rattle.tenant_files.specs.declared.inputs.TenantInput.{TenantInput}
use Rattle.tenant_files.specs.declared.inputs.TenantInput.TheVariants.{Whole, TooLong, Bad, Unread}

-- a tenant that has this end, and of which nothing was written
abbrev pub HasEnded : Type 0 → report.TenantEnd → Held → Held → Result TenantEnd NoMemory → Type 0
HasEnded tells end before now (Ok told) = (end_view told ≡ end) × (tells → AllStay before.files now.files)
HasEnded tells end before now (Err no_memory) = ⊥

-- what the run of a tenant did, by what reading its capture gave, where these of its records are refused
abbrev pub RanOn : Type 0 → List ℕ → ℕ → Chain → List ℕ → TenantInput → Held → Held → Result TenantEnd NoMemory → Type 0
RanOn tells out t chain refused (Whole c) before now r = Wrote tells out t chain refused c before now r
RanOn tells out t chain refused TooLong before now r = HasEnded tells report.TooLong before now r
RanOn tells out t chain refused (Bad refusal) before now r =
    HasEnded tells (report.BadCapture (refusal_view refusal)) before now r
RanOn tells out t chain refused Unread before now r = HasEnded tells report.ReadFault before now r

-- These tenants, from number t on, may be run: their captures were read since the first moment and are as they were,
-- and their files are apart.
pub record CanRun (tells : Type 0) (out : List ℕ) (t : ℕ) (set : List Chain) (first before : Held)
    (inputs : List TenantInput) : Type 0 where
  pub read : AreInputs tells t set first before.faults inputs
  pub captures : tells → AllByRecursion (λ d. before.files d.capture ≡ first.files d.capture) set
  pub later : NoneFell first before
  pub apart : AllApart out set

-- what the run of all tenants did, from the first moment on
abbrev pub AllRan : Type 0 → List ℕ → Refusals → List Chain → Held → Held → Result (Vec Line) NoMemory → Type 0
AllRan tells out refused set first now (Ok lines) =
    (before : Held) × (tells → AllStay first.files before.files)
    × TenantsRan tells out first.faults refused 0 set before now (map line_view lines.items)
AllRan tells out refused set first now (Err no_memory) = tells → TenantsMay out refused 0 set first.files now.files
