-- The plain stages that the stages of a chain are.
use Rattle.std.specs.Prelude.{ℕ, ◌≡◌, ◌+◌, ◌/◌, ◌≤◌, false, List, [], ◌++◌, take, Option, None, is_some, IsTrue}
use Rattle.std.specs.List.{AllByRecursion}
use Rattle.brick_spec.specs.Flow.{Flow}
use Rattle.brick_spec.specs.FlowClass.{NatPlan}
use Rattle.batch_ops.specs.Treat.{stages_at}
use Rattle.stage_row.specs.Plain.{plain_stage, plain_kind, IsNew}
use Rattle.stage_row.specs.declared.plain.PlainStage.{PlainStage}
use Rattle.chain_spec.specs.ChainSet.{Stage, Nat, Window, Unparsed, windows_in, is_window, is_stage_right}
use Rattle.brick_spec.specs.FlowStage.{nothing}
use Rattle.window_stage.specs.StageMeaning.{window_meaning}
use Rattle.window_stage.specs.declared.stage.WindowStage.{WindowStage}
use Rattle.tenant_spec.specs.ChainPlan.{stage_of, row_of, before_stages}

-- what a plain stage of the code is made of: no window, and addresses are translated by a plan
abbrev pub IsPlain : Option NatPlan → Stage → Type 0
IsPlain nat (Window size reach) = ⊥
IsPlain nat Nat = IsTrue (is_some nat)
IsPlain nat _ = Unit {0}

-- such stages of a chain
abbrev pub ArePlain : Option NatPlan → List Stage → Type 0
ArePlain nat stages = AllByRecursion (λ s. IsTrue (is_stage_right s) × IsPlain nat s) stages

-- it is the stage, and nothing came to it
pub record PlainBuilt (nat : Option NatPlan) (s : Stage) (p : PlainStage) : Type 0 where
  pub stage : (flow : Flow) → plain_stage p flow ≡ stage_of nat flow s
  pub new : IsNew p
  pub plain : is_window s ≡ false

-- these are added, one for one
pub record AddsPlain (nat : Option NatPlan) (stages : List Stage) (old now : List PlainStage) : Type 0 where
  pub row : (flow : Flow) → stages_at plain_kind now flow ≡ stages_at plain_kind old flow ++ row_of nat stages flow
  pub new : AllByRecursion IsNew old → AllByRecursion IsNew now
  pub plain : windows_in stages ≡ 0

-- the stages before the first
pub record IsFirst (unparsed : Unparsed) (plain : List PlainStage) : Type 0 where
  pub row : (flow : Flow) → stages_at plain_kind plain flow ≡ before_stages unparsed
  pub new : AllByRecursion IsNew plain

-- it is the window, nothing came to it, and it has the spare buffers that it needs
pub record WindowBuilt (count bytes : ℕ) (s : Stage) (w : WindowStage) : Type 0 where
  pub is : s ≡ Window w.size w.reach
  pub begins : (flow : Flow) → window_meaning.stands w flow (record { items = []; ended = None }) nothing
  pub few : w.reach / w.size + 1 ≤ count
  pub room : 54 + w.size ≤ bytes

-- the place of the first window: there is none before it, and it is one
abbrev pub IsFirstWindow : ℕ → List Stage → Type 0
IsFirstWindow at stages = (windows_in (take at stages) ≡ 0) × (windows_in (take (at + 1) stages) ≡ 1)
