-- What a firewall stage knows where it decides the items of flows one by one, in the order in which they come.
use Rattle.std.specs.Prelude.{ℕ, Bool, IsTrue, ◌≡◌, ◌==◌, if◌then◌else◌, List, [], ◌∷◌, ◌++◌, Option, option_map}
use Rattle.std.specs.Prelude.{Result, Ok, Err}
use Rattle.std.specs.List.{list_any}
use Rattle.std.specs.FinSet as set
use Rattle.brick_spec.specs.Tuple.{tuple_of}
use Rattle.brick_spec.specs.Item.{Item}
use Rattle.brick_spec.specs.Stage.{Reason, Fire}
use Rattle.brick_spec.specs.FlowStage.{FlowItem, FlowStage}
use Rattle.brick_spec.specs.Firewall as spec
use Rattle.brick_base.specs.Flow.{dir_view}
use Rattle.brick_base.specs.declared.flow.Class.{Class}
use Rattle.tcp_udp.specs.View.{tuple_view}
use Rattle.tcp_udp.specs.declared.tuple.Tuple.{Tuple}
use Rattle.lpm_fw.specs.declared.established.Established.{Established}
use Rattle.lpm_fw.specs.declared.rules.Rules.{Rules}

-- the stage of these rules
abbrev pub stage_of : Bool → Rules → FlowStage
stage_of established rules = spec.firewall established rules.rows rules.default

-- an item that goes forward, which these rules allow
abbrev pub opens : Rules → FlowItem → Bool
opens rules x = spec.opens rules.rows rules.default x

-- The set stands for the flows of which, among the items before, one that goes forward was allowed. A stage without
-- `established` keeps no set.
abbrev pub StandsFor : Bool → Rules → Established → (ℕ → List FlowItem) → Type 0
StandsFor established rules flows before =
    IsTrue established → (flow : ℕ) → set.contains flows flow ≡ list_any (opens rules) (before flow)

-- the items of each flow, once this one of a flow came
abbrev pub with_item : (ℕ → List FlowItem) → ℕ → FlowItem → ℕ → List FlowItem
with_item before flow x other = if flow == other then before other ++ x ∷ [] else before other

-- an item of this class, whose frame has this five-tuple
pub record IsItem (class : Class) (t : Option Tuple) (x : FlowItem) : Type 0 where
  pub dir : x.dir ≡ dir_view class.dir
  pub tuple : tuple_of x.item.frame ≡ option_map tuple_view t

-- what a verdict makes of an item
abbrev pub outcome_by : spec.Verdict → Item → Result Item Reason
outcome_by spec.Allow i = Ok i
outcome_by spec.Deny i = Err Fire
