-- Firewall meaning: what a list of rules makes of a flow.
use Rattle.std.specs.Prelude.{Bool, true, false, ◌&&◌, ◌||◌, if◌then◌else◌, Option, Some, None, List, [], ◌∷◌, Ok, Err}
use Rattle.std.specs.List.{list_any}
use Rattle.brick_spec.specs.Tuple.{Tuple, tuple_of}
use Rattle.brick_spec.specs.Match.{Match, meets_tuple}
use Rattle.brick_spec.specs.Flow.{Direction, Forward, Reversed}
use Rattle.brick_spec.specs.Stage.{Fire}
use Rattle.brick_spec.specs.FlowStage.{FlowItem, FlowStage, left_by, nothing}

pub data Verdict : Type 0 where
  Allow : Verdict
  Deny : Verdict

-- a rule, which is met by everything where it has no match
pub record Rule : Type 0 where
  pub verdict : Verdict
  pub wanted : Option Match

abbrev pub is_met : Option Match → Tuple → Bool
is_met None t = true
is_met (Some wanted) t = meets_tuple wanted t

-- the first rule that is met decides, and else the default
abbrev pub verdict_of : List Rule → Verdict → Tuple → Verdict
verdict_of [] default t = default
verdict_of (rule ∷ rules) default t = if is_met rule.wanted t then rule.verdict else verdict_of rules default t

abbrev pub is_allow : Verdict → Bool
is_allow Allow = true
is_allow Deny = false

-- a frame without the IPv4 layer skips the stage
abbrev pub allows_tuple : List Rule → Verdict → Option Tuple → Bool
allows_tuple rules default None = true
allows_tuple rules default (Some t) = is_allow (verdict_of rules default t)

-- the rules alone allow the item
abbrev pub allows : List Rule → Verdict → FlowItem → Bool
allows rules default x = allows_tuple rules default (tuple_of x.item.frame)

abbrev pub is_forward : Direction → Bool
is_forward Forward = true
is_forward Reversed = false

abbrev pub is_reversed : Direction → Bool
is_reversed Forward = false
is_reversed Reversed = true

-- an item that goes forward, which the rules allow
abbrev pub opens : List Rule → Verdict → FlowItem → Bool
opens rules default x = is_forward x.dir && allows rules default x

-- The stage: with `established`, an item that is reversed passes where an earlier one of its flow that goes forward was
-- allowed. Else the rules decide.
abbrev pub firewall : Bool → List Rule → Verdict → FlowStage
firewall established rules default = record {
  on_item = λ before x. left_by x (if (established
      && (is_reversed x.dir && list_any (opens rules default) before)) || allows rules default x then Ok x.item
      else Err Fire);
  at_end = λ all n. nothing;
}
