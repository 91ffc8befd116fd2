-- What is kept of a flow, in a list by the numbers of flows.
use Rattle.std.specs.Prelude.{ℕ, List, Option, None, option_map, get_or}
use Rattle.std.specs.Box.{box_value}
use Rattle.std.specs.Global.{Box}
use Rattle.window_stage.specs.declared.flow_halves.FlowHalves.{FlowHalves}

-- nothing behind the end of the list
abbrev pub kept_at : List (Option (Box FlowHalves)) → ℕ → Option FlowHalves
kept_at kept flow = option_map box_value (get_or kept flow None)
