-- What a worker was given.
use Rattle.std.specs.Prelude.{Bool, true, false}
use Rattle.lane_cases.specs.declared.steps.Given.{Given}
use Rattle.lane_cases.specs.declared.steps.Given.TheVariants.{Record, Nothing, End}

abbrev pub is_end : Given → Bool
is_end (Record k) = false
is_end Nothing = false
is_end End = true
