-- What is promised of a line of the command, by its mode.
use Rattle.std.specs.Prelude.{◌≡◌, ◌≢◌, ℕ, List, Some}
use Rattle.words_spec.specs.AcceptedWords.{Line, Run, Inline, Check, Gen, generated_number}
use Rattle.lane_spec.specs.LaneBook.{LaneBook}
use Rattle.run_spec.specs.Seen.{Seen}
use Rattle.run_spec.specs.Inline.{InlinePromises}
use Rattle.run_spec.specs.Check.{CheckPromises}
use Rattle.run_spec.specs.Generator.{GeneratorPromises}
use Rattle.run_spec.specs.Lanes.{RunPromises}

-- The Books were old before, and are new.
pub record LinePromises (tells shows : Type 0) (line : Line) (before now : Seen) (old new : List LaneBook)
    (status : ℕ) : Type 0 where
  pub run : line.mode ≡ Run → RunPromises tells shows line.chains line.out line.workers before now old new status
  pub inline : line.mode ≡ Inline → InlinePromises tells shows line.chains line.out before now status
  pub check : line.mode ≡ Check → CheckPromises tells shows line.chains line.out before now status
  pub generated : (number : ℕ) → line.mode ≡ Gen → generated_number line.chains ≡ Some number
      → GeneratorPromises tells shows number line.out before now status
  pub books : line.mode ≢ Run → new ≡ old
