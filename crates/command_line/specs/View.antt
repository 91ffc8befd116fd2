-- A line of the code as one of the definitions.
use Rattle.std.specs.Prelude.{◌≡◌, ℕ, List, Option, Some, None, IsTrue, if◌then◌else◌}
use Rattle.brick_spec.specs.Decimal.{◌>>=◌}
use Rattle.words_spec.specs.AcceptedWords as spec
use Rattle.command_line.specs.declared.Mode.{Mode}
use Rattle.command_line.specs.declared.Mode.TheVariants.{Run, Inline, Check, Gen}
use Rattle.command_line.specs.declared.CommandLine.{CommandLine}

abbrev pub mode_view : Mode → spec.Mode
mode_view Run = spec.Run
mode_view Inline = spec.Inline
mode_view Check = spec.Check
mode_view (Gen number) = spec.Gen

abbrev pub line_view : CommandLine → spec.Line
line_view l = record { mode = mode_view l.mode; workers = l.workers; chains = l.chains.now; out = l.out.now }

-- the mode of a word, where the two words behind it fit it
abbrev pub fitting_mode : List ℕ → List ℕ → List ℕ → Option spec.Mode
fitting_mode text chains out = spec.mode_of text >>= λ m. if spec.fits_mode m chains out then Some m else None

-- In mode `gen` the number is that of the words, and the folder is plain.
abbrev pub IsModeOf : Mode → List ℕ → List ℕ → Type 0
IsModeOf Run chains out = Unit {0}
IsModeOf Inline chains out = Unit {0}
IsModeOf Check chains out = Unit {0}
IsModeOf (Gen number) chains out = (spec.generated_number chains ≡ Some number) × IsTrue (spec.is_plain_folder out)
