-- Accepted words: which words after the program's name are a line, and which line. The matches of the crate `clap` for
-- the command `bricks [--workers N] MODE CHAINS OUT` exist, and the rules below hold. A request for help is no line.
use Rattle.std.specs.Prelude.{ℕ, ◌-◌, ◌^◌, ◌&&◌, ◌||◌, ◌==◌, Bool, true, List, [], ◌∷◌, length, Option, Some, None}
use Rattle.std.specs.Prelude.{IsSome, is_some, codes, if◌then◌else◌, nat_le}
use Rattle.std.specs.List.{list_all}
use Rattle.std.specs.Str.{bytes_eq}
use Rattle.brick_spec.specs.Decimal.{◌>>=◌, is_digit, number_after, number_of}
use Rattle.clap.specs.Words.{App, Row, Rule, Text, matches_of, new_app, new_rule, with_rule, fault_of, Kinds, first_of}
use Rattle.clap.specs.Simple.{on_top}

-- THE COMMAND, as `clap` sees it

-- `--workers N`, which is 1 where it is not there
abbrev pub workers_rule : Rule
workers_rule = record (new_rule (codes "workers")) { long = Some (codes "workers"); defaults = codes "1" ∷ [] }

-- a word that has to be there
abbrev pub word_rule : Text → Rule
word_rule id = record (new_rule id) { required = true }

abbrev pub command : App
command = with_rule (with_rule (with_rule (with_rule
    (on_top (λ s. record s { no_binary_name = true }) (new_app (codes "bricks")))
    workers_rule) (word_rule (codes "MODE"))) (word_rule (codes "CHAINS"))) (word_rule (codes "OUT"))

-- matches exist where no step of clap's reading fails
abbrev pub where_none : Kinds → List Row → Option (List Row)
where_none [] rows = Some rows
where_none (kind ∷ kinds) rows = None

-- the command's matches on the words, where they exist
unfoldable pub rows : List Text → Option (List Row)
rows words = where_none (fault_of command words) (matches_of command words)

-- A LINE

pub data Mode : Type 0 where
  -- runs the tenants without lanes, and writes their files
  Inline : Mode
  -- reads the chain file alone
  Check : Mode
  -- runs the tenants over lanes and workers
  Run : Mode
  -- makes a capture and a chain file, and runs them without lanes
  Gen : Mode

-- what is to be done, with how many workers, the name of the chain file, which in mode `gen` is a number, and the
-- folder that is written to
pub record Line : Type 0 where
  pub mode : Mode
  pub workers : ℕ
  pub chains : List ℕ
  pub out : List ℕ

-- MODE

-- the mode of the first of the words that is this one
abbrev pub mode_among : List (Text × Mode) → Text → Option Mode
mode_among [] text = None
mode_among (m ∷ ms) text = if bytes_eq text m.0 then Some m.1 else mode_among ms text

-- the words of the modes
abbrev pub modes : List (Text × Mode)
modes = (codes "run", Run) ∷ (codes "inline", Inline) ∷ (codes "check", Check) ∷ (codes "gen", Gen) ∷ []

abbrev pub mode_of : Text → Option Mode
mode_of text = mode_among modes text

-- NUMBERS: decimal digits without sign

-- N: 1 to 16, without leading zero
abbrev pub workers_of : Text → Option ℕ
workers_of text = number_of 16 text >>= λ n. if nat_le 1 n then Some n else None

-- a letter, a digit, `_`, `.`, `/` or `-`
abbrev pub is_path_byte : ℕ → Bool
is_path_byte c = (nat_le 97 c
    && nat_le c 122) || ((nat_le 65 c
    && nat_le c 90) || (is_digit c || (c == 95 || (c == 46 || (c == 47 || c == 45)))))

-- the folder of mode `gen`: 1 to 200 such characters
abbrev pub is_plain_folder : Text → Bool
is_plain_folder out = nat_le 1 (length out) && (nat_le (length out) 200 && list_all is_path_byte out)

-- the number that a generated capture is made of: 1 to 20 digits, zeros in front too, below 2^64
abbrev pub generated_number : Text → Option ℕ
generated_number text =
    if nat_le 1 (length text) && nat_le (length text) 20 then number_after (2 ^ 64 - 1) 0 text else None

-- In mode `gen` CHAINS is that number.
abbrev pub fits_mode : Mode → Text → Text → Bool
fits_mode Gen chains out = is_some (generated_number chains) && is_plain_folder out
fits_mode _ chains out = true

-- the line that the matches are
unfoldable pub line_in : List Row → Option Line
line_in rows = do
  mode ← first_of (codes "MODE") rows >>= mode_of
  workers ← first_of (codes "workers") rows >>= workers_of
  chains ← first_of (codes "CHAINS") rows
  out ← first_of (codes "OUT") rows
  if fits_mode mode chains out then Some (record { mode = mode; workers = workers; chains = chains; out = out })
      else None

-- the line that the words are, and none where they are no line
abbrev pub line_of : List (List ℕ) → Option Line
line_of words = rows words >>= line_in

-- the words are a line
abbrev pub IsLine : List (List ℕ) → Type 0
IsLine words = IsSome (line_of words)
