-- Words that are a line, and words that are none.
use Rattle.std.specs.Prelude.{false, ◌≡◌, ◌==◌, ℕ, List, [], ◌∷◌, Some, None, codes}
use Rattle.clap.specs.Words.{Text}
use Rattle.words_spec.specs.AcceptedWords.{Mode, Run, Inline, Check, Gen, Line, line_of, generated_number}

abbrev line_with : Mode → ℕ → Text → Text → Line
line_with mode workers chains out = record { mode = mode; workers = workers; chains = chains; out = out }

abbrev four : Text → Text → Text → Text → List Text
four a b c d = a ∷ b ∷ c ∷ d ∷ []

pub record Samples : Type 0 where
  -- lines
  pub inline : line_of (codes "inline" ∷ codes "c.toml" ∷ codes "out" ∷ [])
      ≡ Some (line_with Inline 1 (codes "c.toml") (codes "out"))
  pub run : line_of (codes "run" ∷ codes "c.toml" ∷ codes "out" ∷ [])
      ≡ Some (line_with Run 1 (codes "c.toml") (codes "out"))
  pub run_with_four : line_of (codes "--workers" ∷ four (codes "4") (codes "run") (codes "c.toml") (codes "out"))
      ≡ Some (line_with Run 4 (codes "c.toml") (codes "out"))
  pub check : line_of (codes "--workers" ∷ four (codes "4") (codes "check") (codes "c.toml") (codes "out"))
      ≡ Some (line_with Check 4 (codes "c.toml") (codes "out"))
  pub before : line_of (four (codes "--workers=16") (codes "inline") (codes "c.toml") (codes "out"))
      ≡ Some (line_with Inline 16 (codes "c.toml") (codes "out"))
  pub after : line_of (four (codes "inline") (codes "c.toml") (codes "out") (codes "--workers=16"))
      ≡ Some (line_with Inline 16 (codes "c.toml") (codes "out"))
  pub hyphen : line_of (codes "inline" ∷ codes "-" ∷ codes "out" ∷ [])
      ≡ Some (line_with Inline 1 (codes "-") (codes "out"))
  pub empty : line_of (codes "inline" ∷ [] ∷ codes "out" ∷ []) ≡ Some (line_with Inline 1 [] (codes "out"))
  pub after_hyphens : line_of (four (codes "--") (codes "inline") (codes "--help") (codes "out"))
      ≡ Some (line_with Inline 1 (codes "--help") (codes "out"))
  pub gen : line_of (codes "gen" ∷ codes "007" ∷ codes "out" ∷ []) ≡ Some (line_with Gen 1 (codes "007") (codes "out"))
  pub number : generated_number (codes "007") ≡ Some 7
  pub highest : generated_number (codes "18446744073709551615") ≡ Some 18446744073709551615
  -- no lines
  pub two_words : line_of (codes "run" ∷ codes "c.toml" ∷ []) ≡ None
  pub four_words : line_of (four (codes "inline") (codes "c.toml") (codes "out") (codes "more")) ≡ None
  pub mode : line_of (codes "runs" ∷ codes "c.toml" ∷ codes "out" ∷ []) ≡ None
  pub too_many : line_of (codes "--workers" ∷ four (codes "17") (codes "run") (codes "c.toml") (codes "out")) ≡ None
  pub no_workers : line_of (codes "--workers" ∷ four (codes "0") (codes "inline") (codes "c.toml") (codes "out")) ≡ None
  pub leading_zero : line_of (codes "--workers" ∷ four (codes "01") (codes "inline") (codes "c.toml") (codes "out"))
      ≡ None
  pub sign : line_of (codes "--workers" ∷ four (codes "+1") (codes "inline") (codes "c.toml") (codes "out")) ≡ None
  pub twice : line_of (codes "--workers" ∷ codes "3" ∷ codes "--workers"
      ∷ four (codes "4") (codes "inline") (codes "c.toml") (codes "out")) ≡ None
  pub too_high : line_of (codes "gen" ∷ codes "18446744073709551616" ∷ codes "out" ∷ []) ≡ None
  pub too_many_digits : line_of (codes "gen" ∷ codes "000000000000000000007" ∷ codes "out" ∷ []) ≡ None
  pub no_plain_folder : line_of (codes "gen" ∷ codes "7" ∷ codes "my out" ∷ []) ≡ None
  pub option : line_of (four (codes "--verbose") (codes "inline") (codes "c.toml") (codes "out")) ≡ None
  pub help : line_of (codes "--help" ∷ []) ≡ None
  pub help_behind : line_of (four (codes "inline") (codes "c.toml") (codes "out") (codes "-h")) ≡ None

-- Three words, the first `inline`, the others not empty and with no hyphen in front, are the line that they look like.
abbrev pub PlainWords : Type 0
PlainWords = (x y : ℕ) (xs ys : Text) → (x == 45) ≡ false → (y == 45) ≡ false
    → line_of (codes "inline" ∷ (x ∷ xs) ∷ (y ∷ ys) ∷ []) ≡ Some (line_with Inline 1 (x ∷ xs) (y ∷ ys))
