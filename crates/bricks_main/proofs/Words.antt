-- What is promised of words that are a line.
use Rattle.std.proofs.Common.{◌≡◌, ◌≢◌, ℕ, List, refl, sym, ◌∙◌, subst}
use Rattle.std.specs.Prelude.{Option, Some, IsSome}
use Rattle.words_spec.specs.AcceptedWords.{Mode, Run, Inline, Check, Gen, Line, line_of, IsLine, generated_number}
use Rattle.lane_spec.specs.LaneBook.{LaneBook}
use Rattle.run_spec.specs.Seen.{Seen}
use Rattle.run_spec.specs.Told.{CommandLinePromise, UsagePromise}
use Rattle.run_spec.specs.Generator.{GeneratorPromises}
use Rattle.run_spec.specs.Lanes.{RunPromises}
use Rattle.command_line.specs.View.{mode_view, IsModeOf}
use Rattle.command_line.specs.declared.Mode.{Mode as ModeInCode}
use Rattle.command_line.specs.declared.Mode.TheVariants as code
use Rattle.bricks_main.specs.Lines.{LinePromises}

-- A LINE of mode `gen`

gen_not_run : ◌≡◌ {A = Mode} Gen Run → ⊥
gen_not_run e = cc

gen_not_inline : ◌≡◌ {A = Mode} Gen Inline → ⊥
gen_not_inline e = cc

gen_not_check : ◌≡◌ {A = Mode} Gen Check → ⊥
gen_not_check e = cc

same_number : (n m : ℕ) → ◌≡◌ {A = Option ℕ} (Some n) (Some m) → n ≡ m
same_number n m e = cc

pub gen_kept : (tells shows : Type 0) (line : Line) (number : ℕ) (before now : Seen) (books : List LaneBook) (status : ℕ) → line.mode ≡ Gen → generated_number line.chains ≡ Some number
    → GeneratorPromises tells shows number line.out before now status → LinePromises tells shows line before now books books status
gen_kept tells shows line number before now books status gen is kept = record {
  run = λ e. absurd (gen_not_run (sym gen ∙ e));
  inline = λ e. absurd (gen_not_inline (sym gen ∙ e));
  check = λ e. absurd (gen_not_check (sym gen ∙ e));
  generated = λ other e spelt. subst (λ (n : ℕ). GeneratorPromises tells shows n line.out before now status) (same_number number other (sym is ∙ spelt)) kept;
  books = λ e. refl;
}

-- a line of mode `gen` spells a number
pub spelt_of : (m : ModeInCode) (chains out : List ℕ) → IsModeOf m chains out → mode_view m ≡ Gen → (n : ℕ) × (generated_number chains ≡ Some n)
spelt_of code.Run chains out h e = cc
spelt_of code.Inline chains out h e = cc
spelt_of code.Check chains out h e = cc
spelt_of (code.Gen n) chains out h e = (n, h.0)

-- WORDS that are this line
module _ (tells shows : Type 0) (words : List (List ℕ)) (v : Line) (before now : Seen) (old new : List LaneBook) (status : ℕ) (is : line_of words ≡ Some v)
    (spelt : v.mode ≡ Gen → (n : ℕ) × (generated_number v.chains ≡ Some n)) (kept : LinePromises tells shows v before now old new status) where
  is_line : IsLine words
  is_line = subst (λ (o : Option Line). IsSome o) (sym is) refl

  no_usage : (m : Mode) → v.mode ≡ m → status ≢ 2
  no_usage Run e = (kept.run e).set.reading.line
  no_usage Inline e = (kept.inline e).reading.line
  no_usage Check e = (kept.check e).reading.line
  no_usage Gen e = let s = spelt e in (kept.generated s.0 e s.1).line

  same_line : (line : Line) → ◌≡◌ {A = Option Line} (Some v) (Some line) → v ≡ line
  same_line line e = cc

  pub command_line_kept : CommandLinePromise tells (IsLine words) before now status
  command_line_kept = record {
    no_line = λ two. absurd (no_usage v.mode refl two);
    comes = λ no. absurd (no is_line);
    files = λ x no. absurd (no is_line);
    faults = λ no account name. absurd (no is_line);
  }

  pub usage_kept : UsagePromise (IsLine words) before now status
  usage_kept = record { shown = λ no. absurd (no is_line) }

  pub run_kept : (line : Line) → line_of words ≡ Some line → line.mode ≡ Run → RunPromises tells shows line.chains line.out line.workers before now old new status
  run_kept line e mode =
      subst (λ (l : Line). l.mode ≡ Run → RunPromises tells shows l.chains l.out l.workers before now old new status) (same_line line (sym is ∙ e)) kept.run mode

  pub generated_kept : (line : Line) (number : ℕ) → line_of words ≡ Some line → line.mode ≡ Gen → generated_number line.chains ≡ Some number → GeneratorPromises tells shows number line.out before now status
  generated_kept line number e mode says =
      subst (λ (l : Line). (n : ℕ) → l.mode ≡ Gen → generated_number l.chains ≡ Some n → GeneratorPromises tells shows n l.out before now status) (same_line line (sym is ∙ e)) kept.generated number mode says

  pub books_kept : ((line : Line) → line_of words ≡ Some line → line.mode ≢ Run) → new ≡ old
  books_kept none = kept.books (none v is)
