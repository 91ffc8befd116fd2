use Rattle.std.proofs.Common.{refl}
use Rattle.clap.proofs.OnLiterals.{clap_on_literals}
use Rattle.words_spec.specs.AcceptedWords.{rows}
use Rattle.words_spec.specs.AcceptedWords.{line_in}
use Rattle.brick_spec.specs.Decimal.{number_of}
use Rattle.command_line.proofs.samples.Goals as goal

pub returns : goal.returns
unfolding clap_on_literals rows number_of line_in
returns c = record { inline = refl; run = refl; run_with_four = refl; check = refl; before = refl; after = refl; hyphen = refl; empty = refl; after_hyphens = refl; gen = refl; number = refl; highest = refl; two_words = refl; four_words = refl; mode = refl; too_many = refl; no_workers = refl; leading_zero = refl; sign = refl; twice = refl; too_high = refl; too_many_digits = refl; no_plain_folder = refl; option = refl; help = refl; help_behind = refl }
