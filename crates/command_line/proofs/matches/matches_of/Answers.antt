use Rattle.std.proofs.Common.{◌∙◌, ap, subst, sym, map, string_bytes, Some}
use Rattle.clap.specs.Words.{App, fault_of, is_simple, is_simple_and_free, matches_of, kind_of, HasKind}
use Rattle.command_line.proofs.ClapMatches.{command_simple, command_free, rows_found, rows_none}
use Rattle.command_line.proofs.matches.matches_of.Goals as goal

pub returns-in-Ok-try_get_matches_from : goal.returns-in-Ok-try_get_matches_from
returns-in-Ok-try_get_matches_from c =
    let words = map string_bytes c.args.words.now in
    let is = c.in-Ok.ensures in
    let has = c.in-Ok-try_get_matches_from.ensures.matches (ap is_simple is ∙ command_simple) in
    let none = c.in-Ok-try_get_matches_from.ensures.kinds (ap is_simple_and_free is ∙ command_free) in
    ap Some (has.0 ∙ ap (λ (a : App). matches_of a words) is) ∙ sym (rows_found words (sym (ap (λ (a : App). fault_of a words) is) ∙ none))

pub returns : goal.returns
returns c =
    let words = map string_bytes c.args.words.now in
    let is = c.in-Ok.ensures in
    let has = c.in-Err.ensures.kinds (ap is_simple_and_free is ∙ command_free) in
    sym (rows_none words (kind_of c.in-Err.error) (rw c.kind.ensures at c.in_default-kind.not-OutOfMemory) (subst (λ (a : App). HasKind (fault_of a words) c.in-Err.error) is has))
