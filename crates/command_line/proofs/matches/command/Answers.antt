use Rattle.std.proofs.Common.{rules, ◌≡◌, ◌∙◌, ap, ap₂, codes, true}
use Rattle.std.proofs.lemmas.Result.{IfOk-weaker}
use Rattle.clap.specs.Words.{App, app_of, new_app, rule_of, with_rule}
use Rattle.clap.specs.Simple.{app_of_fields, on_top}
use Rattle.words_spec.specs.AcceptedWords.{workers_rule, word_rule}
use Rattle.command_line.proofs.matches.command.Goals as goal

abbrev unnamed : App → App
unnamed = on_top (λ s. record s { no_binary_name = true })

pub returns : goal.returns
returns c =
    let workers_is : rule_of c.default_value-workers.result ≡ workers_rule = search rules in
    let mode_is : rule_of c.required-mode.result ≡ word_rule (codes "MODE") = search rules in
    let chains_is : rule_of c.required-chains.result ≡ word_rule (codes "CHAINS") = search rules in
    let out_is : rule_of c.required-out.result ≡ word_rule (codes "OUT") = search rules in
    let base : app_of c.no_binary_name-named.result ≡ unnamed (new_app (codes "bricks")) =
    ap app_of_fields c.no_binary_name-named.ensures ∙ ap unnamed c.new-5.ensures.app in
    let one = c.in_ok-arg.ensures.shape (search rules) ∙ ap₂ with_rule base workers_is in
    let two = c.in_ok-arg-2.ensures.shape (search rules) ∙ ap₂ with_rule one mode_is in
    let three = c.in_ok-arg-3.ensures.shape (search rules) ∙ ap₂ with_rule two chains_is in
    IfOk-weaker c.arg-4.result _ _ (λ r h. h.shape (search rules) ∙ ap₂ with_rule three out_is) c.arg-4.ensures
