use Rattle.std.proofs.Common.{◌∙◌, ◌++◌, ◌∷◌, [], ap, arith}
use Rattle.lpm_fw.specs.Parts.{rows_in}
use Rattle.lpm_fw.proofs.Places.{others_kept, first_here, first_others}
use Rattle.lpm_fw.proofs.parts.Parts.push.Goals as goal

pub returns-in_ok-push_at-in-Some-clause-others : goal.returns-in_ok-push_at-in-Some-clause-others
returns-in_ok-push_at-in-Some-clause-others c other differs =
    others_kept c.self.inside.places c.self.inside.lists.items c.push_at.new.lists.items c.args.part other c.in-Some.n c.self.invariant c.in-Some.is differs c.in_ok-push_at-in-Some.ensures.others
    ∙ ap (λ inside. rows_in inside other) c.self.view_is

pub returns-in_ok-push_list-in-None-clause-here : goal.returns-in_ok-push_list-in-None-clause-here
returns-in_ok-push_list-in-None-clause-here c =
    first_here c.self.inside.places c.self.inside.lists.items c.push_list.new.lists.items c.args.part c.in_ok-push_list-in-None.field-0 c.args.k (let l = c.self.invariant.long in omega arith) c.in-None.is c.in_ok-push_list-in-None.ensures.here
    ∙ ap (λ inside. rows_in inside c.args.part ++ c.args.k ∷ []) c.self.view_is

pub returns-in_ok-push_list-in-None-clause-others : goal.returns-in_ok-push_list-in-None-clause-others
returns-in_ok-push_list-in-None-clause-others c other differs =
    first_others c.self.inside.places c.self.inside.lists.items c.push_list.new.lists.items c.args.part other c.in_ok-push_list-in-None.field-0 c.self.invariant differs c.in_ok-push_list-in-None.ensures.others
    ∙ ap (λ inside. rows_in inside other) c.self.view_is
