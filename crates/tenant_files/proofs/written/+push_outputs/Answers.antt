use Rattle.std.proofs.Common.{◌≡◌, ◌∷◌, ◌++◌, List, map, length, rules, ap, ◌∙◌}
use Rattle.std.specs.List.{zip}
use Rattle.tenant_spec.specs.Tenant.{Output}
use Rattle.run_report.specs.View.{output_view}
use Rattle.tenant_files.specs.Written.{output_of}
use Rattle.tenant_files.proofs.Made.{more_behind, zip_first, same_output}
use Rattle.tenant_files.proofs.written.+push_outputs.Goals as goal

pub returns : goal.returns
returns t c =
    let names : c.args.names.now ≡ c.in-Some.name.now ∷ c.in-Some.more_names.now = search rules in
    let lists : c.args.lists.now ≡ c.in-Some-split_first.list.now ∷ c.in-Some-split_first.more_lists.now = search rules in
    zip_first output_of _ _ _ _ _ _ _ _ names lists
    (more_behind output_view _ _ _ (output_of (c.in-Some.name.now, c.in-Some-split_first.list.now)) _
    (c.in_ok-push_outputs.ensures ∙ ap (λ l. map output_view l ++ map output_of (zip c.in-Some.more_names.now c.in-Some-split_first.more_lists.now)) c.in_ok-push.ensures.items)
    (same_output _ _ _ _ (search rules) (search rules)))
