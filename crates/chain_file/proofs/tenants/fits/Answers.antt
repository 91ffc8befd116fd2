use Rattle.std.proofs.Common.{◌≡◌, ◌∙◌, ◌<◌, ◌≤◌, false, true, Err, ◌&&◌, not, is_some, List, length, map, option_map, ap, ap₂, sym, subst, arith, nat_le}
use Rattle.std.specs.List.{list_all, list_any}
use Rattle.brick_spec.specs.Name.{is_name}
use Rattle.flow_key.specs.View.{plan_view}
use Rattle.chain_spec.specs.ChainSet as spec
use Rattle.chain_spec.specs.ChainSet.{are_distinct, outputs_of, group_with, windows_in, is_nat, paths_through}
use Rattle.chain_spec.proofs.Outputs.{outputs_named, outputs_distinct}
use Rattle.chain_types.specs.StageView.{stages_view}
use Rattle.chain_types.specs.GroupView.{group_view}
use Rattle.chain_types.specs.declared.stage.Stage.{Stage}
use Rattle.chain_types.specs.declared.group.Group.{Group}
use Rattle.chain_text.specs.Gives.{seen}
use Rattle.chain_text.proofs.Trees.{IfSome-weaker}
use Rattle.chain_file.specs.View.{named_view, settings_view}
use Rattle.chain_file.specs.declared.named.NamedGroup.{NamedGroup}
use Rattle.chain_file.proofs.Facts.{groups_right, some_outputs, few_outputs, groups_named, all_there, plan_there, lacks_plan}
use Rattle.chain_file.proofs.tenants.fits.Goals as goal

pub groups_with-requires-clause-some : goal.groups_with-requires-clause-some
groups_with-requires-clause-some c =
    let outs = c.deref-2.ensures.value ∙ c.in_ok-outputs.ensures ∙ ap (λ (ns : List NamedGroup). outputs_of (map named_view ns)) c.deref.ensures.value in
    let some = some_outputs c.args.named.items c.requires.count.0 in
    let n = ap length outs in
    omega (arith, some, n)

pub groups_with-requires-clause-few : goal.groups_with-requires-clause-few
groups_with-requires-clause-few c =
    let outs = c.deref-2.ensures.value ∙ c.in_ok-outputs.ensures ∙ ap (λ (ns : List NamedGroup). outputs_of (map named_view ns)) c.deref.ensures.value in
    let few = few_outputs c.args.named.items c.requires.count.1 in
    let n = ap length outs in
    omega (arith, few, n)

pub returns-then-lacks_plan : goal.returns-then-lacks_plan
returns-then-lacks_plan c =
    let named = c.args.named.items in
    let outs : c.in_ok-outputs.outputs.items ≡ outputs_of (map named_view named) = c.in_ok-outputs.ensures ∙ ap (λ (ns : List NamedGroup). outputs_of (map named_view ns)) c.deref.ensures.value in
    let value : map group_view c.in_ok-groups.groups.items ≡ map (group_with (outputs_of (map named_view named))) (map named_view named) =
    c.in_ok-groups.ensures.value ∙ ap (λ os. map (group_with os) (map named_view named)) (c.deref-2.ensures.value ∙ outs) in
    let lacks = ap₂ (λ (ss : List Stage) (gs : List Group). list_any (list_any is_nat) (paths_through (stages_view ss) (map group_view gs)) && not (is_some (option_map plan_view c.args.nat))) (sym c.deref-3.ensures.value) (sym c.deref-4.ensures.value) ∙ sym c.lacks_plan.ensures ∙ c.if-lacks_plan.true in
    let none = ap (λ (gs : List spec.Group). list_any (list_any is_nat) (paths_through (stages_view c.args.stages.items) gs) && not (is_some (option_map plan_view c.args.nat))) (sym value) ∙ lacks in
    let is = lacks_plan c.args.place c.args.name c.args.capture (settings_view c.args.settings) (option_map plan_view c.args.nat) (stages_view c.args.stages.items) (map named_view named) none in
    record { name = tt; value = IfSome-weaker (seen c.missing.result) _ _ (λ f e. is ∙ ap Err (sym e)) c.missing.ensures }

pub invariant_of-result : goal.invariant_of-result
invariant_of-result c =
    let named = c.args.named.items in
    let groups = c.in_ok-groups.groups.items in
    let outputs = c.in_ok-outputs.outputs.items in
    let outs : outputs ≡ outputs_of (map named_view named) = c.in_ok-outputs.ensures ∙ ap (λ (ns : List NamedGroup). outputs_of (map named_view ns)) c.deref.ensures.value in
    let value : map group_view groups ≡ map (group_with outputs) (map named_view named) = c.in_ok-groups.ensures.value ∙ ap (λ os. map (group_with os) (map named_view named)) c.deref-2.ensures.value in
    let len = c.in_ok-groups.ensures.len in
    let count = c.requires.count in
    let first = count.0 in
    let second = count.1 in
    let some : 0 < length outputs = subst (λ os. 0 < length os) (sym outs) (some_outputs named first) in
    let lacks = ap₂ (λ (ss : List Stage) (gs : List Group). list_any (list_any is_nat) (paths_through (stages_view ss) (map group_view gs)) && not (is_some (option_map plan_view c.args.nat))) (sym c.deref-3.ensures.value) (sym c.deref-4.ensures.value) ∙ sym c.lacks_plan.ensures ∙ c.if-lacks_plan.false in
    let one = ap₂ (λ (ss : List Stage) (gs : List Group). list_all (λ path. nat_le (windows_in path) 1) (paths_through (stages_view ss) (map group_view gs))) (sym c.deref-5.ensures.value) (sym c.deref-6.ensures.value) ∙ sym c.has_one_window.ensures ∙ c.if-has_one_window.true in
    record {
      named = c.requires.named;
      capture_length = c.requires.capture;
      buffers_range = c.args.settings.buffers_range;
      bytes_range = c.args.settings.bytes_range;
      stages_right = c.requires.stages;
      some_groups = (omega (arith, len, first), omega (arith, len, second));
      groups_distinct = ap are_distinct (groups_named outputs groups (map named_view named) value) ∙ c.requires.distinct;
      outputs_named = ap (list_all is_name) outs ∙ outputs_named (map named_view named) (groups_right named);
      outputs_distinct = ap are_distinct outs ∙ outputs_distinct (map named_view named);
      right = (plan_there _ _ lacks, (one, all_there outputs groups (map named_view named) value some));
    }
