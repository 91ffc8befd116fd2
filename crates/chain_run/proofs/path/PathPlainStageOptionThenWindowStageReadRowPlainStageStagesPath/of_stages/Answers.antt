use Rattle.std.proofs.Common.{◌∙◌, ◌∷◌, ◌++◌, List, Option, map, subst, sym}
use Rattle.std.specs.Prelude.{option_map}
use Rattle.flow_key.specs.View.{plan_view}
use Rattle.batch_ops.specs.declared.then.Then.{Then}
use Rattle.read_row.specs.declared.row.ReadRow.{ReadRow}
use Rattle.stage_path.specs.declared.path.Path.{Path}
use Rattle.stage_row.specs.declared.plain.PlainStage.{PlainStage}
use Rattle.window_stage.specs.declared.stage.WindowStage.{WindowStage}
use Rattle.chain_types.specs.ChainParts.{unparsed_view}
use Rattle.chain_types.specs.StageView.{stage_view, stages_view}
use Rattle.chain_run.specs.Plain.{ArePlain, AddsPlain}
use Rattle.chain_types.specs.declared.stage.Stage.{Stage}
use Rattle.chain_run.proofs.Cuts.{straight_plain, before_plain, cut_there}
use Rattle.chain_run.proofs.StagePaths.{straight_path, bent_made, cut_at}
use Rattle.chain_run.proofs.path.PathPlainStageOptionThenWindowStageReadRowPlainStageStagesPath.of_stages.Goals as goal

pub returns-in_ok-add_plain-in-None : goal.returns-in_ok-add_plain-in-None
returns-in_ok-add_plain-in-None c =
    let s = c.args.site.now in
    straight_path (λ (t : Then WindowStage (ReadRow PlainStage) _ _). t.first) (λ t. t.second) (λ t. t.failed) (λ (p : Path PlainStage (Option (Then WindowStage (ReadRow PlainStage) _ _))). p.before.stages) (λ p. p.behind) (λ p. p.failed)
    (option_map plan_view s.nat) s.count s.bytes (unparsed_view c.args.unparsed) (stages_view c.args.stages.now) c.in_ok-before.before.items c.add_plain.new.plain c.straight.result c.in_ok-before.ensures c.in_ok-add_plain-in-None.ensures c.straight.ensures.stages c.straight.ensures.behind

pub add_plain-requires : goal.add_plain-requires
add_plain-requires c =
    let s = c.args.site.now in
    straight_plain (option_map plan_view s.nat) s.count s.bytes (stages_view c.args.stages.now) c.requires.right c.requires.sound c.in-None.ensures.none

pub add_plain-requires-in-Some : goal.add_plain-requires-in-Some
add_plain-requires-in-Some c =
    let s = c.args.site.now in
    let n = option_map plan_view s.nat in
    subst (λ (ss : List Stage). ArePlain n (stages_view ss)) (sym c.stages_before.ensures) (before_plain n s.count s.bytes stage_view c.args.stages.now c.in-Some.at c.requires.right c.requires.sound c.in-Some.ensures.some.1.0)

pub window_of-window-requires-clause-window : goal.window_of-window-requires-clause-window
window_of-window-requires-clause-window c =
    let s = c.args.site.now in
    (cut_there (option_map plan_view s.nat) s.count s.bytes stage_view c.args.stages.now c.in-Some.at c.index-stages-at.result c.in-Some.ensures.some.0 c.index-stages-at.is c.requires.right c.requires.sound c.in-Some.ensures.some.1).window

pub window_of-window-requires-clause-right : goal.window_of-window-requires-clause-right
window_of-window-requires-clause-right c =
    let s = c.args.site.now in
    (cut_there (option_map plan_view s.nat) s.count s.bytes stage_view c.args.stages.now c.in-Some.at c.index-stages-at.result c.in-Some.ensures.some.0 c.index-stages-at.is c.requires.right c.requires.sound c.in-Some.ensures.some.1).right

pub add_plain-requires-in-Some-2 : goal.add_plain-requires-in-Some-2
add_plain-requires-in-Some-2 c =
    let s = c.args.site.now in
    let n = option_map plan_view s.nat in
    subst (λ (ss : List Stage). ArePlain n (stages_view ss)) (sym c.stages_behind.ensures)
    (cut_there n s.count s.bytes stage_view c.args.stages.now c.in-Some.at c.index-stages-at.result c.in-Some.ensures.some.0 c.index-stages-at.is c.requires.right c.requires.sound c.in-Some.ensures.some.1).behind

pub bent-requires : goal.bent-requires
bent-requires c =
    let s = c.args.site.now in
    let k = cut_there (option_map plan_view s.nat) s.count s.bytes stage_view c.args.stages.now c.in-Some.at c.index-stages-at.result c.in-Some.ensures.some.0 c.index-stages-at.is c.requires.right c.requires.sound c.in-Some.ensures.some.1 in
    (c.window_of-window.ensures s.count s.bytes k.fits).few

pub returns-in_ok-add_plain-in-Some-2 : goal.returns-in_ok-add_plain-in-Some-2
returns-in_ok-add_plain-in-Some-2 c =
    let s = c.args.site.now in
    let n = option_map plan_view s.nat in
    let x = c.index-stages-at.result in
    let before = c.stages_before.result.now in
    let behind = c.stages_behind.result.now in
    let k = cut_there n s.count s.bytes stage_view c.args.stages.now c.in-Some.at x c.in-Some.ensures.some.0 c.index-stages-at.is c.requires.right c.requires.sound c.in-Some.ensures.some.1 in
    bent_made (λ (t : Then WindowStage (ReadRow PlainStage) _ _). t.first) (λ t. t.second) (λ t. t.failed) (λ (p : Path PlainStage (Option (Then WindowStage (ReadRow PlainStage) _ _))). p.before.stages) (λ p. p.behind) (λ p. p.failed)
    n s.count s.bytes (unparsed_view c.args.unparsed) (stages_view before) (stage_view x) (stages_view behind) (stages_view c.args.stages.now) c.in_ok-before.before.items c.add_plain-in-Some.new.plain c.add_plain-in-Some-2.new.plain c.window_of-window.result c.bent.result
    (cut_at stage_view c.args.stages.now c.in-Some.at x c.in-Some.ensures.some.0 c.index-stages-at.is ∙ (λ j. map stage_view (sym c.stages_before.ensures j) ++ stage_view x ∷ map stage_view (sym c.stages_behind.ensures j)))
    c.in_ok-before.ensures c.in_ok-add_plain-in-Some.ensures (c.window_of-window.ensures s.count s.bytes k.fits)
    (subst (λ (l : List PlainStage). AddsPlain n (stages_view behind) l c.add_plain-in-Some-2.new.plain.items) c.new-after.ensures.items c.in_ok-add_plain-in-Some-2.ensures) c.bent.ensures.stages c.bent.ensures.behind
