use Rattle.std.proofs.Common.{List, map, subst}
use Rattle.std.specs.List.{AllByRecursion}
use Rattle.chain_types.specs.StageView.{stages_view}
use Rattle.chain_types.specs.GroupView.{group_view}
use Rattle.chain_types.specs.declared.stage.Stage.{Stage}
use Rattle.chain_types.specs.declared.group.Group.{Group}
use Rattle.chain_run.specs.Sound.{WindowsFit, GroupFits}
use Rattle.chain_run.proofs.Needs.{windows_grow}
use Rattle.chain_run.proofs.Sounds.{chain_sound}
use Rattle.chain_run.proofs.need.need_of.Goals as goal

pub returns-clause-sound : goal.returns-clause-sound
returns-clause-sound c =
    let mid = c.with_stages-own.result in
    let new = c.with_groups.result in
    let m = c.with_groups.ensures.more in
    let chain = c.args.chain.now in
    chain_sound new.count new.bytes chain
    (windows_grow mid.count mid.bytes new.count new.bytes m.0 m.1 (stages_view chain.stages.items) (subst (λ (ss : List Stage). WindowsFit mid.count mid.bytes (stages_view ss)) c.as_slice.ensures.value c.with_stages-own.ensures.fit))
    (subst (λ (gs : List Group). AllByRecursion (GroupFits new.count new.bytes) (map group_view gs)) c.as_slice-2.ensures.value c.with_groups.ensures.fit)
