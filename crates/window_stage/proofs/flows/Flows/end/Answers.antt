use Rattle.std.proofs.Common.{sym, refl, ap, ◌∙◌, ◌++◌, Option, List, subst}
use Rattle.std.specs.Prelude.{flat_map}
use Rattle.std.specs.Option.{option_to_list}
use Rattle.std.specs.Global.{Box}
use Rattle.brick_spec.specs.Flow.{Forward, Reversed}
use Rattle.flow_spec.specs.FlowStream.{stream_of}
use Rattle.flow_spec.specs.Window.{rest_of}
use Rattle.window_stage.specs.FlowHalves.{rests_in}
use Rattle.window_stage.specs.Flows.{FitsAt}
use Rattle.window_stage.specs.Kept.{kept_at}
use Rattle.window_stage.specs.declared.flow_halves.FlowHalves.{FlowHalves}
use Rattle.window_stage.proofs.Emitting.{emitted_none, emitted_as}
use Rattle.window_stage.proofs.flows.Flows.end.Goals as goal

pub returns-in_default : goal.returns-in_default
returns-in_default c =
    let fs = c.args.self.now in
    emitted_none 2 0 _ c.args.out.now (λ items fits.
    let none = subst (λ (o : Option FlowHalves). FitsAt fs.reach o items) (sym (ap (λ (kept : List (Option (Box FlowHalves))). kept_at kept c.args.flow) c.deref.ensures.value) ∙ c.in_default.ensures) fits in
    λ i. flat_map (rest_of fs.size (stream_of fs.reach Forward items) Forward c.args.a 0) (option_to_list (sym none.0.1 i))
    ++ flat_map (rest_of fs.size (stream_of fs.reach Reversed items) Reversed c.args.a 1) (option_to_list (sym none.1.1 i)))

pub returns-in-Some : goal.returns-in-Some
returns-in-Some c =
    let fs = c.args.self.now in
    let h = c.in-Some.halves.now in
    let there = sym (ap (λ (kept : List (Option (Box FlowHalves))). kept_at kept c.args.flow) c.deref.ensures.value) ∙ c.in-Some.ensures in
    let k = fs.kinds c.args.flow h there in
    emitted_as 2 2 0 _ _ c.args.out.now c.end.new.out refl (λ xs p items fits.
    p items (subst (λ (o : Option FlowHalves). FitsAt fs.reach o items) there fits)
    ∙ (λ i. rests_in (k.0 i) (k.1 i) c.args.a items)) c.end.ensures
