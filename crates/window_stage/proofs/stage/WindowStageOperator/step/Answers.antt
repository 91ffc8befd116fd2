use Rattle.std.proofs.Common.{◌≡◌, ◌∙◌, ◌/◌, ◌+◌, ℕ, List, refl, sym, ap, subst, [], ◌∷◌, None, arith}
use Rattle.brick_spec.specs.Layer.{tcp_layer}
use Rattle.brick_base.specs.Flow.{flow_of}
use Rattle.packet_owner.proofs.Raw.{raw_payload}
use Rattle.batch_ops.specs.Operator.{work_item}
use Rattle.batch_ops.specs.Outlet.{keyed}
use Rattle.batch_ops.proofs.ThenCalls.{failed_steps}
use Rattle.window_stage.specs.Fields.{HasFields}
use Rattle.window_stage.specs.StageMeaning.{window_meaning}
use Rattle.window_stage.specs.Emission.{only_passed}
use Rattle.window_stage.proofs.Stepping.{moves_own, moves_as}
use Rattle.window_stage.proofs.Staging.{stage_steps, stage_loses, without_goes, flows_go, flows_others}
use Rattle.window_stage.proofs.stage.WindowStageOperator.step.Goals as goal

abbrev same_most : (r s r' s' : ℕ) → r ≡ r' → s ≡ s' → r / s + 1 ≡ r' / s' + 1
same_most r s r' s' e f = λ i. e i / f i + 1

pub returns-then-self : goal.returns-then-self
returns-then-self c = failed_steps window_meaning c.args.self.now c.args.class.now c.args.p c.args.out.now c.lose.new.self c.requires.ready c.if-self.true c.lose.ensures.grows c.lose.ensures.spare

pub returns-in_default : goal.returns-in_default
returns-in_default c =
    let s = c.args.self.now in
    let class = c.args.class.now in
    let p = c.args.p in
    let without : tcp_layer p.frame ≡ None = ap tcp_layer (sym (c.payload.ensures.value ∙ raw_payload p c.payload.ensures.layers)) ∙ c.in_default.ensures in
    stage_steps s s class p c.args.out.now c.pass.new.self (only_passed (record { dir = class.dir; packet = p } ∷ [])) refl refl c.if-self.false
    (moves_own (window_meaning.spares s) p c.args.out.now c.pass.new.self _ refl c.pass.ensures.grows c.pass.ensures.spare) (λ _. tt) (λ other came left differs was. was)
    (without_goes s.size s.reach s.flows (flow_of class) (work_item class p) without) refl c.if-self.false

pub step-requires-clause-fields : goal.step-requires-clause-fields
step-requires-clause-fields c =
    subst (λ (frame : List ℕ). HasFields frame c.in-Some.fields) (c.payload.ensures.value ∙ raw_payload c.args.p c.payload.ensures.layers) c.in-Some.ensures

pub returns-in-Ok : goal.returns-in-Ok
returns-in-Ok c =
    let s = c.args.self.now in
    let class = c.args.class.now in
    let p = c.args.p in
    let steps = c.in-Ok.ensures in
    stage_steps s _ class p c.args.out.now c.step.new.out steps.added refl refl c.if-self.false
    (moves_as (keyed p ∷ []) _ (s.reach / s.size + 1) c.args.out.now c.step.new.out steps.added (let e = same_most s.flows.reach s.flows.size s.reach s.size s.same.1 s.same.0 in omega arith) steps.moves) steps.apart
    (flows_others s.size s.reach s.flows c.step.new.self (flow_of class) steps.others steps.same.1)
    (flows_go class p s.flows c.step.new.self c.args.out.now c.step.new.out s.size s.reach s.same steps) steps.none_lost c.if-self.false

pub returns-in-Err : goal.returns-in-Err
returns-in-Err c =
    let s = c.args.self.now in
    let class = c.args.class.now in
    let p = c.args.p in
    let steps = c.in-Err.ensures in
    stage_loses s _ class p c.args.out.now c.step.new.out steps.added refl refl c.if-self.false
    (moves_as (keyed p ∷ []) _ (s.reach / s.size + 1) c.args.out.now c.step.new.out steps.added (let e = same_most s.flows.reach s.flows.size s.reach s.size s.same.1 s.same.0 in omega arith) steps.moves) steps.apart
    (flows_others s.size s.reach s.flows c.step.new.self (flow_of class) steps.others steps.same.1) _ steps.lost refl
