use Rattle.std.proofs.Common.{◌+◌, refl, arith}
use Rattle.brick_base.specs.Flow.{flow_of}
use Rattle.batch_ops.proofs.ThenCalls.{failed_ends}
use Rattle.window_stage.specs.StageMeaning.{window_meaning}
use Rattle.window_stage.proofs.Emitting.{emitted_as}
use Rattle.window_stage.proofs.Staging.{two_at_least, RestsOf, rests_are, stage_ends}
use Rattle.window_stage.proofs.stage.WindowStageOperator.end.Goals as goal

pub end-requires-clause-room : goal.end-requires-clause-room
end-requires-clause-room c =
    let s = c.args.self.now in
    let two = two_at_least s.size s.reach s.windows s.within in
    let had = c.requires.room.0 in
    omega arith

pub end-requires-clause-spare : goal.end-requires-clause-spare
end-requires-clause-spare c =
    let s = c.args.self.now in
    let two = two_at_least s.size s.reach s.windows s.within in
    let had = c.requires.spare in
    omega arith

pub returns-then-self : goal.returns-then-self
returns-then-self c = failed_ends window_meaning c.args.self.now c.args.class.now c.args.records c.args.out.now c.requires.ready c.if-self.true

pub returns : goal.returns
returns c =
    let s = c.args.self.now in
    let flow = flow_of c.args.class.now in
    stage_ends s c.args.class.now c.args.records c.args.out.now c.end.new.out c.if-self.false
    (emitted_as 2 2 0 _ (RestsOf s flow c.args.records) c.args.out.now c.end.new.out refl
    (λ xs p. rests_are s flow c.args.records (c.from.result + c.from-2.result) (λ i. c.from.ensures i + c.from-2.ensures i) xs p) c.end.ensures)
