use Rattle.std.proofs.Common.{arith, lit≤}
use Rattle.window_stage.proofs.Emitting.{emitted_more, emitted_room}
use Rattle.window_stage.proofs.Halves.{rests_join}
use Rattle.window_stage.proofs.flow_halves.FlowHalves.end.Goals as goal

pub end-requires-2-clause-room : goal.end-requires-2-clause-room
end-requires-2-clause-room c =
    let had = c.requires.room in
    let room = emitted_room 1 0 _ c.args.out.now c.end.new.out c.end.ensures in
    omega arith

pub end-requires-2-clause-spare : goal.end-requires-2-clause-spare
end-requires-2-clause-spare c =
    let had = c.requires.spare in
    let room = emitted_room 1 0 _ c.args.out.now c.end.new.out c.end.ensures in
    omega arith

pub end-requires-2-clause-long : goal.end-requires-2-clause-long
end-requires-2-clause-long c =
    let had = c.requires.long in
    let same = c.args.self.now.same in
    let room = emitted_room 1 0 _ c.args.out.now c.end.new.out c.end.ensures in
    omega arith

pub returns : goal.returns
returns c =
    emitted_more 1 1 0 1 _ _ _ c.args.out.now c.end.new.out c.end-2.new.out (lit≤ tt) c.end.ensures c.end-2.ensures (λ xs ys p q. rests_join c.args.self.now c.args.a xs ys p q)
