-- A turn more.
use Rattle.std.proofs.Common.{arith, ap, ◌∙◌, length, ◌<◌, ◌%◌}
use Rattle.lb_maglev.proofs.TurnLemmas.{length-turns}
use Rattle.lb_maglev.proofs.WalkLemmas.{walks_turn, walks_step}
use Rattle.lb_maglev.proofs.turns.take_turns.Goals as goal

pub take_turn-requires-clause-long : goal.take_turn-requires-clause-long
take_turn-requires-clause-long c = ap length c.loop-k.invariant.places ∙ length-turns c.args.names.now c.loop-k.k

pub take_turn-requires-clause-passed : goal.take_turn-requires-clause-passed
take_turn-requires-clause-passed c =
    let within : c.loop-k.k % length c.args.names.now < length c.loop-k.walks = omega arith in
    (c.loop-k.invariant.walks (c.loop-k.k % length c.args.names.now) c.index-walks-backend.result within).passed

pub loop-k-preserved : goal.loop-k-preserved
loop-k-preserved c =
    let within : c.loop-k.k % length c.args.names.now < length c.loop-k.walks = omega arith in
    record {
      places = walks_turn c.args.names.now c.loop-k.walks c.loop-k.k c.loop-k.places c.take_turn.new.places c.index-walks-backend.result
          c.loop-k.invariant.places c.loop-k.invariant.walks within c.take_turn.ensures.taken;
      walks = walks_step c.loop-k.places c.take_turn.new.places c.args.names.now c.loop-k.walks _ (c.loop-k.k % length c.args.names.now) c.index-walks-backend.result c.take_turn.new.self
          c.loop-k.invariant.walks within c.take_turn.ensures.taken c.take_turn.ensures.offset c.take_turn.ensures.skip c.take_turn.ensures.passed;
    }
