use Rattle.std.proofs.Common.{get_or, refl, ap, arith}
use Rattle.batch_ops.proofs.Treats.{so_far, stopped, passed_all}
use Rattle.read_row.proofs.row.read_in_turn.Goals as goal

pub returns-in-Err-clause-treats : goal.returns-in-Err-clause-treats
returns-in-Err-clause-treats g c =
    stopped g.S.TreatRead.kind c.args.stages.now c.loop-at.stages _ c.args.class.now c.args.packet.now.packet c.loop-at.packet.packet (record { reason = c.in-Err.reason; packet = c.treat_read.new.packet.packet }) c.loop-at.at (get_or c.loop-at.stages c.loop-at.at c.index-stages-at.result) c.treat_read.new.self c.loop-at.invariant.so_far
    (let long = c.loop-at.auto.stages in let below = c.loop-at-test.true in omega arith) (ap (get_or c.loop-at.stages c.loop-at.at) c.index-stages-at.is) refl c.in-Err.ensures.treats

pub loop-at-preserved : goal.loop-at-preserved
loop-at-preserved g c = record {
  read = c.treat_read.ensures.read;
  so_far = so_far g.S.TreatRead.kind c.args.stages.now c.loop-at.stages _ c.args.class.now c.args.packet.now.packet c.loop-at.packet.packet c.treat_read.new.packet.packet c.loop-at.at (get_or c.loop-at.stages c.loop-at.at c.index-stages-at.result) c.treat_read.new.self c.loop-at.invariant.so_far
      (let long = c.loop-at.auto.stages in let below = c.loop-at-test.true in omega arith) (ap (get_or c.loop-at.stages c.loop-at.at) c.index-stages-at.is) refl c.in-Ok.ensures.treats;
}

pub returns-clause-treats : goal.returns-clause-treats
returns-clause-treats g c =
    passed_all g.S.TreatRead.kind c.args.stages.now c.loop-at.stages c.args.class.now c.args.packet.now.packet c.loop-at.packet.packet c.loop-at.at c.loop-at.invariant.so_far
    (let long = c.loop-at.auto.stages in let within = c.loop-at.auto.at-end in let end = c.loop-at-test.false in omega arith)
