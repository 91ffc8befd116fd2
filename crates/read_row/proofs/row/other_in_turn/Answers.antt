use Rattle.std.proofs.Common.{get_or, refl, ap, arith}
use Rattle.batch_ops.proofs.Treats.{so_far, stopped, passed_all}
use Rattle.read_row.proofs.row.other_in_turn.Goals as goal

pub loop-at-init : goal.loop-at-init
loop-at-init g c = (refl, refl, λ rest r h. h)

pub returns-in-Err : goal.returns-in-Err
returns-in-Err g c =
    stopped g.S.TreatRead.kind c.args.stages.now c.loop-at.stages _ c.args.class.now c.args.packet.now c.args.packet.now (record { reason = c.in-Err.reason; packet = c.args.packet.now }) c.loop-at.at (get_or c.loop-at.stages c.loop-at.at c.index-stages-at.result) c.treat_other.new.self c.loop-at.invariant
    (let long = c.loop-at.auto.stages in let below = c.loop-at-test.true in omega arith) (ap (get_or c.loop-at.stages c.loop-at.at) c.index-stages-at.is) refl c.in-Err.ensures

pub loop-at-preserved : goal.loop-at-preserved
loop-at-preserved g c =
    so_far g.S.TreatRead.kind c.args.stages.now c.loop-at.stages _ c.args.class.now c.args.packet.now c.args.packet.now c.args.packet.now c.loop-at.at (get_or c.loop-at.stages c.loop-at.at c.index-stages-at.result) c.treat_other.new.self c.loop-at.invariant
    (let long = c.loop-at.auto.stages in let below = c.loop-at-test.true in omega arith) (ap (get_or c.loop-at.stages c.loop-at.at) c.index-stages-at.is) refl c.in-Ok.ensures

pub returns : goal.returns
returns g c =
    passed_all g.S.TreatRead.kind c.args.stages.now c.loop-at.stages c.args.class.now c.args.packet.now c.args.packet.now c.loop-at.at c.loop-at.invariant
    (let long = c.loop-at.auto.stages in let within = c.loop-at.auto.at-end in let end = c.loop-at-test.false in omega arith)
