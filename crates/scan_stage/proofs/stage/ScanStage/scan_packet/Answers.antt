use Rattle.std.proofs.Common.{refl, sym, ap, ◌∙◌}
use Rattle.window_stream.specs.Answers.{segment_of}
use Rattle.brick_spec.specs.Layer.{tcp_layer}
use Rattle.scan_stage.proofs.Treating.{no_segment, segment_is, treats_other, treats_segment, treats_lost}
use Rattle.scan_stage.proofs.stage.ScanStage.scan_packet.Goals as goal

pub returns-in_default : goal.returns-in_default
returns-in_default g c =
    treats_other c.args.self.now c.args.class.now c.args.packet.now (sym (ap tcp_layer c.frame.ensures) ∙ no_segment c.frame.result.now c.segment_in.result c.segment_in.ensures c.in_default.not-Some) c.if-self.false

pub returns-then-found : goal.returns-then-found
returns-then-found g c =
    treats_segment c.args.self.now c.take.new.self c.args.class.now c.args.packet.now c.in-Ok.ensures.others c.in-Ok.ensures.same.0 c.in-Ok.ensures.same.1 (segment_of c.in-Some.segment) c.in-Ok.found _
    (segment_is c.args.packet.now c.frame.result.now c.in-Some.segment c.frame.ensures c.in-Some.ensures) c.in-Ok.ensures.ok c.in-Ok.ensures.same.2 c.if-self.false refl refl (rw c.if-found.true refl)

pub returns-else-found : goal.returns-else-found
returns-else-found g c =
    treats_segment c.args.self.now c.take.new.self c.args.class.now c.args.packet.now c.in-Ok.ensures.others c.in-Ok.ensures.same.0 c.in-Ok.ensures.same.1 (segment_of c.in-Some.segment) c.in-Ok.found _
    (segment_is c.args.packet.now c.frame.result.now c.in-Some.segment c.frame.ensures c.in-Some.ensures) c.in-Ok.ensures.ok c.in-Ok.ensures.same.2 c.if-self.false refl refl (rw c.if-found.false refl)

pub returns-in-Err : goal.returns-in-Err
returns-in-Err g c = treats_lost c.args.self.now _ c.args.class.now c.args.packet.now c.in-Err.ensures.others c.in-Err.ensures.same.0 c.in-Err.ensures.same.1 refl
