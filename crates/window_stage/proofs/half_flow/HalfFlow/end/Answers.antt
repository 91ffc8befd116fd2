use Rattle.std.proofs.Common.{◌∙◌, ap, sym, refl, Option, append-nil}
use Rattle.std.specs.Prelude.{flat_map}
use Rattle.std.specs.Option.{option_to_list}
use Rattle.brick_spec.specs.PacketizedWindow.{Template}
use Rattle.brick_base.specs.Flow.{dir_view}
use Rattle.packetize.specs.View.{template_view}
use Rattle.flow_spec.specs.FlowStream.{stream_of, segments_of}
use Rattle.flow_spec.specs.Window.{rest_of}
use Rattle.window_stage.specs.HalfFlow.{last_view}
use Rattle.window_stage.proofs.Emitting.{emitted_none, emitted_as}
use Rattle.window_stage.proofs.half_flow.HalfFlow.end.Goals as goal

pub returns-in_default : goal.returns-in_default
returns-in_default c =
    let w = c.args.self.now in
    emitted_none 1 c.args.key.1 _ c.args.out.now (λ items fits.
    ap (λ (o : Option Template). flat_map (rest_of w.size (stream_of w.stream.reach (dir_view c.args.dir) items) (dir_view c.args.dir) c.args.key.0 c.args.key.1) (option_to_list o))
    (sym (ap last_view c.in_default.is) ∙ fits.last))

pub returns-in-Some : goal.returns-in-Some
returns-in-Some c =
    let w = c.args.self.now in
    let d = dir_view c.args.dir in
    emitted_as 1 1 c.args.key.1 _ _ c.args.out.now c.emit_rest.new.out refl (λ xs p items fits.
    let r = stream_of w.stream.reach d items in
    p (segments_of d items) fits.stream
    ∙ (sym (append-nil (rest_of w.size r d c.args.key.0 c.args.key.1 (template_view c.in-Some.template)))
    ∙ ap (λ (o : Option Template). flat_map (rest_of w.size r d c.args.key.0 c.args.key.1) (option_to_list o)) (sym (ap last_view c.in-Some.is) ∙ fits.last))) c.emit_rest.ensures
