use Rattle.std.proofs.Common.{◌∙◌, ◌*◌, ◌%◌, ◌-◌, ℕ, ap, sym, refl}
use Rattle.std.proofs.Math.Nat.{mul-mod_left}
use Rattle.std.proofs.lemmas.Option.{same_Some}
use Rattle.brick_spec.specs.Stream.{reassembly}
use Rattle.brick_base.specs.Flow.{dir_view}
use Rattle.packetize.specs.View.{template_view}
use Rattle.packetize.specs.declared.templates.Template.{Template}
use Rattle.flow_spec.specs.Window.{windows_from}
use Rattle.window_stage.proofs.Emitting.{emitted_as}
use Rattle.window_stage.proofs.half_flow.pass_windows.Goals as goal

pub drop_before-requires-clause-multiple : goal.drop_before-requires-clause-multiple
drop_before-requires-clause-multiple c =
    ap (λ (n : ℕ). (c.args.to * c.from.result) % n) (sym c.requires.size ∙ sym c.from.ensures) ∙ mul-mod_left c.args.to c.from.result

pub returns-clause-passed : goal.returns-clause-passed
returns-clause-passed c = λ m is.
    let same = same_Some c.in-Some.template m (sym c.in-Some.is ∙ is) in
    let n = c.args.to - c.args.from in
    emitted_as n n 1 _ _ c.args.out.now c.emit_windows.new.out refl (λ xs p segments h.
    p segments h ∙ ap (λ (t : Template). windows_from c.args.size (reassembly c.args.stream.now.reach segments) (dir_view c.args.dir) (template_view t) c.args.a 1 c.args.from n) same) c.emit_windows.ensures
