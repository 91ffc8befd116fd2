use Rattle.std.proofs.Common.{ap, sym, ◌∙◌, ◌≡◌, ◌+◌, ◌-◌, suc, ◌++◌, ℕ, List, arith}
use Rattle.brick_spec.specs.FlowStage.{FlowItem}
use Rattle.brick_spec.specs.Stream.{StreamSegment, reassembly}
use Rattle.brick_base.specs.Flow.{dir_view}
use Rattle.packetize.specs.View.{template_view}
use Rattle.window_stream.specs.StreamModel.{StandsFor}
use Rattle.flow_spec.specs.Window.{windows_from}
use Rattle.window_stage.proofs.Emitting.{emitted_none, emitted_more, emitted_as, emitted_room, windows_more}
use Rattle.window_stage.proofs.emission.emit_windows.Goals as goal

pub each-init : goal.each-init
each-init c =
    let none : 0 ≡ c.args.from - c.args.from = omega arith in
    record {
      key = none;
      done = emitted_none (c.args.from - c.args.from) 1 _ c.args.out.now (λ segments h.
          ap (λ (n : ℕ). windows_from c.args.size (reassembly c.args.stream.now.reach segments) (dir_view c.args.dir) (template_view c.args.template.now) c.args.a 1 c.args.from n) none);
    }

pub emit_window-requires-clause-room : goal.emit_window-requires-clause-room
emit_window-requires-clause-room c =
    let room = emitted_room _ _ _ c.args.out.now c.each.out c.each.invariant.done in
    omega arith

pub emit_window-requires-clause-spare : goal.emit_window-requires-clause-spare
emit_window-requires-clause-spare c =
    let room = emitted_room _ _ _ c.args.out.now c.each.out c.each.invariant.done in
    omega arith

pub each-preserved : goal.each-preserved
each-preserved c =
    let key = c.each.invariant.key in
    let windows = λ (segments : List StreamSegment) (n : ℕ). windows_from c.args.size (reassembly c.args.stream.now.reach segments) (dir_view c.args.dir) (template_view c.args.template.now) c.args.a 1 c.args.from n in
    record {
      key = omega arith;
      done = emitted_as ((c.each.window - c.args.from) + 1) (c.each.window + 1 - c.args.from) 1
          (λ (xs : List FlowItem). (segments : List StreamSegment) → StandsFor c.args.stream.now segments → xs ≡ windows segments (suc (c.each.window - c.args.from))) _ c.args.out.now c.emit_window.new.out (omega arith)
          (λ xs p segments h. p segments h ∙ (let e : suc (c.each.window - c.args.from) ≡ c.each.window + 1 - c.args.from = omega arith in ap (windows segments) e))
          (emitted_more (c.each.window - c.args.from) 1 1 _ _ _ _ c.args.out.now c.each.out c.emit_window.new.out (omega arith) c.each.invariant.done c.emit_window.ensures (λ xs ys p q segments h.
          (λ i. p segments h i ++ q segments h i)
          ∙ sym (windows_more c.args.size (reassembly c.args.stream.now.reach segments) (dir_view c.args.dir) (template_view c.args.template.now) c.args.a (c.each.window - c.args.from) 1 c.args.from (c.each.key + 1) c.each.window (omega arith) (omega arith))));
    }

pub returns : goal.returns
returns c =
    let same : c.each.window - c.args.from ≡ c.args.to - c.args.from = let e = c.each-test.false in let k = c.requires.order in omega arith in
    emitted_as (c.each.window - c.args.from) (c.args.to - c.args.from) 1 _ _ c.args.out.now c.each.out same (λ xs p segments h.
    p segments h ∙ ap (λ (n : ℕ). windows_from c.args.size (reassembly c.args.stream.now.reach segments) (dir_view c.args.dir) (template_view c.args.template.now) c.args.a 1 c.args.from n) same) c.each.invariant.done
