use Rattle.std.proofs.Common.{◌≡◌, ◌-◌, List}
use Rattle.brick_spec.specs.FlowStage.{FlowItem}
use Rattle.brick_spec.specs.Stream.{StreamSegment, reassembly}
use Rattle.brick_base.specs.Flow.{dir_view}
use Rattle.packetize.specs.View.{template_view}
use Rattle.window_stream.specs.StreamModel.{StandsFor}
use Rattle.flow_spec.specs.Window.{windows_from}
use Rattle.window_stage.specs.Emission.{Emitted}
use Rattle.window_stage.proofs.emission.emit_windows.Given as goal

-- the windows so far were passed
abbrev pub invariant-each : goal.invariant-each
invariant-each l = record {
  key : l.key ≡ l.window - l.fn.from;
  done : Emitted (l.window - l.fn.from) 1 (λ (xs : List FlowItem). (segments : List StreamSegment) → StandsFor l.fn.stream segments →
      ◌≡◌ {A = List FlowItem} xs (windows_from l.fn.size (reassembly l.fn.stream.reach segments) (dir_view l.fn.dir) (template_view l.fn.template) l.fn.a 1 l.fn.from (l.window - l.fn.from))) l.fn.out l.out;
}
