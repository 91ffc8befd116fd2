use Rattle.std.proofs.Common.{◌≡◌, false}
use Rattle.brick_spec.specs.Capture.{written_text}
use Rattle.run_spec.specs.Generated.{generated_entries}
use Rattle.capture_gen.proofs.Steps.{IsAt}
use Rattle.capture_gen.proofs.capture.generate.Given as goal

abbrev pub invariant-loop-k : goal.invariant-loop-k
invariant-loop-k l = record {
  text : l.writer ≡ written_text false (generated_entries l.number l.k);
  at : IsAt l.number l.k l.sequence.number l.sequence.tcp_counts;
  room : l.buffer.room ≡ 154;
}
