use Rattle.std.proofs.Common.{◌≡◌, ◌++◌, flat_map, map, drop, string_bytes}
use Rattle.run_spec.specs.Report.{output_count_text}
use Rattle.run_report.specs.View.{output_view}
use Rattle.run_report.proofs.report.push_outputs.Given as goal

-- what is there and the outputs from here on make the whole
abbrev pub invariant-loop-output : goal.invariant-loop-output
invariant-loop-output l =
    string_bytes l.text ++ flat_map output_count_text (map output_view (drop l.output-index l.outputs)) ≡ string_bytes l.initial.text ++ flat_map output_count_text (map output_view l.outputs)
