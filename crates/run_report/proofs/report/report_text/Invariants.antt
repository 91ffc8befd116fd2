use Rattle.std.proofs.Common.{◌≡◌, ◌++◌, flat_map, map, drop, string_bytes}
use Rattle.run_spec.specs.Report.{line_text}
use Rattle.run_report.specs.View.{line_view}
use Rattle.run_report.proofs.report.report_text.Given as goal

-- the text so far and the lines from here on make the whole
abbrev pub invariant-loop-line : goal.invariant-loop-line
invariant-loop-line l = string_bytes l.text ++ flat_map line_text (map line_view (drop l.line-index l.lines)) ≡ flat_map line_text (map line_view l.lines)
