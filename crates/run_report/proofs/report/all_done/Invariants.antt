use Rattle.std.proofs.Common.{◌≡◌, map, drop}
use Rattle.std.specs.List.{list_all}
use Rattle.run_spec.specs.Report.{is_done}
use Rattle.run_report.specs.View.{line_view}
use Rattle.run_report.proofs.report.all_done.Given as goal

-- the lines from here on say what all lines say
abbrev pub invariant-loop-line : goal.invariant-loop-line
invariant-loop-line l = list_all is_done (map line_view (drop l.line-index l.lines)) ≡ list_all is_done (map line_view l.lines)
