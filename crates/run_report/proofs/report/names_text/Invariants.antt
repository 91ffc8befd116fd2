use Rattle.std.proofs.Common.{◌≡◌, ◌++◌, flat_map, drop, string_bytes}
use Rattle.run_spec.specs.Report.{ok_text}
use Rattle.run_report.proofs.report.names_text.Given as goal

-- the text so far and the names from here on make the whole
abbrev pub invariant-loop-name : goal.invariant-loop-name
invariant-loop-name l = string_bytes l.text ++ flat_map ok_text (drop l.name-index l.names) ≡ flat_map ok_text l.names
