-- The one tenant of mode `gen`, which is run alone.
use Rattle.std.specs.Prelude.{◌≡◌, ◌≢◌, List, ℕ, [], ◌∷◌, map, Result, Ok, Err}
use Rattle.std.specs.Global.{Vec}
use Rattle.brick_base.specs.declared.memory.NoMemory.{NoMemory}
use Rattle.chain_spec.specs.ChainSet.{Chain}
use Rattle.run_spec.specs.Report as report
use Rattle.run_spec.specs.Seen.{Held}
use Rattle.run_spec.specs.Tenants.{TenantRan, TenantMay}
use Rattle.run_report.specs.View.{line_view}
use Rattle.run_report.specs.declared.report.Line.{Line}

-- It ran, and there is one line, which is not of a fault of reading; or memory ran out, and each of its files is
-- untouched or holds a prefix of its text.
abbrev pub OneRan : Type 0 → List ℕ → Chain → Held → Held → Result (Vec Line) NoMemory → Type 0
OneRan tells out chain before now (Ok lines) =
    (line : report.Line) × (map line_view lines.items ≡ line ∷ [])
    × TenantRan tells out before.faults 0 chain [] before now line × (line.end ≢ report.ReadFault)
OneRan tells out chain before now (Err no_memory) = tells → TenantMay out 0 chain [] before.files now.files
