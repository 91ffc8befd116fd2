use Rattle.std.proofs.Common.{◌≡◌, length}
use Rattle.work_crew.specs.Rows.{Each, HasPlaces}
use Rattle.work_crew.proofs.row.empty_rows.Given as goal

-- so many rows are there
abbrev pub invariant-each : goal.invariant-each
invariant-each g l = record {
  count : length l.list.items ≡ l.done;
  empty : Each (HasPlaces 0 l.places) l.list.items;
}
