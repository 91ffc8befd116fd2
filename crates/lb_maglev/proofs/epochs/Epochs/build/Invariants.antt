-- the tables of the epochs so far
use Rattle.std.proofs.Common.{◌≡◌, map, take}
use Rattle.lb_maglev.specs.EpochTables.{table_of_epoch}
use Rattle.lb_maglev.proofs.epochs.Epochs.build.Given as goal

abbrev pub invariant-loop-k : goal.invariant-loop-k
invariant-loop-k l = l.tables.items ≡ map table_of_epoch (take l.k l.rows.items)
