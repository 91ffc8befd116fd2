-- What a contract sees of balance tables that change from a record on.
use Rattle.std.specs.Prelude.{ℕ, List, map, length, ◌≡◌, ◌<◌, ◌≤◌, Some}
use Rattle.std.specs.List.{slice_get}
use Rattle.brick_spec.specs.Balance.{balance_table}
use Rattle.lb_maglev.specs.declared.epochs.Epoch.{Epoch}

-- where each epoch begins, and its table
pub record EpochTables : Type 0 where
  pub begins : List ℕ
  pub tables : List (List ℕ)

abbrev pub table_of_epoch : Epoch → List ℕ
table_of_epoch e = balance_table e.names.items

abbrev pub epoch_tables : List Epoch → EpochTables
epoch_tables rows = record { begins = map (λ (e : Epoch). e.from) rows; tables = map table_of_epoch rows }

-- each epoch has 1 to 64 names
pub record IsNamed (e : Epoch) : Type 0 where
  pub some : 0 < length e.names.items
  pub few : length e.names.items ≤ 64

abbrev pub AreNamed : List Epoch → Type 0
AreNamed rows = (k : ℕ) (e : Epoch) → slice_get rows k ≡ Some e → IsNamed e

-- there are 1 to 16, each with a table
pub record AreEpochTables (e : EpochTables) : Type 0 where
  pub some : 1 ≤ length e.begins
  pub few : length e.begins ≤ 16
  pub each : length e.tables ≡ length e.begins
