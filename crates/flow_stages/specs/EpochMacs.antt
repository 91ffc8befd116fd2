-- The Ethernet addresses of backends, epoch by epoch.
use Rattle.std.specs.Prelude.{ℕ, ◌≡◌, ◌<◌, List, [], map, length, Some}
use Rattle.std.specs.List.{slice_get, slice_index_or}
use Rattle.std.specs.Global.{Vec}
use Rattle.brick_spec.specs.Balance.{backend_in}
use Rattle.brick_spec.specs.Flow.{Flow}
use Rattle.brick_spec.specs.FlowStage.{FlowStage, alone}
use Rattle.flow_spec.specs.Balancing.{balanced, epoch_of}
use Rattle.lb_maglev.specs.EpochTables.{EpochTables}

-- the addresses of an epoch's backends
abbrev pub macs_at : List (Vec (List ℕ)) → ℕ → List (List ℕ)
macs_at macs e = slice_index_or (map (λ (v : Vec (List ℕ)). v.items) macs) e []

-- the address of the backend that the table of an epoch has for a flow's hash
abbrev pub mac_in : EpochTables → List (Vec (List ℕ)) → ℕ → ℕ → List ℕ
mac_in epochs macs e hash = slice_index_or (macs_at macs e) (backend_in (slice_index_or epochs.tables e []) hash) []

-- the same of the epoch in which the flow was opened
abbrev pub flow_mac : EpochTables → List (Vec (List ℕ)) → ℕ → ℕ → List ℕ
flow_mac epochs macs opened hash = mac_in epochs macs (epoch_of epochs.begins opened) hash

-- each epoch has a list of addresses, and each of its backends an address
pub record HasMacs (epochs : EpochTables) (macs : List (Vec (List ℕ))) : Type 0 where
  pub each : length macs ≡ length epochs.begins
  pub backends : (e hash : ℕ) (row : Vec (List ℕ)) → slice_get macs e ≡ Some row
      → backend_in (slice_index_or epochs.tables e []) hash < length row.items

-- the stage of these tables and addresses
abbrev pub balance_by : EpochTables → List (Vec (List ℕ)) → Flow → FlowStage
balance_by epochs macs flow = alone (balanced (flow_mac epochs macs flow.opened flow.hash))
