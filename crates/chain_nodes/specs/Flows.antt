-- The flows of which packets came.
use Rattle.std.specs.Prelude.{ℕ, ◌≡◌, List, map, nat_eq, false}
use Rattle.std.specs.List.{list_any, slice_index_or}
use Rattle.brick_spec.specs.Flow.{Flow}
use Rattle.brick_base.specs.Flow.{flow_of}
use Rattle.chain_nodes.specs.declared.flows.Flows.{Flows}

abbrev pub flows_in : Flows → List Flow
flows_in f = map flow_of f.list.items

-- noted are the numbers of the list
abbrev pub AreSeen : Flows → Type 0
AreSeen f = (q : ℕ) → slice_index_or f.seen.items q false ≡ list_any (λ (g : Flow). nat_eq q g.number) (flows_in f)
