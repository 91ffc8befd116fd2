use Rattle.std.proofs.Common.{◌≡◌, [], drop, map, vec_len}
use Rattle.std.specs.Prelude.{IsTrue}
use Rattle.toml.specs.View.{items_view}
use Rattle.chain_spec.specs.ChainSet.{are_distinct}
use Rattle.chain_spec.specs.Fields.{each_after}
use Rattle.chain_spec.specs.ChainWalk.{tenant_at}
use Rattle.chain_types.specs.View.{chain_view}
use Rattle.chain_file.specs.View.{chain_names}
use Rattle.chain_file.proofs.tenants.tenants.Given as goal

abbrev pub invariant-loop-value : goal.invariant-loop-value
invariant-loop-value l = record {
  all : each_after (tenant_at l.version) (map chain_view l.chains.items) (items_view (drop l.value-index l.value-items)) ≡ each_after (tenant_at l.version) [] (items_view l.value-items);
  count : vec_len l.chains ≡ l.value-index;
  distinct : IsTrue (are_distinct (chain_names l.chains.items));
}
