use Rattle.std.proofs.Common.{refl}
use Rattle.std.specs.Str.{is_utf8, chars}
use Rattle.std.specs.Char.{encode_utf8}
use Rattle.toml.proofs.OnLiterals.{toml_on_literals}
use Rattle.chain_spec.specs.ChainText.{number_of, address_of_four, any_prefix_of_two, any_prefix_of}
use Rattle.chain_spec.specs.ChainSet.{chain_of}
use Rattle.chain_spec.specs.Fields.{known, required, text_in, table_in, number_in, written_in, prefix_at, bytes_in, name_in, array_in, each_after}
use Rattle.chain_spec.specs.StageWalk.{match_in, rule_values, rule_at, rules_at, route_values, route_at, routes_in, backend_values, backend_at, backends_in, epoch_values, epoch_at, epochs_at, set_tos_values, only_values, firewall_values, route_stage_values, balance_values, window_values, scan_values, stage_values, stage_at, stages_at}
use Rattle.chain_spec.specs.ChainWalk.{any_name_in, leaf_values, leaf_at, leaves_in, group_values, group_at, groups_in, nat_values, nat_at, capture_in, settings_in, tenant_row, tenant_name, tenant_capture, tenant_stages, tenant_groups, fits, tenant_values, tenant_at, tenants_in, top, apart, document, tree, read_chains}
use Rattle.chain_file.proofs.laws.samples.Goals as goal

pub returns : goal.returns
unfolding toml_on_literals is_utf8 chars encode_utf8 number_of address_of_four any_prefix_of_two any_prefix_of chain_of known required text_in table_in number_in written_in prefix_at bytes_in name_in array_in each_after match_in rule_values rule_at rules_at route_values route_at routes_in backend_values backend_at backends_in epoch_values epoch_at epochs_at set_tos_values only_values firewall_values route_stage_values balance_values window_values scan_values stage_values stage_at stages_at any_name_in leaf_values leaf_at leaves_in group_values group_at groups_in nat_values nat_at capture_in settings_in tenant_row tenant_name tenant_capture tenant_stages tenant_groups fits tenant_values tenant_at tenants_in top apart document tree read_chains
returns c = record {
  accepted = refl;
  defaults = refl;
  empty = refl;
  version = refl;
  further_key = refl;
  least_key = refl;
  cut_off = refl;
  no_text = refl;
  cut_character = refl;
  key_twice = refl;
  bytes = refl;
  collides = refl;
  date = refl;
  float = refl;
  nested = refl;
  no_name = refl;
  long_name = refl;
  leading_zero = refl;
  zero_bits = refl;
  host_bit = refl;
  many_bits = refl;
  large_part = refl;
  other_stage = refl;
  many_tenants = refl;
  no_tenant = refl;
  no_table = refl;
  no_group = refl;
  two_groups = refl;
  same_group = refl;
  group_key = refl;
  group_into = refl;
  translation = refl;
  no_plan = refl;
  two_windows = refl;
  window_behind = refl;
  inner_group = refl;
  same_prefix = refl;
  host_bits = refl;
  same_backend = refl;
}
