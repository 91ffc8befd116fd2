use Rattle.std.proofs.Common.{refl}
use Rattle.std.specs.Str.{is_utf8, chars}
use Rattle.std.specs.Char.{encode_utf8}
use Rattle.toml.proofs.OnLiterals.{toml_on_literals}
use Rattle.chain_spec.specs.ChainText.{number_of, address_of_four, any_prefix_of_two, any_prefix_of}
use Rattle.chain_spec.specs.ChainSet.{chain_of}
use Rattle.chain_spec.specs.Fields.{known, required, text_in, table_in, number_in, written_in, prefix_at, bytes_in, name_in, array_in, each_after}
use Rattle.chain_spec.specs.StageWalk.{match_in, rule_values, rule_at, rules_at, route_values, route_at, routes_in, backend_values, backend_at, backends_in, epoch_values, epoch_at, epochs_at, set_tos_values, only_values, firewall_values, route_stage_values, balance_values, window_values, scan_values, stage_values, stage_at, stages_at}
use Rattle.chain_spec.specs.ChainWalk.{any_name_in, leaf_values, leaf_at, leaves_in, group_values, group_at, groups_in, nat_values, nat_at, capture_in, settings_in, tenant_row, tenant_name, tenant_capture, tenant_stages, tenant_groups, fits, tenant_values, tenant_at, tenants_in, top, apart, document, tree, read_chains}
use Rattle.chain_file.proofs.laws.ends.Goals as goal

pub returns : goal.returns
unfolding toml_on_literals is_utf8 chars encode_utf8 number_of address_of_four any_prefix_of_two any_prefix_of chain_of known required text_in table_in number_in written_in prefix_at bytes_in name_in array_in each_after match_in rule_values rule_at rules_at route_values route_at routes_in backend_values backend_at backends_in epoch_values epoch_at epochs_at set_tos_values only_values firewall_values route_stage_values balance_values window_values scan_values stage_values stage_at stages_at any_name_in leaf_values leaf_at leaves_in group_values group_at groups_in nat_values nat_at capture_in settings_in tenant_row tenant_name tenant_capture tenant_stages tenant_groups fits tenant_values tenant_at tenants_in top apart document tree read_chains
returns c = record {
  name_of_32 = refl;
  group_of_33 = refl;
  group_of_0 = refl;
  capital = refl;
  capture_of_255 = refl;
  capture_of_256 = refl;
  capture_of_0 = refl;
  buffers_0 = refl;
  buffers_1 = refl;
  buffers_1024 = refl;
  buffers_1025 = refl;
  bytes_64 = refl;
  bytes_65600 = refl;
  bytes_65601 = refl;
  below_0 = refl;
  dry = refl;
  unparsed = refl;
  stages_32 = refl;
  stages_33 = refl;
  tos_255 = refl;
  tos_256 = refl;
  find_0 = refl;
  find_64 = refl;
  find_65 = refl;
  reach_1459 = refl;
  port_65535 = refl;
  port_65536 = refl;
  protocol = refl;
  no_bits = refl;
  all_bits = refl;
  three_parts = refl;
  no_prefix = refl;
}
