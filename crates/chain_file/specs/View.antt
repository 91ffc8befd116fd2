-- What a chain file's groups and settings say, and the names of chains, in the words of the definitions.
use Rattle.std.specs.Prelude.{ℕ, List, map, option_map}
use Rattle.chain_spec.specs.ChainSet as spec
use Rattle.tcp_udp.specs.MatchView.{match_view}
use Rattle.chain_types.specs.StageView.{stages_view}
use Rattle.chain_types.specs.ChainParts.{dry_view, unparsed_view}
use Rattle.chain_types.specs.View.{chain_view}
use Rattle.chain_types.specs.declared.chain.Chain.{Chain}
use Rattle.chain_file.specs.NamedView.{named_below_view}
use Rattle.chain_file.specs.declared.named.NamedGroup.{NamedGroup}
use Rattle.chain_file.specs.declared.named.Settings.{Settings}

abbrev pub named_view : NamedGroup → spec.NamedGroup
named_view g = record {
  name = g.name;
  wanted = option_map match_view g.wanted;
  stages = stages_view g.stages.items;
  below = named_below_view g.below;
}

abbrev pub settings_view : Settings → spec.Settings
settings_view s = record {
  buffers = s.buffers;
  bytes = s.bytes;
  dry = dry_view s.dry;
  unparsed = unparsed_view s.unparsed;
}

abbrev pub group_names : List NamedGroup → List (List ℕ)
group_names groups = map (λ g. g.name) (map named_view groups)

abbrev pub chain_names : List Chain → List (List ℕ)
chain_names chains = map (λ c. c.name) (map chain_view chains)

abbrev pub chain_captures : List Chain → List (List ℕ)
chain_captures chains = map (λ c. c.capture) (map chain_view chains)
