-- A match of the code as one of the definitions.
use Rattle.std.specs.Prelude.{ℕ, Bool, Option, ◌&&◌, option_map}
use Rattle.brick_spec.specs.Match as match
use Rattle.tcp_udp.specs.declared.matching.Match.{Match}
use Rattle.brick_base.specs.PrefixView.{prefix_view}

abbrev pub match_view : Match → match.Match
match_view m = record {
  proto = m.proto;
  src = option_map prefix_view m.src;
  dst = option_map prefix_view m.dst;
  sport = m.sport;
  dport = m.dport;
  port = m.port;
}

-- every key of a port that it has is met
abbrev pub meets_ports : match.Match → Option (ℕ × ℕ) → Bool
meets_ports m ports = match.meets_port m.sport match.is_source ports
    && (match.meets_port m.dport match.is_destination ports && match.meets_port m.port match.is_either ports)
