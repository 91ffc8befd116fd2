-- The earlier flow of a record, and its direction, as the definitions speak of them.
use Rattle.std.specs.Prelude.{ℕ, Option, None, List, option_map}
use Rattle.brick_base.specs.Flow.{dir_view}
use Rattle.brick_base.specs.declared.flow.Dir.{Dir}
use Rattle.brick_spec.specs.Flow.{Direction}
use Rattle.brick_spec.specs.Tuple.{Tuple}
use Rattle.brick_spec.specs.FlowClass as spec

abbrev pub found_view : Option (ℕ × Dir) → Option (ℕ × Direction)
found_view found = option_map (λ (p : ℕ × Dir). (p.0, dir_view p.1)) found

-- where the record is no reply through the plan
abbrev pub found_by_key : List spec.Opened → Option Tuple → Option (ℕ × Direction)
found_by_key flows t = spec.found_by None (spec.same_key_of flows t) flows t

-- the five-tuple of a frame that goes the other way
abbrev pub reversed_tuple : Tuple → Tuple
reversed_tuple t = record {
  proto = t.proto;
  src = t.dst;
  dst = t.src;
  ports = option_map (λ (ports : ℕ × ℕ). (ports.1, ports.0)) t.ports;
}
