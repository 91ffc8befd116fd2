-- A five-tuple of the code as one of the definitions.
use Rattle.brick_spec.specs.Tuple as tuple
use Rattle.tcp_udp.specs.declared.tuple.Tuple.{Tuple}

abbrev pub tuple_view : Tuple → tuple.Tuple
tuple_view t = record { proto = t.proto; src = t.src; dst = t.dst; ports = t.ports }
