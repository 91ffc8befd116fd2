-- Opened flows of the code as those of the definitions.
use Rattle.std.specs.Prelude.{option_map}
use Rattle.brick_spec.specs.FlowClass as spec
use Rattle.tcp_udp.specs.View.{tuple_view}
use Rattle.flow_key.specs.declared.opened.Opened.{Opened}

abbrev pub opened_view : Opened → spec.Opened
opened_view o = record { first = option_map tuple_view o.first; rank = o.class.rank; opened = o.class.opened }
