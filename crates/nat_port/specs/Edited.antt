-- A transport header after an end has changed, by its protocol.
use Rattle.std.specs.Prelude.{ℕ, List}
use Rattle.brick_spec.specs.FlowClass.{End}
use Rattle.brick_spec.specs.AddressTranslation.{with_tcp_source_end, with_tcp_destination_end, with_udp_source_end}
use Rattle.brick_spec.specs.AddressTranslation.{with_udp_destination_end}
use Rattle.tcp_udp.specs.declared.places.Transport.{Transport}
use Rattle.tcp_udp.specs.declared.places.Transport.TheVariants.{Tcp, Udp}

abbrev pub source_edited : Transport → ℕ → End → List ℕ → List ℕ
source_edited Tcp old e header = with_tcp_source_end old e header
source_edited Udp old e header = with_udp_source_end old e header

abbrev pub destination_edited : Transport → ℕ → End → List ℕ → List ℕ
destination_edited Tcp old e header = with_tcp_destination_end old e header
destination_edited Udp old e header = with_udp_destination_end old e header
