use Rattle.std.proofs.Common.{arith}
use Rattle.pcap_io.specs.View.{order_view}
use Rattle.pcap_io.proofs.Captures.{header_size}
use Rattle.pcap_io.proofs.capture.Capture.read.Goals as goal

pub split_at-requires : goal.split_at-requires
split_at-requires c =
    let size = header_size (order_view c.in_ok-order.field-0.order) c.in_ok-order.field-0.nano c.deref.result.now c.in_ok-order.ensures.header in
    omega (arith, c.deref.ensures.len, c.deref-2.ensures.len, size)
