use Rattle.std.proofs.Common.{arith}
use Rattle.pcap_io.specs.View.{order_view}
use Rattle.pcap_io.proofs.Places.{captured_at}
use Rattle.pcap_io.proofs.record.entry_at_front.Goals as goal

pub split_at-requires-2 : goal.split_at-requires-2
split_at-requires-2 c = omega (arith, captured_at (order_view c.args.order) c.args.bytes.now, c.four_at-captured.ensures, c.requires.there, c.split_at.ensures.back_len)

pub returns-clause-short : goal.returns-clause-short
returns-clause-short c = omega (arith, captured_at (order_view c.args.order) c.args.bytes.now, c.four_at-captured.ensures, c.requires.short, c.split_at-2.ensures.front_len)
