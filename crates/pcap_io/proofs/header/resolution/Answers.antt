use Rattle.std.proofs.Common.{sym, ◌∙◌, arith}
use Rattle.brick_spec.specs.Bytes.{IsBytes}
use Rattle.pcap_io.specs.View.{order_view}
use Rattle.pcap_io.proofs.Faults.{has_magic, no_magic}
use Rattle.pcap_io.proofs.header.resolution.Goals as goal

pub returns-then-word : goal.returns-then-word
returns-then-word c =
    let fits : IsBytes c.args.bytes.now = λ i. omega (arith, c.type_inv.bytes i) in
    has_magic (order_view c.args.order) _ c.args.bytes.now fits c.requires (sym c.four_at-word.ensures ∙ c.if-word.true)

pub returns-then-word-2 : goal.returns-then-word-2
returns-then-word-2 c =
    let fits : IsBytes c.args.bytes.now = λ i. omega (arith, c.type_inv.bytes i) in
    has_magic (order_view c.args.order) _ c.args.bytes.now fits c.requires (sym c.four_at-word.ensures ∙ c.if-word-2.true)

pub returns-else-word-2 : goal.returns-else-word-2
returns-else-word-2 c = no_magic (order_view c.args.order) c.args.bytes.now (λ e. c.if-word.false (c.four_at-word.ensures ∙ e)) (λ e. c.if-word-2.false (c.four_at-word.ensures ∙ e))
