use Rattle.std.proofs.Common.{sym, ◌∙◌, arith}
use Rattle.brick_spec.specs.Bytes.{IsBytes}
use Rattle.pcap_io.specs.View.{order_view}
use Rattle.pcap_io.proofs.Faults.{header_stands}
use Rattle.pcap_io.proofs.header.check_link.Goals as goal

pub returns-then-word-eq-ETHERNET-clause-ok : goal.returns-then-word-eq-ETHERNET-clause-ok
returns-then-word-eq-ETHERNET-clause-ok c =
    let fits : IsBytes c.args.bytes.now = λ i. omega (arith, c.type_inv.bytes i) in
    header_stands (order_view c.args.form.order) c.args.form.nano c.args.bytes.now fits c.requires.magic c.requires.version (sym c.four_at-word.ensures ∙ c.if-word-eq-ETHERNET.true)
