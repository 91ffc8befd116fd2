use Rattle.std.proofs.Common.{arith}
use Rattle.brick_spec.specs.Bytes.{IsBytes}
use Rattle.pcap_io.specs.View.{order_view}
use Rattle.pcap_io.proofs.Faults.{version_there, version_stands}
use Rattle.pcap_io.proofs.header.check_version.Goals as goal
use Rattle.pcap_io.proofs.header.check_version.Goals.{else-major-eq2-via-then-major-eq2+else-minor-eq4, else-major-eq2-via-else-major-eq2}

pub returns-then-minor-eq4-clause-ok : goal.returns-then-minor-eq4-clause-ok
returns-then-minor-eq4-clause-ok c =
    let fits : IsBytes c.args.bytes.now = λ i. omega (arith, c.type_inv.bytes i) in
    version_there (order_view c.args.form.order) c.args.bytes.now c.two_at-major.result c.two_at-minor.result fits c.requires.size c.two_at-major.ensures c.two_at-minor.ensures c.if-major-eq2.true c.if-minor-eq4.true

pub returns-else-major-eq2-clause-fault : goal.returns-else-major-eq2-clause-fault
returns-else-major-eq2-clause-fault c =
    let fits : IsBytes c.args.bytes.now = λ i. omega (arith, c.type_inv.bytes i) in
    version_stands (order_view c.args.form.order) c.args.form.nano c.args.bytes.now c.two_at-major.result c.two_at-minor.result fits c.requires c.two_at-major.ensures c.two_at-minor.ensures (λ p.
    elim c.else-major-eq2.branch [
      | else-major-eq2-via-then-major-eq2+else-minor-eq4 w ↦ w.if-minor-eq4.false p.1
      | else-major-eq2-via-else-major-eq2 w ↦ w.if-major-eq2.false p.0
    ])
