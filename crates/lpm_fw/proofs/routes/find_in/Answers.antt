use Rattle.std.proofs.Common.{◌≡◌, ℕ, arith, length, subst}
use Rattle.lpm_fw.specs.Scan.{Best}
use Rattle.lpm_fw.proofs.Choice.{chosen}
use Rattle.lpm_fw.proofs.routes.find_in.Goals as goal

pub returns-clause-route : goal.returns-clause-route
returns-clause-route c =
    let past = c.loop-k-test.false in
    let end = c.loop-k.auto.k-end in
    let whole : c.loop-k.k ≡ length c.args.rows.now = omega arith in
    chosen c.args.rows.now c.args.addr c.loop-k.best (subst (λ (n : ℕ). Best c.args.rows.now c.args.addr n c.loop-k.best) whole c.loop-k.invariant)
