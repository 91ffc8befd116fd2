use Rattle.std.proofs.Common.{rules, ◌≡◌, List, [], ◌∷◌}
use Rattle.std.specs.Prelude.{IsTrue}
use Rattle.chain_types.specs.View.{chain_view}
use Rattle.run_spec.specs.Seen.{held}
use Rattle.run_report.specs.declared.report.Line.{Line}
use Rattle.bricks_main.proofs.Generating.{one_err, one_unsaid, one_told}
use Rattle.bricks_main.proofs.generated.run_one.Goals as goal

pub returns-in_err-push-clause-ran : goal.returns-in_err-push-clause-ran
returns-in_err-push-clause-ran g c = λ captured.
    let before = held (g.S.Store.file c.args.store.now) (g.S.Store.faults c.args.store.now) in
    let now = held (g.S.Store.file c.run_tenant.new.store) (g.S.Store.faults c.run_tenant.new.store) in
    one_err (IsTrue g.S.Store.tells) _ c.args.out.now (chain_view c.args.generated.chain) before now c.from_residual-in_err-push.ensures.0
    (one_unsaid (IsTrue g.S.Store.tells) c.args.out.now (chain_view c.args.generated.chain) c.args.generated.capture before now captured c.in_ok-end.ensures.later c.in_ok-end.end c.in_ok-end.ensures.ran)

pub returns-clause-ran : goal.returns-clause-ran
returns-clause-ran g c = λ captured.
    let before = held (g.S.Store.file c.args.store.now) (g.S.Store.faults c.args.store.now) in
    let now = held (g.S.Store.file c.run_tenant.new.store) (g.S.Store.faults c.run_tenant.new.store) in
    let line : Line = record { name = c.in_ok-name.name; end = c.in_ok-end.end } in
    let only : c.push.new.self.items ≡ line ∷ [] = search rules in
    let named : c.in_ok-name.name ≡ c.args.generated.chain.name = search rules in
    one_told (IsTrue g.S.Store.tells) c.args.out.now (chain_view c.args.generated.chain) c.args.generated.capture before now captured c.in_ok-end.ensures.later c.in_ok-end.end c.in_ok-end.ensures.ran
    c.push.new.self line only named (λ i. c.in_ok-end.end)
