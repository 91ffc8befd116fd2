use Rattle.std.proofs.Common.{◌≡◌, ◌≤◌, length, sym, ap, ◌∙◌, arith, subst, Option, Some, IsSomeAnd, List, ℕ}
use Rattle.brick_spec.specs.CaptureFault.{Stands}
use Rattle.run_report.specs.View.{refusal_view}
use Rattle.tenant_files.proofs.inputs.read_tenant.Goals as goal

some_is : {X : Type 0} (o : Option X) (x : X) (P : X → Type 0) → o ≡ Some x → P x → IsSomeAnd o P
some_is o x P e p = subst (λ (q : Option _). IsSomeAnd q P) (sym e) p

pub returns-in_ok-refusal-in-Err-clause-input : goal.returns-in_ok-refusal-in-Err-clause-input
returns-in_ok-refusal-in-Err-clause-input g c = λ tells.
    let refusal = refusal_view c.in_ok-refusal-in-Err.refusal in
    let short : length c.in-Ok.bytes.items ≤ 33554432 = omega (arith, c.in-Ok.ensures.within) in
    some_is (g.S.Store.file c.args.store.now c.args.chain.now.capture) c.in-Ok.bytes.items (λ bytes. (length bytes ≤ 33554432) × Stands bytes refusal)
    (ap (g.S.Store.file c.args.store.now) (sym c.as_str.ensures) ∙ c.in-Ok.ensures.whole tells) (short, c.in_ok-refusal-in-Err.ensures.means c.in-Ok.bytes.items c.in-Err.ensures.fault)
