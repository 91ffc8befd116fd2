use Rattle.std.proofs.Common.{refl, sym, subst, ap, ◌∙◌, Result}
use Rattle.std.specs.Prelude.{⊤, is_err}
use Rattle.brick_base.specs.declared.memory.NoMemory.{NoMemory}
use Rattle.batch_ops.specs.declared.outlet.Outlet.{Outlet}
use Rattle.stage_path.specs.declared.path.Path.{Path}
use Rattle.stage_path.specs.Path.{path}
use Rattle.batch_ops.specs.Operator.{Stepped}
use Rattle.batch_ops.proofs.ThenCalls.{failed_steps}
use Rattle.stage_path.proofs.Paths.{path_steps, path_drops}
use Rattle.stage_path.proofs.path.PathOperator.step.Goals as goal
use Rattle.stage_path.proofs.path.PathOperator.step.Goals.{in-Ok, in-Err}

pub returns-then-self : goal.returns-then-self
returns-then-self g c = failed_steps _ c.args.self.now c.args.class.now c.args.p c.args.out.now _ c.requires.ready c.if-self.true c.lose.ensures.grows c.lose.ensures.spare

pub returns : goal.returns
returns g c =
    let k = g.S.TreatRead.kind in
    let m = g.B.Operator.meaning in
    let old = c.args.self.now in
    let failed = c.is_err-self.result in
    let is = path k m (λ (p : Path g.row.S.Denot g.row.B.Denot). p.before.stages.items) (λ p. p.behind) (λ p. p.failed) in
    let at = λ (s : Path g.row.S.Denot g.row.B.Denot) (out : Outlet) (r : Result ⊤ NoMemory). Stepped is old (record { before = s.before; behind = s.behind; failed = failed }) c.args.class.now c.args.p c.args.out.now out r in
    elim c.match-treat.branch [
      | in-Ok w ↦
          let new : Path g.row.S.Denot g.row.B.Denot = record { before = c.treat.new.self; behind = w.step-outcome.new.self; failed = old.failed } in
          let step = path_steps k m (λ p. p.before.stages.items) (λ p. p.behind) (λ p. p.failed) old (record { before = c.treat.new.self; behind = w.step-outcome.new.self; failed = failed }) c.args.class.now c.args.p w.in-Ok.p c.args.out.now w.step-outcome.new.out w.step-outcome.result
          w.in-Ok.ensures.treats w.step-outcome.ensures c.if-self.false (c.is_err-self.ensures.value ∙ ap is_err w.outcome-is) in
          subst (λ s. at s c.match-treat.out c.match-treat.outcome) (sym w.self-is) (subst (λ out. at new out c.match-treat.outcome) (sym w.out-is) (subst (λ r. at new w.step-outcome.new.out r) (sym w.outcome-is) step))
      | in-Err w ↦
          let new : Path g.row.S.Denot g.row.B.Denot = record { before = c.treat.new.self; behind = old.behind; failed = old.failed } in
          let step = path_drops k m (λ p. p.before.stages.items) (λ p. p.behind) (λ p. p.failed) old (record { before = c.treat.new.self; behind = old.behind; failed = failed }) c.args.class.now c.args.p w.in-Err.dropped c.args.out.now w.settle-outcome.new.self w.settle-outcome.result
          w.in-Err.ensures.treats refl c.requires.ready c.if-self.false (c.is_err-self.ensures.value ∙ ap is_err w.outcome-is) w.settle-outcome.ensures.grows w.settle-outcome.ensures.spare w.settle-outcome.ensures.lost in
          subst (λ s. at s c.match-treat.out c.match-treat.outcome) (sym w.self-is) (subst (λ out. at new out c.match-treat.outcome) (sym w.out-is) (subst (λ r. at new w.settle-outcome.new.self r) (sym w.outcome-is) step))
    ]
