use Rattle.std.proofs.Common.{ap, subst}
use Rattle.std.specs.Prelude.{IsTrue}
use Rattle.run_spec.specs.Seen.{seen}
use Rattle.command_line.specs.View.{line_view, mode_view, IsModeOf}
use Rattle.command_line.specs.declared.Mode.{Mode}
use Rattle.command_line.specs.declared.Mode.TheVariants.{Gen}
use Rattle.bricks_main.proofs.Words.{gen_kept}
use Rattle.bricks_main.proofs.run.run_line.Goals as goal

pub returns-in-Gen-clause-line : goal.returns-in-Gen-clause-line
returns-in-Gen-clause-line g c =
    let fits = subst (λ (m : Mode). IsModeOf m c.args.line.now.chains.now c.args.line.now.out.now) c.in-Gen.is c.requires.generated in
    gen_kept (IsTrue g.S.Store.tells) (IsTrue g.P.Sink.tells) (line_view c.args.line.now) c.in-Gen.number
    (seen (g.S.Store.file c.args.store.now) (g.S.Store.faults c.args.store.now) (g.P.Sink.written c.args.out.now) (g.P.Sink.faults c.args.out.now))
    (seen (g.S.Store.file c.run_gen.new.store) (g.S.Store.faults c.run_gen.new.store) (g.P.Sink.written c.run_gen.new.out) (g.P.Sink.faults c.run_gen.new.out))
    (g.K.LaneKit.books c.args.kit.now) c.run_gen.result (ap mode_view c.in-Gen.is) fits.0 c.run_gen.ensures
