use Rattle.std.proofs.Common.{ℕ, subst}
use Rattle.std.specs.Prelude.{IsTrue}
use Rattle.run_spec.specs.Lanes.{RunPromises}
use Rattle.run_spec.specs.Seen.{seen}
use Rattle.run_report.specs.View.{outcome_view}
use Rattle.bricks_main.proofs.LanePromises.{lanes_kept}
use Rattle.bricks_main.proofs.run.run_lanes.Goals as goal

pub returns-clause-run : goal.returns-clause-run
returns-clause-run g c =
    let ran = c.run_files-outcome.ensures.ran in
    let before = seen (g.S.Store.file c.args.store.now) (g.S.Store.faults c.args.store.now) (g.P.Sink.written c.args.out.now) (g.P.Sink.faults c.args.out.now) in
    let now = seen (g.S.Store.file c.run_files-outcome.new.store) (g.S.Store.faults c.run_files-outcome.new.store) (g.P.Sink.written c.tell.new.sink) (g.P.Sink.faults c.tell.new.sink) in
    subst (λ (w : ℕ). RunPromises (IsTrue g.S.Store.tells) (IsTrue g.P.Sink.tells) c.args.chains.now c.args.out_dir.now w before now (g.K.LaneKit.books c.args.kit.now) (g.K.LaneKit.books c.run_files-outcome.new.kit) c.tell.result) c.from.ensures
    (lanes_kept (IsTrue g.S.Store.tells) (IsTrue g.P.Sink.tells) c.args.chains.now c.args.out_dir.now c.from.result before now (g.K.LaneKit.books c.args.kit.now) (g.K.LaneKit.books c.run_files-outcome.new.kit)
    (outcome_view c.run_files-outcome.result) c.tell.result ran (record {
      is_true = ran.is_true;
      told = c.tell.ensures.told;
      sink = c.tell.ensures.fault;
      shown = c.tell.ensures.shown;
      counts = c.run_files-outcome.ensures.counts;
      tenants = c.run_files-outcome.ensures.tenants;
    }))
