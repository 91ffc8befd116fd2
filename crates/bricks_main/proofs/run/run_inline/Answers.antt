use Rattle.std.specs.Prelude.{IsTrue}
use Rattle.run_spec.specs.Isolation.{none_refused}
use Rattle.run_spec.specs.Seen.{seen}
use Rattle.run_report.specs.View.{outcome_view}
use Rattle.bricks_main.proofs.Promises.{promises_kept}
use Rattle.bricks_main.proofs.run.run_inline.Goals as goal

pub returns : goal.returns
returns g c = promises_kept (IsTrue g.S.Store.tells) (IsTrue g.P.Sink.tells) c.args.chains.now c.args.out_dir.now none_refused
    (seen (g.S.Store.file c.args.store.now) (g.S.Store.faults c.args.store.now) (g.P.Sink.written c.args.out.now) (g.P.Sink.faults c.args.out.now))
    (seen (g.S.Store.file c.run_files-outcome.new.store) (g.S.Store.faults c.run_files-outcome.new.store) (g.P.Sink.written c.tell.new.sink) (g.P.Sink.faults c.tell.new.sink))
    (outcome_view c.run_files-outcome.result) c.tell.result (record {
      is_true = c.run_files-outcome.ensures.is_true;
      told = c.tell.ensures.told;
      sink = c.tell.ensures.fault;
      shown = c.tell.ensures.shown;
      counts = c.run_files-outcome.ensures.counts;
      tenants = c.run_files-outcome.ensures.tenants;
    })
