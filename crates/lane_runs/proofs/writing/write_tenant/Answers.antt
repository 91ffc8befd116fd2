use Rattle.std.proofs.Common.{◌≡◌, subst}
use Rattle.std.specs.Prelude.{IsTrue}
use Rattle.run_spec.specs.Seen.{held}
use Rattle.lane_runs.proofs.Ready.{done_here, ran_here}
use Rattle.lane_runs.specs.Writing.{IsDoneAt, IsReady}
use Rattle.lane_runs.proofs.writing.write_tenant.Goals as goal

pub write_made-requires-clause-made : goal.write_made-requires-clause-made
write_made-requires-clause-made g c = (done_here c.args.jobs.now c.args.done.now c.in-Job.place c.index-jobs-place.result c.index-done-place.result c.index-jobs-place.is c.index-done-place.is (subst (IsDoneAt c.args.jobs.now c.args.done.now) c.in-Job.is c.requires.done)).made

pub returns-in-Job-clause-ran : goal.returns-in-Job-clause-ran
returns-in-Job-clause-ran g c = λ chain refused i ready.
    ran_here (IsTrue g.S.Store.tells) c.args.out.now c.args.tenant (held (g.S.Store.file c.args.store.now) (g.S.Store.faults c.args.store.now)) (held (g.S.Store.file c.write_made.new.store) (g.S.Store.faults c.write_made.new.store)) _ c.args.jobs.now c.args.done.now
    c.in-Job.place c.index-jobs-place.result c.index-done-place.result c.index-jobs-place.is c.index-done-place.is chain refused i (subst (IsReady c.args.jobs.now c.args.done.now chain refused i) c.in-Job.is ready) c.write_made.ensures.wrote
