use Rattle.std.proofs.Common.{Err, map, ap, sym, subst}
use Rattle.std.specs.Prelude.{IsTrue}
use Rattle.chain_types.specs.View.{chain_view}
use Rattle.chain_text.specs.Gives.{seen}
use Rattle.chain_text.specs.declared.fault.ChainFault.{ChainFault}
use Rattle.run_spec.specs.Seen.{held}
use Rattle.run_report.specs.View.{refused_view}
use Rattle.tenant_files.specs.Chains.{ReadsChains}
use Rattle.tenant_files.specs.declared.chains.ChainsFault.{ChainsFault}
use Rattle.lane_runs.specs.Ran.{FilesRan}
use Rattle.lane_runs.proofs.Filing.{lanes_refused, lanes_failed, lanes_unread, lanes_reported, lanes_stopped}
use Rattle.lane_runs.proofs.run.run_files.Goals as goal

pub returns-in-Err-Refused-clause-ran : goal.returns-in-Err-Refused-clause-ran
returns-in-Err-Refused-clause-ran g c =
    let first = held (g.S.Store.file c.args.store.now) (g.S.Store.faults c.args.store.now) in
    let now = held (g.S.Store.file c.read_chains.new.store) (g.S.Store.faults c.read_chains.new.store) in
    subst (λ (f : ChainFault). FilesRan (IsTrue g.S.Store.tells) c.args.chains.now c.args.out.now c.args.workers first now (g.K.LaneKit.books c.args.kit.now) (g.K.LaneKit.books c.args.kit.now) (refused_view (seen f)))
    (sym c.in-Err-Refused.fault-is)
    (lanes_refused (IsTrue g.S.Store.tells) c.args.chains.now c.args.out.now c.args.workers first now (g.K.LaneKit.books c.args.kit.now) (seen c.in-Err-Refused.fault) c.in-Err-Refused.ensures.held
    (λ x. subst (λ (r : ChainsFault). ReadsChains c.args.chains.now c.args.out.now (g.S.Store.file c.args.store.now) (Err r)) c.in-Err-Refused.field-0-is (c.in-Err-Refused.ensures.reads x)))

pub returns-in-Err-Failed-clause-ran : goal.returns-in-Err-Failed-clause-ran
returns-in-Err-Failed-clause-ran g c =
    lanes_failed (IsTrue g.S.Store.tells) c.args.chains.now c.args.out.now c.args.workers (held (g.S.Store.file c.args.store.now) (g.S.Store.faults c.args.store.now)) (held (g.S.Store.file c.read_chains.new.store) (g.S.Store.faults c.read_chains.new.store))
    (g.K.LaneKit.books c.args.kit.now) c.in-Err-Failed.ensures.held (c.in-Err-Failed.ensures.cause.cause (ap Err c.in-Err-Failed.field-0-is))

pub returns-in-Err-NoMemory-clause-ran : goal.returns-in-Err-NoMemory-clause-ran
returns-in-Err-NoMemory-clause-ran g c =
    lanes_unread (IsTrue g.S.Store.tells) c.args.chains.now c.args.out.now c.args.workers (held (g.S.Store.file c.args.store.now) (g.S.Store.faults c.args.store.now)) (held (g.S.Store.file c.read_chains.new.store) (g.S.Store.faults c.read_chains.new.store))
    (g.K.LaneKit.books c.args.kit.now) c.in-Err-NoMemory.ensures.held

pub returns-in-Ok-run_set-clause-ran : goal.returns-in-Ok-run_set-clause-ran
returns-in-Ok-run_set-clause-ran g c =
    lanes_reported (IsTrue g.S.Store.tells) c.args.chains.now c.args.out.now c.args.workers (map chain_view c.in-Ok.set.items) (held (g.S.Store.file c.args.store.now) (g.S.Store.faults c.args.store.now))
    (held (g.S.Store.file c.read_chains.new.store) (g.S.Store.faults c.read_chains.new.store)) (held (g.S.Store.file c.run_set.new.store) (g.S.Store.faults c.run_set.new.store)) _ _ c.in-Ok.ensures.held
    c.in-Ok.ensures.reads c.in-Ok.ensures.apart c.in-Ok.ensures.cause.later c.in-Ok-run_set.lines c.in-Ok-run_set.ensures.ran

pub returns-in-Err-clause-ran : goal.returns-in-Err-clause-ran
returns-in-Err-clause-ran g c =
    lanes_stopped (IsTrue g.S.Store.tells) c.args.chains.now c.args.out.now c.args.workers (map chain_view c.in-Ok.set.items) (held (g.S.Store.file c.args.store.now) (g.S.Store.faults c.args.store.now))
    (held (g.S.Store.file c.read_chains.new.store) (g.S.Store.faults c.read_chains.new.store)) (held (g.S.Store.file c.run_set.new.store) (g.S.Store.faults c.run_set.new.store)) _ _ c.in-Ok.ensures.held
    c.in-Ok.ensures.reads c.in-Ok.ensures.apart c.in-Ok.ensures.cause.later c.in-Err.field-0 c.in-Err.ensures.ran
