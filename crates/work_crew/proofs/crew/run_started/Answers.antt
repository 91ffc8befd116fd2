use Rattle.std.proofs.Common.{length, refl, sym, ap, ◌∙◌, subst, arith}
use Rattle.std.specs.Prelude.{All}
use Rattle.std.proofs.lemmas.Option.{slice_get_within}
use Rattle.work_crew.specs.Members.{Across}
use Rattle.work_crew.specs.Rows.{Each, HasPlaces}
use Rattle.work_crew.specs.IngestSides.{IsIngestReady, HasSent}
use Rattle.work_crew.specs.WorkerSides.{IsWorkerReady, HasServed}
use Rattle.work_crew.proofs.Members.{take_front}
use Rattle.work_crew.proofs.Rows.{there_at}
use Rattle.work_crew.proofs.Running.{ingests_ready, sides_ready, served_full, crew_over}
use Rattle.work_crew.proofs.crew.run_started.Goals as goal

pub set_out-requires-clause-seats : goal.set_out-requires-clause-seats
set_out-requires-clause-seats g c = λ t x at.
    let below = slice_get_within c.args.lanes.items t x at in
    let n = c.requires.count in
    let job = there_at c.args.jobs.now t (omega arith) in
    (c.requires.started t job.0 x job.1 at).count ∙ sym c.requires.workers.1

pub set_out-requires-clause-works : goal.set_out-requires-clause-works
set_out-requires-clause-works g c = λ t x at.
    let below = slice_get_within c.args.works.items t x at in
    let n = c.requires.works_count in
    let job = there_at c.args.jobs.now t (omega arith) in
    (c.requires.works t job.0 x job.1 at).count ∙ sym c.requires.workers.1

pub run_both-requires-clause-ingests : goal.run_both-requires-clause-ingests
run_both-requires-clause-ingests g c κs within =
    subst (λ lanes. All (IsIngestReady g.K.LaneKit.lane_facts g.K.LaneKit.is_ingest_of g.K.LaneKit.ingest_facts lanes c.args.jobs.now c.args.workers) c.deref_mut.result.now) (sym c.deref.ensures.value)
    (subst (All (IsIngestReady g.K.LaneKit.lane_facts g.K.LaneKit.is_ingest_of g.K.LaneKit.ingest_facts c.set_out.new.crew.lanes.items c.args.jobs.now c.args.workers)) (sym c.deref_mut.ensures.value)
    (ingests_ready g.K.LaneKit.is_ingest_of g.K.LaneKit.is_worker_of g.K.LaneKit.lane_facts g.K.LaneKit.ingest_facts g.K.LaneKit.worker_facts g.W.ChainWork.follows g.W.ChainWork.ready g.W.ChainWork.stands g.W.ChainWork.ended g.W.ChainWork.broken
    c.args.jobs.now c.args.workers c.requires.workers.0 c.requires.few c.args.lanes.items c.args.works.items c.requires.count c.requires.works_count c.requires.started c.requires.works c.set_out.new.crew c.set_out.new.sides
    (c.set_out.ensures.count ∙ c.requires.workers.1) c.set_out.ensures.out))

pub run_both-requires-clause-sides : goal.run_both-requires-clause-sides
run_both-requires-clause-sides g c κs within =
    subst (λ lanes. All (IsWorkerReady g.K.LaneKit.lane_facts g.K.LaneKit.is_worker_of g.K.LaneKit.worker_facts g.W.ChainWork.ready g.W.ChainWork.stands g.W.ChainWork.ended g.W.ChainWork.broken lanes c.args.jobs.now) c.set_out.new.sides) (sym c.deref.ensures.value)
    (sides_ready g.K.LaneKit.is_ingest_of g.K.LaneKit.is_worker_of g.K.LaneKit.lane_facts g.K.LaneKit.ingest_facts g.K.LaneKit.worker_facts g.W.ChainWork.follows g.W.ChainWork.ready g.W.ChainWork.stands g.W.ChainWork.ended g.W.ChainWork.broken
    c.args.jobs.now c.args.workers c.requires.workers.0 c.requires.few c.args.lanes.items c.args.works.items c.requires.count c.requires.works_count c.requires.started c.requires.works c.set_out.new.crew c.set_out.new.sides
    (c.set_out.ensures.count ∙ c.requires.workers.1) c.set_out.ensures.out)

pub turn_round-requires-clause-rows : goal.turn_round-requires-clause-rows
turn_round-requires-clause-rows g c =
    let served = subst (λ lanes. Across (HasServed g.K.LaneKit.is_worker_of g.K.LaneKit.worker_facts g.W.ChainWork.ready g.W.ChainWork.stands g.W.ChainWork.ended g.W.ChainWork.broken g.W.ChainWork.follows lanes c.args.jobs.now) c.set_out.new.sides c.run_both.new.sides) c.deref.ensures.value c.run_both.ensures.served in
    served_full g.K.LaneKit.is_ingest_of g.K.LaneKit.is_worker_of g.K.LaneKit.lane_facts g.K.LaneKit.ingest_facts g.K.LaneKit.worker_facts g.W.ChainWork.follows g.W.ChainWork.ready g.W.ChainWork.stands g.W.ChainWork.ended g.W.ChainWork.broken
    c.args.jobs.now c.args.workers c.requires.workers.0 c.requires.few c.args.lanes.items c.args.works.items c.requires.count c.requires.works_count c.requires.started c.requires.works c.set_out.new.crew c.set_out.new.sides
    (c.set_out.ensures.count ∙ c.requires.workers.1) c.set_out.ensures.out c.run_both.new.sides served (length c.deref_mut-2.result.now) (ap length c.deref_mut-2.ensures.value)

pub turn_round-requires-clause-columns : goal.turn_round-requires-clause-columns
turn_round-requires-clause-columns g c =
    subst (Each (HasPlaces 0 (length c.run_both.new.sides))) (sym c.deref_mut-2.ensures.value)
    (subst (λ n. Each (HasPlaces 0 n) c.set_out.new.crew.rows.items) (sym c.run_both.ensures.served.count) c.set_out.ensures.out.rows)

pub returns : goal.returns
returns g c =
    let served = subst (λ lanes. Across (HasServed g.K.LaneKit.is_worker_of g.K.LaneKit.worker_facts g.W.ChainWork.ready g.W.ChainWork.stands g.W.ChainWork.ended g.W.ChainWork.broken g.W.ChainWork.follows lanes c.args.jobs.now) c.set_out.new.sides c.run_both.new.sides) c.deref.ensures.value c.run_both.ensures.served in
    let sent = subst (λ lanes. Across (HasSent g.K.LaneKit.is_ingest_of g.K.LaneKit.ingest_facts lanes c.args.jobs.now c.args.workers) c.set_out.new.crew.ingests.items c.run_both.new.ingests) c.deref.ensures.value
    (subst (λ is. Across (HasSent g.K.LaneKit.is_ingest_of g.K.LaneKit.ingest_facts c.deref.result.now c.args.jobs.now c.args.workers) is c.run_both.new.ingests) c.deref_mut.ensures.value c.run_both.ensures.sent) in
    let rows_many = c.turn_round.ensures.columns_count ∙ ap length c.deref_mut-2.ensures.value in record {
      over = crew_over g.K.LaneKit.is_ingest_of g.K.LaneKit.is_worker_of g.K.LaneKit.lane_facts g.K.LaneKit.ingest_facts g.K.LaneKit.worker_facts g.W.ChainWork.follows g.W.ChainWork.ready g.W.ChainWork.stands g.W.ChainWork.ended g.W.ChainWork.broken
          c.args.jobs.now c.args.workers c.requires.workers.0 c.requires.few c.args.lanes.items c.args.works.items c.requires.count c.requires.works_count c.requires.started c.requires.works c.set_out.new.crew c.set_out.new.sides
          (c.set_out.ensures.count ∙ c.requires.workers.1) c.set_out.ensures.out
          c.run_both.new.ingests c.run_both.new.sides c.turn_round.new.columns sent served c.turn_round.ensures.turned rows_many c.turn_round.ensures.columns
          _ refl
          (take_front c.set_out.new.crew.ingests.len c.run_both.new.ingests _ (sent.count ∙ sym c.set_out.new.crew.ingests.ok.0))
          (take_front c.set_out.new.crew.rows.len c.turn_round.new.columns _ (rows_many ∙ sym c.set_out.new.crew.rows.ok.0));
    }
