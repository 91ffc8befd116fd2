use Rattle.std.proofs.Common.{◌≡◌, ◌++◌, List, map, ap, ◌∙◌, length}
use Rattle.std.specs.Prelude.{take}
use Rattle.std.specs.List.{AllZip}
use Rattle.lane_spec.specs.LaneBook.{LaneBook}
use Rattle.run_spec.specs.Books.{IsPartBook}
use Rattle.work_crew.specs.JobView.{job_view}
use Rattle.work_crew.proofs.Results.{on_err, part_books, whole_books, done_many, lanes_done}
use Rattle.work_crew.proofs.crew.run_lanes.Goals as goal

pub returns-in_err-shut_all-clause-no_memory : goal.returns-in_err-shut_all-clause-no_memory
returns-in_err-shut_all-clause-no_memory g c =
    let r = c.shut_all.ensures.books in
    let parts : (bs : List LaneBook) × (g.K.LaneKit.books c.shut_all.new.kit ≡ g.K.LaneKit.books c.args.kit.now ++ bs) × AllZip (IsPartBook c.args.workers) (take (length bs) (map job_view c.args.jobs.now)) bs = (
      r.0,
      r.1 ∙ ap (λ l. l ++ r.0) c.in_ok-lanes.ensures.books,
      part_books g.K.LaneKit.is_ingest_of g.K.LaneKit.is_worker_of g.K.LaneKit.lane_facts g.K.LaneKit.ingest_facts g.K.LaneKit.worker_facts
          g.W.ChainWork.follows g.W.ChainWork.ready g.W.ChainWork.stands g.W.ChainWork.ended g.W.ChainWork.broken c.args.jobs.now c.args.workers c.run_started.new.crew c.run_started.ensures.over r.0 r.2 r.3,
    ) in on_err _ parts

pub returns-clause-done : goal.returns-clause-done
returns-clause-done g c =
    let r = c.shut_all.ensures.books in
    let k = c.in_ok-shut_all.ensures.kept in (
      r.0,
      r.1 ∙ ap (λ l. l ++ r.0) c.in_ok-lanes.ensures.books,
      whole_books g.K.LaneKit.is_ingest_of g.K.LaneKit.is_worker_of g.K.LaneKit.lane_facts g.K.LaneKit.ingest_facts g.K.LaneKit.worker_facts
          g.W.ChainWork.follows g.W.ChainWork.ready g.W.ChainWork.stands g.W.ChainWork.ended g.W.ChainWork.broken c.args.jobs.now c.args.workers c.run_started.new.crew c.run_started.ensures.over r.0 r.2 r.3 c.shut_all.new.done.items k.0 k.1,
      done_many g.K.LaneKit.is_ingest_of g.K.LaneKit.is_worker_of g.K.LaneKit.lane_facts g.K.LaneKit.ingest_facts g.K.LaneKit.worker_facts
          g.W.ChainWork.follows g.W.ChainWork.ready g.W.ChainWork.stands g.W.ChainWork.ended g.W.ChainWork.broken c.args.jobs.now c.args.workers c.run_started.new.crew c.run_started.ensures.over r.0 r.2 r.3 c.shut_all.new.done.items k.0 k.1,
      lanes_done g.K.LaneKit.is_ingest_of g.K.LaneKit.is_worker_of g.K.LaneKit.lane_facts g.K.LaneKit.ingest_facts g.K.LaneKit.worker_facts
          g.W.ChainWork.follows g.W.ChainWork.ready g.W.ChainWork.stands g.W.ChainWork.ended g.W.ChainWork.broken c.args.jobs.now c.args.workers c.run_started.new.crew c.run_started.ensures.over r.0 r.2 r.3 c.shut_all.new.done.items k.0 k.1,
    )
