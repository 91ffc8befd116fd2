use Rattle.std.proofs.Common.{◌≡◌, List, ◌++◌, map, length, ◌∙◌, subst, arith}
use Rattle.std.specs.Prelude.{take}
use Rattle.std.specs.List.{AllZip}
use Rattle.std.proofs.lemmas.List.{length-map}
use Rattle.std.proofs.lemmas.Option.{slice_get_within}
use Rattle.std.proofs.lemmas.Slice.Zip.{AllZip-long}
use Rattle.lane_spec.specs.LaneBook.{LaneBook}
use Rattle.run_spec.specs.Books.{IsBookOf, IsPartBook}
use Rattle.work_crew.specs.JobView.{job_view}
use Rattle.work_crew.specs.Dones.{IsTenantDone}
use Rattle.work_crew.proofs.Rows.{there_at}
use Rattle.work_crew.proofs.Results.{on_err, both_if_ok}
use Rattle.work_crew.proofs.Dones.{parts_of_wholes}
use Rattle.work_crew.proofs.done.run_jobs.Goals as goal

pub finish_all-requires-clause-lanes : goal.finish_all-requires-clause-lanes
finish_all-requires-clause-lanes g c κs within = λ t x y at at'.
    let r = c.in_ok-lanes.ensures.done in
    let below = slice_get_within c.in_ok-lanes.lanes.items t y at' in
    let n = r.3 in
    let m = AllZip-long (IsBookOf c.args.workers) (map job_view c.args.jobs.now) r.0 r.2 ∙ length-map c.args.jobs.now job_view in
    let b = there_at r.0 t (omega arith) in
    (b.0, r.4 t x b.0 y at b.1 at')

pub returns-clause-no_memory : goal.returns-clause-no_memory
returns-clause-no_memory g c =
    let r = c.in_ok-lanes.ensures.done in
    let parts : (bs : List LaneBook) × (g.K.LaneKit.books c.run_lanes.new.kit ≡ g.K.LaneKit.books c.args.kit.now ++ bs) × AllZip (IsPartBook c.args.workers) (take (length bs) (map job_view c.args.jobs.now)) bs =
    (r.0, r.1, parts_of_wholes c.args.workers (map job_view c.args.jobs.now) r.0 r.2) in
    on_err _ parts

pub returns-clause-done : goal.returns-clause-done
returns-clause-done g c =
    let r = c.in_ok-lanes.ensures.done in
    both_if_ok c.finish_all.result (λ done count ended. (
      r.0,
      r.1,
      r.2,
      count ∙ r.3,
      λ t x b z at_x at_b at_z.
          let below = slice_get_within c.args.jobs.now t x at_x in
          let n = r.3 in
          let lane = there_at c.in_ok-lanes.lanes.items t (omega arith) in
          let d = r.4 t x b lane.0 at_x at_b lane.1 in
          subst (λ refused. IsTenantDone g.W.ChainWork.answer c.args.workers (job_view x) refused z) d.refused (ended t x lane.0 z at_x lane.1 at_z),
    )) c.finish_all.ensures.count c.finish_all.ensures.done
