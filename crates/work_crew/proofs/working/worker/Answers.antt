use Rattle.std.proofs.Common.{◌≡◌, ◌<◌, Bool, true, false, get_or, length, sym, refl, ap, ◌∙◌, subst, arith, Some, List, inl, inr}
use Rattle.std.specs.Prelude.{slice_get}
use Rattle.std.proofs.Math.ListN.{set}
use Rattle.std.proofs.lemmas.Bool.Decides.{eqb_tells}
use Rattle.std.proofs.lemmas.List.{get_or-set_same, get_or-set_other, length-set}
use Rattle.std.proofs.lemmas.Option.{slice_get-get_or, get_or_from_slice_get}
use Rattle.flow_spec.specs.Plan.{Plan}
use Rattle.work_crew.specs.JobView.{job_view}
use Rattle.work_crew.specs.Worked.{HasWorked}
use Rattle.work_crew.specs.Served.{AreServed}
use Rattle.work_core.specs.declared.job.TenantJob.{TenantJob}
use Rattle.work_crew.proofs.Rounds.{one_turn, subst3}
use Rattle.work_crew.proofs.working.worker.Goals as goal
use Rattle.work_crew.proofs.working.worker.Goals.{then-not-ended-t, else-not-ended-t}

pub serve-turn-requires-clause-worked : goal.serve-turn-requires-clause-worked
serve-turn-requires-clause-worked g c κs within =
    let s = c.turns.invariant.served in
    let t = c.turns-test.true in
    let ns = s.seats_count in
    let nw = s.works_count in
    let nj = c.requires.jobs in
    s.done c.turns.t _ _ _ (slice_get-get_or c.turns.seats c.turns.t c.index-seats-t.result (omega arith)) (slice_get-get_or c.turns.works c.turns.t c.index-works-t.result (omega arith))
    (slice_get-get_or c.args.jobs.now c.turns.t c.index-jobs-t.result (omega arith) ∙ ap Some (sym c.index-jobs-t.is))

pub turns-preserved : goal.turns-preserved
turns-preserved g c =
    let s = c.turns.invariant.served in
    let t = c.turns-test.true in
    let ns = s.seats_count in
    let nw = s.works_count in
    let nj = c.requires.jobs in
    let few = c.requires.few in
    let worked = HasWorked g.W.ChainWork.ready g.W.ChainWork.stands g.W.ChainWork.ended g.W.ChainWork.broken in
    let Same : g.row.W.Denot → g.row.W.Denot → Type 0 = λ new old. (p : Plan) → g.W.ChainWork.follows old p → g.W.ChainWork.follows new p in
    let lists : List g.row.K-Worker.Denot → List g.row.W.Denot → List Bool → Type 0 = λ seats works marks. AreServed g.K.LaneKit.is_worker_of g.K.LaneKit.worker_facts worked Same c.args.lanes.now c.args.jobs.now c.args.seats.now seats c.args.works.now works marks in
    elim c.if-not-ended-t.branch [
      | then-not-ended-t w ↦
          let many : c.turns.t < length c.turns.ended = let m = s.marks_count in omega arith in
          let job_is : (job : TenantJob) → slice_get c.args.jobs.now c.turns.t ≡ Some job → w.index-jobs-t.result ≡ job =
          λ job at. w.index-jobs-t.is ∙ get_or_from_slice_get c.args.jobs.now c.turns.t job w.index-jobs-t.result at in
          let new = one_turn g.K.LaneKit.is_worker_of g.K.LaneKit.worker_facts worked Same (λ a b d x y p f. x p (y p f))
          c.args.lanes.now c.args.jobs.now c.args.seats.now c.turns.seats c.args.works.now c.turns.works c.turns.ended s
          c.turns.t (get_or c.turns.seats c.turns.t w.index-seats-t.result) w.serve-turn.new.seat (get_or c.turns.works c.turns.t w.index-works-t.result) w.serve-turn.new.work (set c.turns.ended c.turns.t w.serve-turn.result.ended)
          (slice_get-get_or c.turns.seats c.turns.t w.index-seats-t.result (omega arith)) (slice_get-get_or c.turns.works c.turns.t w.index-works-t.result (omega arith))
          (length-set c.turns.ended c.turns.t w.serve-turn.result.ended ∙ s.marks_count)
          (λ lane at. subst (λ x. g.K.LaneKit.is_worker_of x w.serve-turn.new.seat) (w.index-lanes-t.is ∙ get_or_from_slice_get c.args.lanes.now c.turns.t lane w.index-lanes-t.result at) w.serve-turn.ensures.own)
          (w.serve-turn.ensures.ended ∙ sym (get_or-set_same c.turns.ended c.turns.t w.serve-turn.result.ended false many))
          (λ u not. get_or-set_other c.turns.ended c.turns.t u w.serve-turn.result.ended false not)
          w.serve-turn.ensures.worked.held w.serve-turn.ensures.place (λ job at. subst (λ (j : TenantJob). worked (job_view j) (g.K.LaneKit.worker_facts w.serve-turn.new.seat) w.serve-turn.new.work) (job_is job at) w.serve-turn.ensures.worked) w.serve-turn.ensures.follows in record {
            served = subst3 lists (sym w.seats-is) (sym w.works-is) (sym w.ended-is) new;
            before = λ all. absurd (let e : true ≡ false = sym all ∙ w.all-is in cc);
          }
      | else-not-ended-t w ↦ record {
        served = subst3 lists (sym w.seats-is) (sym w.works-is) (sym w.ended-is) s;
        before = λ all u below. ap (λ l. get_or l u false) w.ended-is ∙ elim (eqb_tells u c.turns.t) [
          | inl e ↦ ap (λ k. get_or c.turns.ended k false) e.1 ∙ w.if-not-ended-t.false
          | inr e ↦ c.turns.invariant.before (sym w.all-is ∙ all) u (let ne = e.1 in omega arith)
        ];
      }
    ]

pub returns-then-all-clause-ended : goal.returns-then-all-clause-ended
returns-then-all-clause-ended g c = λ k d below. let s = c.turns.invariant.served in
    let at = slice_get-get_or c.turns.seats k d below in
    let all = c.turns.invariant.before c.if-all.true k (let n = s.seats_count in let e = c.turns-test.false in omega arith) in
    (s.marked k _ at ∙ all, s.held k _ at)
