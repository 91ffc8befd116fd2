use Rattle.std.proofs.Common.{◌≡◌, ℕ, ◌<◌, true, false, get_or}
use Rattle.flow_spec.specs.Plan.{Plan}
use Rattle.work_crew.specs.Worked.{HasWorked}
use Rattle.work_crew.specs.Served.{AreServed}
use Rattle.work_crew.proofs.working.worker.Given as goal

-- the lanes were served, and where the mark stands those before this one have ended
abbrev pub invariant-turns : goal.invariant-turns
invariant-turns g l = record {
  served : AreServed g.K.LaneKit.is_worker_of g.K.LaneKit.worker_facts (HasWorked g.W.ChainWork.ready g.W.ChainWork.stands g.W.ChainWork.ended g.W.ChainWork.broken)
      (λ new old. (p : Plan) → g.W.ChainWork.follows old p → g.W.ChainWork.follows new p)
      l.lanes l.jobs l.fn.seats l.seats l.fn.works l.works l.ended;
  before : l.all ≡ true → (u : ℕ) → u < l.t → get_or l.ended u false ≡ true;
}

-- the lanes were served
abbrev pub invariant-rounds : goal.invariant-rounds
invariant-rounds g l = record {
  can : (goal.iterator-rounds g).can_next l.iterator' × (goal.iterator-rounds g).is_finite l.iterator';
  served : AreServed g.K.LaneKit.is_worker_of g.K.LaneKit.worker_facts (HasWorked g.W.ChainWork.ready g.W.ChainWork.stands g.W.ChainWork.ended g.W.ChainWork.broken)
      (λ new old. (p : Plan) → g.W.ChainWork.follows old p → g.W.ChainWork.follows new p)
      l.lanes l.jobs l.fn.seats l.seats l.fn.works l.works l.ended;
}
