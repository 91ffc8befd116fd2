use Rattle.lane_cases.specs.Steps.{IsAtStep}
use Rattle.lane_cases.proofs.steps.all_steps.Given as goal

abbrev pub invariant-loop-i : goal.invariant-loop-i
invariant-loop-i g l = record {
  ingest_own : g.K.LaneKit.is_ingest_of l.lane l.ingest;
  first_own : g.K.LaneKit.is_worker_of l.lane l.first;
  second_own : g.K.LaneKit.is_worker_of l.lane l.second;
  at_step : IsAtStep l.progress (g.K.LaneKit.ingest_facts l.ingest) (g.K.LaneKit.worker_facts l.first) (g.K.LaneKit.worker_facts l.second);
}
