use Rattle.std.proofs.Common.{◌≡◌, ◌+◌, ◌≤◌, length, vec_capacity}
use Rattle.work_crew.specs.Members.{Members}
use Rattle.work_crew.specs.Lanes.{IsStarted}
use Rattle.work_crew.proofs.starting.start_each.Given as goal

-- the lanes so far were started
abbrev pub invariant-each : goal.invariant-each
invariant-each g l = record {
  books : g.K.LaneKit.books l.kit ≡ g.K.LaneKit.books l.fn.kit;
  opened : g.K.LaneKit.open_lanes l.kit ≡ g.K.LaneKit.open_lanes l.fn.kit + l.t;
  count : length l.lanes.items ≡ l.t;
  room : length l.jobs ≤ vec_capacity l.lanes;
  started : Members (IsStarted g.K.LaneKit.is_ingest_of g.K.LaneKit.is_worker_of g.K.LaneKit.lane_facts g.K.LaneKit.ingest_facts g.K.LaneKit.worker_facts l.workers) l.jobs l.lanes.items;
}
