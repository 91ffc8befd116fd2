use Rattle.std.proofs.Common.{◌≡◌, ◌≤◌, false, vec_len, vec_capacity, length}
use Rattle.chain_types.specs.ChainParts.{dry_view}
use Rattle.work_crew.specs.Records.{waits}
use Rattle.work_crew.specs.JobView.{job_view}
use Rattle.work_crew.specs.Ingested.{HasIngested}
use Rattle.work_crew.proofs.sending.send_all.Given as goal

-- the records so far were treated
abbrev pub invariant-each : goal.invariant-each
invariant-each g l = record {
  own : g.K.LaneKit.is_ingest_of l.lane l.seat;
  so_far : HasIngested (job_view l.job) l.workers l.k l.refused.items (g.K.LaneKit.ingest_facts l.seat);
  going : (g.K.LaneKit.ingest_facts l.seat).finished ≡ false;
  few : vec_len l.refused ≤ l.k;
  room : waits (dry_view l.job.chain.dry) ≡ false → length l.job.capture.entries ≤ vec_capacity l.refused;
}
