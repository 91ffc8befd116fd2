use Rattle.std.proofs.Common.{◌≡◌, ◌+◌, sym, ap, ◌∙◌, subst, arith}
use Rattle.std.specs.Prelude.{slice_get, if◌then◌else◌, is_ok, [], ◌∷◌, ◌++◌}
use Rattle.brick_spec.specs.Item.{item_of}
use Rattle.pcap_io.specs.View.{entry_view}
use Rattle.work_crew.specs.Records.{waits}
use Rattle.work_crew.specs.JobView.{job_view}
use Rattle.work_crew.specs.Ingested.{HasIngested, RefusedBy}
use Rattle.work_crew.proofs.Jobs.{big_is, small_is}
use Rattle.work_crew.proofs.Steps.{big_step, sent_as, refused_step, share_left, as_next}
use Rattle.work_crew.proofs.sending.send_record.Goals as goal

pub returns-then-entry-job-clause-after : goal.returns-then-entry-job-clause-after
returns-then-entry-job-clause-after g c =
    let job = job_view c.args.job.now in
    as_next job c.args.workers c.args.k _ _ (big_step job c.args.workers c.args.k _ _ c.requires.before (big_is job c.args.k (entry_view c.entry-entry.result) c.entry-entry.ensures.entry c.if-entry-job.true))

pub send-requires-clause-of_capture : goal.send-requires-clause-of_capture
send-requires-clause-of_capture g c =
    let a : c.fill-packet.result.a ≡ c.args.k = ap (λ i. i.a) c.fill-packet.ensures.item in
    let at = ap (λ x. slice_get x.entries c.args.k) c.requires.lane.capture ∙ c.entry-entry.ensures.entry in (
      entry_view c.entry-entry.result,
      ap (slice_get (g.K.LaneKit.lane_facts c.args.lane.now).capture.entries) a ∙ at,
      c.fill-packet.ensures.item ∙ ap (λ k. item_of k (entry_view c.entry-entry.result)) (sym a),
    )

pub send-requires-clause-share : goal.send-requires-clause-share
send-requires-clause-share g c =
    let job = job_view c.args.job.now in
    let small = small_is job c.args.k (entry_view c.entry-entry.result) c.entry-entry.ensures.entry (let le = c.if-entry-job.false in omega arith) in
    share_left job c.args.workers c.args.k _ _ c.requires.before small c.worker_for-w.result c.in-Some.buffer.slot c.worker_for-w.ensures.worker c.worker_for-w.ensures.below _ c.in-Some.ensures.given.1
    (g.K.LaneKit.lane_facts c.args.lane.now) c.requires.lane c.requires.there

pub returns-in-Some-clause-after : goal.returns-in-Some-clause-after
returns-in-Some-clause-after g c =
    let job = job_view c.args.job.now in
    let small = small_is job c.args.k (entry_view c.entry-entry.result) c.entry-entry.ensures.entry (let le = c.if-entry-job.false in omega arith) in
    sent_as job c.args.workers c.args.k _ _ c.requires.before small c.worker_for-w.result c.in-Some.buffer.slot c.worker_for-w.ensures.worker c.worker_for-w.ensures.below _ c.in-Some.ensures.given.1
    _ _ _ c.fill-packet.ensures.slot (ap (λ i. i.a) c.fill-packet.ensures.item) c.send.ensures.sent (λ drops. ap (λ f. f.missed) c.send.ensures.sent.same ∙ c.in-Some.ensures.kept drops)

pub returns-in-None-clause-after : goal.returns-in-None-clause-after
returns-in-None-clause-after g c =
    let job = job_view c.args.job.now in
    let small = small_is job c.args.k (entry_view c.entry-entry.result) c.entry-entry.ensures.entry (let le = c.if-entry-job.false in omega arith) in
    let r = subst (λ n. RefusedBy n (waits job.chain.dry) (g.K.LaneKit.ingest_facts c.args.seat.now) (g.K.LaneKit.ingest_facts c.claim_for.new.seat)) c.requires.lane.buffers c.in-None.ensures.refused in
    let items = c.push-done.ensures.items ∙ ap (λ r. if is_ok r then c.args.refused.now.items ++ c.args.k ∷ [] else c.args.refused.now.items) c.unwrap.ensures in
    subst (λ l. HasIngested job c.args.workers (c.args.k + 1) l (g.K.LaneKit.ingest_facts c.claim_for.new.seat)) (sym items)
    (as_next job c.args.workers c.args.k _ _ (refused_step job c.args.workers c.args.k _ _ c.requires.before small (let k = c.ranges.k in omega arith) _ r))
