use Rattle.std.proofs.Common.{◌≡◌, ℕ, ap, ◌∙◌, sym, subst, length, List, ◌∷◌, [], false, true, arith}
use Rattle.std.proofs.lemmas.List.{length-append}
use Rattle.brick_spec.specs.Capture.{Contents}
use Rattle.packet_owner.specs.Packet.{PacketModel}
use Rattle.lane_core.specs.Seats.{IsRecord}
use Rattle.batch_ops.specs.declared.batch.Work.{Work}
use Rattle.work_crew.specs.Records.{class_in}
use Rattle.work_crew.specs.JobView.{job_view}
use Rattle.work_crew.specs.Worked.{HasGathered}
use Rattle.work_crew.proofs.Serves.{gathered_more}
use Rattle.work_crew.proofs.serving.gather.Goals as goal

pub each-preserved : goal.each-preserved
each-preserved g c =
    let p : PacketModel = c.in-Packet.packet in
    let job = job_view c.args.job.now in
    let e = c.in-Packet.ensures.packet in
    let r = c.in-Packet.ensures.received in
    let number : c.key-number.result.0 ≡ p.a = ap (λ (k : ℕ × ℕ). k.0) c.key-number.ensures in
    let w : Work = record { class = c.class_for-class.result; packet = p } in
    let more = gathered_more job (g.K.LaneKit.lane_facts c.args.lane.now).bytes (g.K.LaneKit.worker_facts c.args.seat.now) (g.K.LaneKit.worker_facts c.each.seat) c.each.batch c.each.invariant.gathered
    (g.K.LaneKit.worker_facts c.receive.new.seat) p c.class_for-class.result e.0 (subst (λ (x : Contents). IsRecord x p.a p) c.requires.capture e.1) (let below = c.in-Packet.ensures.slot in omega arith)
    (c.class_for-class.ensures ∙ ap (class_in job) number) r in
    record {
      own = c.receive.ensures.own;
      gathered = subst (λ (l : List Work). HasGathered job (g.K.LaneKit.lane_facts c.args.lane.now).bytes (g.K.LaneKit.worker_facts c.args.seat.now) (g.K.LaneKit.worker_facts c.receive.new.seat) l false) (sym c.push.ensures) more;
      few = let f = c.each.invariant.few in let n = ap (λ (l : List Work). length l) c.push.ensures ∙ length-append c.each.batch (w ∷ []) in omega arith;
      given_back = λ idle. absurd (let t : false ≡ true = sym (ap (λ f. f.idle) r.same) ∙ idle in cc);
    }
