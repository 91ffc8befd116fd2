use Rattle.std.proofs.Common.{◌≡◌, ℕ, ◌+◌, [], length, refl, sym, ap, ◌∙◌, subst, arith}
use Rattle.std.proofs.lemmas.List.{length-map, ext_get_or}
use Rattle.lane_spec.specs.Counts.{times, IsEachOnce}
use Rattle.lane_core.specs.Log.{LogModel}
use Rattle.lane_core.specs.View.{pairs_in}
use Rattle.lane_queue.specs.declared.lane.QueueLane.{QueueLane}
use Rattle.lane_queue.specs.declared.lane.QueueIngest.{QueueIngest}
use Rattle.lane_queue.specs.Lists.{in_logs}
use Rattle.lane_queue.specs.Ends.{HasJoined}
use Rattle.lane_queue.proofs.Ends.{ended_from, first_joined}
use Rattle.lane_queue.proofs.lane.QueueLane.shut.Goals as goal

-- all that was sent was received
all_received : (l : QueueLane) (n : ℕ) (i : QueueIngest) → HasJoined l n i → n ≡ length l.shares.items → pairs_in i.received.items ≡ pairs_in i.sent.items
all_received l n i h is = let a = length-map i.received.items (λ (m : LogModel). m.pairs) in let b = length-map i.sent.items (λ (m : LogModel). m.pairs) in let c = h.count in let d = h.long.0 in
    ext_get_or [] (pairs_in i.received.items) (pairs_in i.sent.items) (omega arith) (λ r lt. h.same r (omega arith))

pub join_all-requires-clause-workers : goal.join_all-requires-clause-workers
join_all-requires-clause-workers g c = ended_from _ 0 c.args.workers.items (λ w x at. let r = c.requires.workers w x at in let e : w ≡ 0 + w = omega arith in (r.0, r.1 ∙ e, r.2, r.3))

pub join_all-requires-clause-ingest : goal.join_all-requires-clause-ingest
join_all-requires-clause-ingest g c = first_joined c.args.self c.args.ingest c.requires.ingest.0 c.requires.ingest.1

pub emptied-home-requires-clause-left : goal.emptied-home-requires-clause-left
emptied-home-requires-clause-left g c = λ i. let j = c.join_all.ensures.joined in let s = c.join_all.new.seat in
    let same = ap (in_logs i) (all_received c.args.self _ s j c.requires.count) in let a = j.put i in let b = s.claimed i in
    let held = ap (λ h. times i h.items) c.join_all.ensures.kept.1 ∙ ap (times i) c.requires.ingest.2 in omega arith

pub returns : goal.returns
returns g c = let j = c.join_all.ensures.joined in let k = c.join_all.ensures.kept in record {
  buffers = refl;
  sent = ap (λ s. pairs_in s.items) k.0;
  received = c.join_all.ensures.received;
  missed = k.2;
  whole = record { same = all_received c.args.self _ c.join_all.new.seat j c.requires.count; home = subst (IsEachOnce c.args.self.buffers) (sym c.of.ensures) c.emptied-home.ensures };
}
