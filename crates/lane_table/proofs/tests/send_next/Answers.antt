use Rattle.std.proofs.Common.{◌≡◌, ℕ, ap, length, arith}
use Rattle.std.specs.Prelude.{slice_index}
use Rattle.lane_core.specs.Seats.{IngestFacts, IngestBecomes, with_claim}
use Rattle.lane_core.specs.Alone.{HasClaimed}
use Rattle.lane_core.proofs.Turns.{next_rises, sent_length, sent_next}
use Rattle.lane_table.proofs.tests.send_next.Goals as goal

claimed : (slot : ℕ) (old new : IngestFacts) → IngestBecomes (with_claim slot old) new → HasClaimed slot old new
claimed slot old new b = record { held = ap (λ f. f.held) b.same; sent = ap (λ f. f.sent) b.same; finished = ap (λ f. f.finished) b.same }

pub send-requires-clause-rising : goal.send-requires-clause-rising
send-requires-clause-rising c = next_rises c.args.k _ _ _ c.requires.sent (claimed _ _ _ c.in-Some.ensures.given) _ (ap (λ i. i.a) c.fill-packet.ensures.item)

pub send-requires-clause-share : goal.send-requires-clause-share
send-requires-clause-share c =
    let sent = sent_length c.args.k _ _ _ c.requires.sent (claimed _ _ _ c.in-Some.ensures.given) in
    let share : slice_index c.args.lane.now.table.shared.key.shares.value.items 0 ≡ length c.args.capture.now.entries = ap (λ l. slice_index l 0) c.requires.lane.2 in
    let there = c.requires.there in omega arith

pub returns-clause-sent : goal.returns-clause-sent
returns-clause-sent c = sent_next c.args.k _ _ _ c.requires.sent (claimed _ _ _ c.in-Some.ensures.given) _ _ _ c.fill-packet.ensures.slot (ap (λ i. i.a) c.fill-packet.ensures.item) c.send.ensures.sent
