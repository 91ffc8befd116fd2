use Rattle.std.proofs.Common.{ap, arith}
use Rattle.std.proofs.lemmas.List.{length-map}
use Rattle.lane_core.specs.Log.{LogModel}
use Rattle.lane_queue.proofs.Turns.{still_below, still_few, sent_more}
use Rattle.lane_queue.proofs.tests.send_next.Goals as goal

pub send-requires-clause-rising : goal.send-requires-clause-rising
send-requires-clause-rising g c = still_below c.args.k _ c.args.w _ _ c.requires.sent c.in-Some.ensures.given _ (ap (λ i. i.a) c.fill-packet.ensures.item)

pub send-requires-clause-share : goal.send-requires-clause-share
send-requires-clause-share g c = let few = still_few c.args.k _ c.args.w _ _ c.requires.sent c.in-Some.ensures.given in let share = c.requires.share.1 in let there = c.requires.there in omega arith

pub returns-clause-sent : goal.returns-clause-sent
returns-clause-sent g c = sent_more c.args.k _ c.args.w _ _ c.requires.sent c.in-Some.ensures.given _
    (let a = c.requires.share.0 in let b = c.requires.own.count.0 in let m = length-map c.args.seat.now.sent.items (λ (y : LogModel). y.pairs) in omega arith)
    _ _ c.fill-packet.ensures.slot (ap (λ i. i.a) c.fill-packet.ensures.item) c.send.ensures.sent
