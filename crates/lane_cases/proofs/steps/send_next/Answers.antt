use Rattle.std.proofs.Common.{◌≡◌, ℕ, zero, suc, ◌<◌, [], ◌∷◌, length, get_or, refl, ap, ◌∙◌, arith}
use Rattle.std.proofs.lemmas.List.{length-set}
use Rattle.lane_queue.proofs.Turns.{still_below, still_few, sent_more}
use Rattle.lane_cases.proofs.steps.send_next.Goals as goal

two_shares : (n w : ℕ) → w < 2 → get_or (n ∷ n ∷ []) w 0 ≡ n
two_shares n zero lt = refl
two_shares n (suc zero) lt = refl
two_shares n (suc (suc w)) lt = absurd (omega arith)

pub send-requires-clause-rising : goal.send-requires-clause-rising
send-requires-clause-rising g c = still_below c.args.k _ c.args.w _ _ c.requires.sent.sent c.in-Some.ensures.given _ (ap (λ i. i.a) c.fill-packet.ensures.item)

pub send-requires-clause-share : goal.send-requires-clause-share
send-requires-clause-share g c = let few = still_few c.args.k _ c.args.w _ _ c.requires.sent.sent c.in-Some.ensures.given in let n : ℕ = length c.args.capture.now.entries in
    let share = ap (λ l. get_or l c.args.w 0) c.requires.shares in let two = two_shares n c.args.w c.requires.worker in let there = c.requires.there in omega arith

pub returns-clause-sent : goal.returns-clause-sent
returns-clause-sent g c = λ _. record {
  sent = sent_more c.args.k _ c.args.w _ _ c.requires.sent.sent c.in-Some.ensures.given _ (let w = c.requires.worker in let t = c.requires.sent.two in omega arith)
      _ _ c.fill-packet.ensures.slot (ap (λ i. i.a) c.fill-packet.ensures.item) c.send.ensures.sent;
  two = ap (λ f. length f.sent) c.send.ensures.sent.same ∙ length-set _ c.args.w _ ∙ ap (λ f. length f.sent) c.in-Some.ensures.given.same ∙ c.requires.sent.two;
}
