-- The one flow with the rank, or none.
use Rattle.std.proofs.Common.{Some, None, ◌<◌, sym, ap, ◌∙◌, length, get_or, map, arith, refl}
use Rattle.std.proofs.lemmas.List.{length-map}
use Rattle.std.proofs.lemmas.Option.{slice_get-get_or, same_Some, none-some}
use Rattle.brick_spec.specs.FlowClass as spec
use Rattle.tcp_udp.specs.View.{tuple_view}
use Rattle.flow_key.specs.View.{plan_view}
use Rattle.flow_key.specs.OpenedView.{opened_view}
use Rattle.flow_key.proofs.Places.{no_flow, one_flow, failed_flow, reply_has_rank}
use Rattle.flow_key.proofs.Views.{flow_viewed}
use Rattle.flow_key.proofs.search.reply_in.Goals as goal

pub bounds-flows-number : goal.bounds-flows-number
bounds-flows-number c =
    let there = (c.requires.here c.in-Some.rank _ (slice_get-get_or c.args.ranks.now c.in-Some.rank 0 c.if-rank-ranks.false)).0 in
    let same = length-map c.args.flows.now opened_view in
    omega arith

pub returns-then-is_reply-clause-reply : goal.returns-then-is_reply-clause-reply
returns-then-is_reply-clause-reply c =
    let there = (c.requires.here c.in-Some.rank _ (slice_get-get_or c.args.ranks.now c.in-Some.rank 0 c.if-rank-ranks.false)).0 in
    let same = length-map c.args.flows.now opened_view in
    let within : get_or c.args.ranks.now c.in-Some.rank 0 < length c.args.flows.now = omega arith in
    let test = spec.is_reply (plan_view c.args.plan.now) (tuple_view c.args.tuple.now) in
    sym (one_flow test (Some c.in-Some.rank) c.in-Some.ensures (map opened_view c.args.flows.now) c.args.ranks.now c.requires
    c.in-Some.rank _ refl (slice_get-get_or c.args.ranks.now c.in-Some.rank 0 c.if-rank-ranks.false) (ap test (flow_viewed c.args.flows.now _ c.index-flows-number.result c.index-flows-number.is within) ∙ sym c.if-is_reply.ensures))

pub returns-else-is_reply-clause-reply : goal.returns-else-is_reply-clause-reply
returns-else-is_reply-clause-reply c =
    let there = (c.requires.here c.in-Some.rank _ (slice_get-get_or c.args.ranks.now c.in-Some.rank 0 c.if-rank-ranks.false)).0 in
    let same = length-map c.args.flows.now opened_view in
    let within : get_or c.args.ranks.now c.in-Some.rank 0 < length c.args.flows.now = omega arith in
    let test = spec.is_reply (plan_view c.args.plan.now) (tuple_view c.args.tuple.now) in
    sym (failed_flow test (Some c.in-Some.rank) c.in-Some.ensures (map opened_view c.args.flows.now) c.args.ranks.now c.requires
    c.in-Some.rank _ refl (slice_get-get_or c.args.ranks.now c.in-Some.rank 0 c.if-rank-ranks.false) (ap test (flow_viewed c.args.flows.now _ c.index-flows-number.result c.index-flows-number.is within) ∙ sym c.if-is_reply.ensures))

pub returns-then-rank-ranks-clause-reply : goal.returns-then-rank-ranks-clause-reply
returns-then-rank-ranks-clause-reply c =
    sym (no_flow (spec.is_reply (plan_view c.args.plan.now) (tuple_view c.args.tuple.now)) (Some c.in-Some.rank) c.in-Some.ensures (map opened_view c.args.flows.now) c.args.ranks.now c.requires
    (λ r e. let same = same_Some c.in-Some.rank r e in omega arith) (reply_has_rank (plan_view c.args.plan.now) (tuple_view c.args.tuple.now)))

pub returns-in-None-clause-reply : goal.returns-in-None-clause-reply
returns-in-None-clause-reply c =
    sym (no_flow (spec.is_reply (plan_view c.args.plan.now) (tuple_view c.args.tuple.now)) None c.in-None.ensures (map opened_view c.args.flows.now) c.args.ranks.now c.requires
    (λ r e. absurd (none-some r e)) (reply_has_rank (plan_view c.args.plan.now) (tuple_view c.args.tuple.now)))

pub returns-then-is_reply-clause-within : goal.returns-then-is_reply-clause-within
returns-then-is_reply-clause-within c =
    let there = (c.requires.here c.in-Some.rank _ (slice_get-get_or c.args.ranks.now c.in-Some.rank 0 c.if-rank-ranks.false)).0 in
    let same = length-map c.args.flows.now opened_view in
    omega arith
