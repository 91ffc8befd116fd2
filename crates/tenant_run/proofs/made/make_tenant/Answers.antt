use Rattle.std.proofs.Common.{◌≡◌, [], length, ap, sym, ◌∙◌, arith}
use Rattle.chain_types.specs.View.{chain_view}
use Rattle.tenant_spec.specs.Records.{accepted_items}
use Rattle.tenant_spec.specs.Tenant.{output_lists}
use Rattle.work_core.specs.Result.{items_view}
use Rattle.tenant_run.proofs.InOrder.{big_all, accepted_all}
use Rattle.tenant_run.specs.Made.{accepted_upto, big_upto}
use Rattle.tenant_run.proofs.Making.{many_groups, the_drops, answered, long_map}
use Rattle.tenant_run.proofs.made.make_tenant.Goals as goal

pub end-requires-clause-ready : goal.end-requires-clause-ready
end-requires-clause-ready g c = (c.in_ok-take_turn.ensures.carries _ c.loop-k.invariant.carried).usable

pub end-requires-clause-open_work : goal.end-requires-clause-open_work
end-requires-clause-open_work g c = (c.in_ok-take_turn.ensures.carries _ c.loop-k.invariant.carried).open_work

pub join_outputs-requires : goal.join_outputs-requires
join_outputs-requires g c =
    let w = g.W.ChainWork in
    let chain = chain_view c.args.chain.now in
    let cap = c.args.capture.now in
    let still = c.loop-k-test.false in
    let up = c.loop-k.auto.k-end in
    let count = c.count-k-end.ensures in
    let at : c.loop-k.k ≡ length cap.entries = omega (arith, still, up, count) in
    let is = answered w.follows w.stands w.finished w.ended w.broken w.answer c.answers_mean.ensures chain cap c.take_turn.new.turns c.end.new.self c.loop-k.k c.count.result c.in_ok-result.result
    at c.count.ensures (c.in_ok-take_turn.ensures.waits (accepted_upto chain cap c.loop-k.k) c.loop-k.invariant.came) c.in_ok-take_turn.ensures.empty
    (c.in_ok-take_turn.ensures.same _ c.loop-k.invariant.plan) c.end.ensures c.in_ok-result.ensures.failed c.in_ok-result.ensures.answer c.chains_own_keys.ensures in
    sym (long_map (λ v. items_view v) c.in_ok-result.result.groups.items) ∙ (ap (λ a. length a.groups) is ∙ many_groups chain (accepted_items chain [] cap) (length cap.entries))

pub returns : goal.returns
returns g c =
    let w = g.W.ChainWork in
    let chain = chain_view c.args.chain.now in
    let cap = c.args.capture.now in
    let still = c.loop-k-test.false in
    let up = c.loop-k.auto.k-end in
    let count = c.count-k-end.ensures in
    let at : c.loop-k.k ≡ length cap.entries = omega (arith, still, up, count) in
    let is = answered w.follows w.stands w.finished w.ended w.broken w.answer c.answers_mean.ensures chain cap c.take_turn.new.turns c.end.new.self c.loop-k.k c.count.result c.in_ok-result.result
    at c.count.ensures (c.in_ok-take_turn.ensures.waits (accepted_upto chain cap c.loop-k.k) c.loop-k.invariant.came) c.in_ok-take_turn.ensures.empty
    (c.in_ok-take_turn.ensures.same _ c.loop-k.invariant.plan) c.end.ensures c.in_ok-result.ensures.failed c.in_ok-result.ensures.answer c.chains_own_keys.ensures in
    record {
      accepted = c.loop-k.invariant.counted.accepted ∙ ap length (ap (λ m. accepted_upto chain cap m) at ∙ accepted_all chain cap);
      refused_are = c.of.ensures ∙ c.new-4.ensures.items;
      drops = the_drops chain cap c.in_ok-result.result.drops c.in_ok-with_big.field-0 c.loop-k.counts.big (ap (λ a. a.drops) is)
          (c.loop-k.invariant.counted.big ∙ ap length (ap (λ m. big_upto chain cap m) at ∙ big_all chain cap)) c.in_ok-with_big.ensures;
      outputs = c.in_ok-join_outputs.ensures ∙ ap (λ a. output_lists chain a.groups) is;
    }
