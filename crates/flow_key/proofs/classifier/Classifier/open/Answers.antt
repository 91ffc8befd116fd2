-- The maps find the new flow too.
use Rattle.std.proofs.Common.{arith, sym, ◌∙◌, ap, length, map, List, ◌∷◌, ◌++◌, []}
use Rattle.std.specs.Option.{option_map}
use Rattle.std.proofs.lemmas.List.{length_push, length-map, map-append}
use Rattle.brick_spec.specs.FlowClass as spec
use Rattle.tcp_udp.specs.View.{tuple_view}
use Rattle.flow_key.specs.View.{plan_view}
use Rattle.flow_key.specs.OpenedView.{opened_view}
use Rattle.flow_key.specs.declared.opened.Opened.{Opened}
use Rattle.flow_key.specs.Maps.{ClassifierModel}
use Rattle.flow_key.proofs.More.{found_opened, none_same, is_none-map}
use Rattle.flow_key.proofs.classifier.Classifier.open.Goals as goal

pub invariant_of-self-2 : goal.invariant_of-self-2
invariant_of-self-2 c =
    let flows = map opened_view c.self.inside.flows.items in
    let t = option_map tuple_view c.args.tuple in
    let none = none_same (spec.reply_of (option_map plan_view c.self.inside.plan) flows t) (spec.same_key_of flows t) flows t
    (ap (λ (s : ClassifierModel). spec.found_in s.plan s.known.flows t) c.self.view_is ∙ c.requires.none) in
    let stay = c.in_ok-reserve.ensures.items in
    let n = c.count-number.ensures ∙ ap length (c.deref.ensures.value ∙ stay) ∙ sym (length-map c.self.inside.flows.items opened_view) in
    let new = c.by-flow.result in
    let first = ap (λ (o : spec.Opened). o.first) c.by-flow.ensures.flow in
    let rank = ap (λ (o : spec.Opened). o.rank) c.by-flow.ensures.flow ∙ c.put_rank-rank.ensures.rank in
    let more = ap (map opened_view) (c.push_flow.ensures ∙ ap (λ (fs : List Opened). fs ++ new ∷ []) stay) ∙ map-append opened_view c.self.inside.flows.items (new ∷ []) in
    let long = ap length more ∙ length_push flows (opened_view new) in
    let few = c.self.invariant.few in
    record {
      found = found_opened flows (map opened_view c.push_flow.new.flows.items) c.self.inside.keys c.put_key.new.keys c.self.inside.other c.put_key.new.other
          c.self.inside.ranks.items c.reserve-2.new.self.items c.put_rank-rank.new.ranks.items t (opened_view new) c.goes_out-ranked.result c.count-number.result
          c.self.invariant.found first none n c.in_ok-put_key.ensures.keys (c.in_ok-put_key.ensures.other ∙ is_none-map tuple_view c.args.tuple c.count-number.result c.self.inside.other)
          c.in_ok-reserve-2.ensures.items c.put_rank-rank.ensures.ranks rank more;
      few = omega arith;
      counted = let same = ap (λ (s : ClassifierModel). s.known.records) c.self.view_is in let below = c.requires.few in omega arith;
    }
