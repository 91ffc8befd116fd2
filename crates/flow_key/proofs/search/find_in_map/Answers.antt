-- What the map has is a place that a search finds.
use Rattle.std.proofs.Common.{◌∙◌, map, None, Some, arith}
use Rattle.std.proofs.lemmas.List.{length-map}
use Rattle.brick_spec.specs.FlowClass as spec
use Rattle.flow_key.specs.View.{key_view}
use Rattle.flow_key.specs.OpenedView.{opened_view}
use Rattle.flow_key.proofs.Places.{found_within}
use Rattle.flow_key.proofs.search.find_in_map.Goals as goal

pub bounds-flows-number : goal.bounds-flows-number
bounds-flows-number c =
    let there = found_within (spec.has_key (key_view c.key_of.result)) (map opened_view c.args.flows.now) (record { first = None; rank = None; opened = 0 })
    (Some c.in_ok-number.field-0.now) (c.in_ok-number.ensures.value ∙ c.requires c.key_of.result) in
    let same = length-map c.args.flows.now opened_view in
    omega arith

pub returns-clause-within : goal.returns-clause-within
returns-clause-within c =
    let there = found_within (spec.has_key (key_view c.key_of.result)) (map opened_view c.args.flows.now) (record { first = None; rank = None; opened = 0 })
    (Some c.in_ok-number.field-0.now) (c.in_ok-number.ensures.value ∙ c.requires c.key_of.result) in
    let same = length-map c.args.flows.now opened_view in
    omega arith
