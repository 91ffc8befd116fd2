-- The places of a chain: what they stand for, and what they need.
use Rattle.std.specs.Prelude.{ℕ, List, [], ◌∷◌, map, vec_capacity}
use Rattle.brick_spec.specs.Flow.{Flow}
use Rattle.brick_spec.specs.Item.{Item}
use Rattle.brick_spec.specs.FlowStage.{FlowInput}
use Rattle.pcap_io.specs.View.{item_view}
use Rattle.batch_ops.specs.Operator.{Meaning}
use Rattle.flow_spec.specs.Parts.{Parts, whole}
use Rattle.flow_work.specs.Meaning as made
use Rattle.flow_work.specs.Node.{ListStands, PipeStands, pipe_makes, fan_makes, fan_results}
use Rattle.chain_nodes.specs.Either.{either_stands, either_makes, either_results, either_serves}
use Rattle.chain_nodes.specs.Fan.{PlacesStand, FanServes}
use Rattle.chain_nodes.specs.Node.{PipeServes}
use Rattle.chain_nodes.specs.declared.either.Either.{Either}
use Rattle.chain_nodes.specs.declared.fan.Fan.{Fan}
use Rattle.chain_nodes.specs.declared.leaf.LeafList.{LeafList}
use Rattle.chain_nodes.specs.declared.pipe.Pipe.{Pipe}
use Rattle.chain_run.specs.declared.places.GroupPlace.{GroupPlace}
use Rattle.chain_run.specs.declared.places.RootPlace.{RootPlace}

abbrev pub list_stands : LeafList → Flow → FlowInput → Parts → Type 0
list_stands l flow came parts = ListStands came parts

abbrev pub list_makes : LeafList → made.Meaning
list_makes l flow came = whole came

abbrev pub list_results : LeafList → List (List Item)
list_results l = map item_view l.items.items ∷ []

abbrev pub list_serves : LeafList → ℕ → ℕ → ℕ → Type 0
list_serves l count bytes free = Unit {0}

module _ {P : Type 0} (m : Meaning P) where
  -- A GROUP WITHOUT GROUPS IN IT, or one in a group

  abbrev pub leaf_stands : Pipe P LeafList → Flow → FlowInput → Parts → Type 0
  leaf_stands t flow came parts = PipeStands m.stands list_stands t.path t.next flow came parts

  abbrev pub leaf_makes : Pipe P LeafList → made.Meaning
  leaf_makes t = pipe_makes m.row list_makes t.path t.next

  abbrev pub leaf_results : Pipe P LeafList → List (List Item)
  leaf_results t = list_results t.next

  abbrev pub leaf_serves : Pipe P LeafList → ℕ → ℕ → ℕ → Type 0
  leaf_serves t count bytes free = PipeServes m.ready m.spares m.least_room list_serves t.path t.next t.waiting.items
      (vec_capacity t.waiting) count bytes free

  -- GROUPS IN A GROUP

  abbrev pub leaves_stand : Fan (Pipe P LeafList) → Flow → FlowInput → Parts → Type 0
  leaves_stand t flow came parts = PlacesStand leaf_stands t.groups t.places.items flow came parts

  abbrev pub leaves_make : Fan (Pipe P LeafList) → made.Meaning
  leaves_make t = fan_makes leaf_makes t.groups t.places.items

  abbrev pub leaves_results : Fan (Pipe P LeafList) → List (List Item)
  leaves_results t = fan_results leaf_results t.places.items

  abbrev pub leaves_serve : Fan (Pipe P LeafList) → ℕ → ℕ → ℕ → Type 0
  leaves_serve t count bytes free = FanServes leaf_serves t.groups t.places.items count bytes free

  -- A GROUP

  abbrev pub below_stands : Either LeafList (Fan (Pipe P LeafList)) → Flow → FlowInput → Parts → Type 0
  below_stands = either_stands list_stands leaves_stand

  abbrev pub below_makes : Either LeafList (Fan (Pipe P LeafList)) → made.Meaning
  below_makes = either_makes list_makes leaves_make

  abbrev pub below_results : Either LeafList (Fan (Pipe P LeafList)) → List (List Item)
  below_results = either_results list_results leaves_results

  abbrev pub below_serves : Either LeafList (Fan (Pipe P LeafList)) → ℕ → ℕ → ℕ → Type 0
  below_serves = either_serves list_serves leaves_serve

  -- where it has stages
  abbrev pub staged_stands : Pipe P (Either LeafList (Fan (Pipe P LeafList))) → Flow → FlowInput → Parts → Type 0
  staged_stands t flow came parts = PipeStands m.stands below_stands t.path t.next flow came parts

  abbrev pub staged_makes : Pipe P (Either LeafList (Fan (Pipe P LeafList))) → made.Meaning
  staged_makes t = pipe_makes m.row below_makes t.path t.next

  abbrev pub staged_results : Pipe P (Either LeafList (Fan (Pipe P LeafList))) → List (List Item)
  staged_results t = below_results t.next

  abbrev pub staged_serves : Pipe P (Either LeafList (Fan (Pipe P LeafList))) → ℕ → ℕ → ℕ → Type 0
  staged_serves t count bytes free = PipeServes m.ready m.spares m.least_room below_serves t.path t.next t.waiting.items
      (vec_capacity t.waiting) count bytes free

  abbrev pub group_stands : GroupPlace P → Flow → FlowInput → Parts → Type 0
  group_stands t = either_stands below_stands staged_stands t.place

  abbrev pub group_makes : GroupPlace P → made.Meaning
  group_makes t = either_makes below_makes staged_makes t.place

  abbrev pub group_results : GroupPlace P → List (List Item)
  group_results t = either_results below_results staged_results t.place

  abbrev pub group_serves : GroupPlace P → ℕ → ℕ → ℕ → Type 0
  group_serves t = either_serves below_serves staged_serves t.place

  -- THE CHAIN

  abbrev pub groups_stand : Fan (GroupPlace P) → Flow → FlowInput → Parts → Type 0
  groups_stand t flow came parts = PlacesStand group_stands t.groups t.places.items flow came parts

  abbrev pub groups_make : Fan (GroupPlace P) → made.Meaning
  groups_make t = fan_makes group_makes t.groups t.places.items

  abbrev pub groups_results : Fan (GroupPlace P) → List (List Item)
  groups_results t = fan_results group_results t.places.items

  abbrev pub groups_serve : Fan (GroupPlace P) → ℕ → ℕ → ℕ → Type 0
  groups_serve t count bytes free = FanServes group_serves t.groups t.places.items count bytes free

  abbrev pub root_stands : RootPlace P → Flow → FlowInput → Parts → Type 0
  root_stands t flow came parts = PipeStands m.stands groups_stand t.place.path t.place.next flow came parts

  abbrev pub root_makes : RootPlace P → made.Meaning
  root_makes t = pipe_makes m.row groups_make t.place.path t.place.next

  abbrev pub root_results : RootPlace P → List (List Item)
  root_results t = groups_results t.place.next

  abbrev pub root_serves : RootPlace P → ℕ → ℕ → ℕ → Type 0
  root_serves t count bytes free = PipeServes m.ready m.spares m.least_room groups_serve t.place.path t.place.next
      t.place.waiting.items (vec_capacity t.place.waiting) count bytes free
