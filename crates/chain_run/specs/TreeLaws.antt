-- Laws of the places of a chain that stand in ghost members: what they stand for is what they make, and more spare
-- buffers do no harm.
use Rattle.std.specs.Prelude.{ℕ, ◌≤◌, List, map, vec_capacity}
use Rattle.brick_spec.specs.Flow.{Flow}
use Rattle.brick_spec.specs.Item.{Item}
use Rattle.brick_spec.specs.FlowStage.{FlowInput}
use Rattle.pcap_io.specs.View.{item_view}
use Rattle.batch_ops.specs.Operator.{Meaning}
use Rattle.batch_ops.specs.Stage.{MeansStages}
use Rattle.flow_spec.specs.Parts.{Parts}
use Rattle.flow_work.specs.Meaning as made
use Rattle.flow_work.specs.Node.{IsNode}
use Rattle.flow_work.proofs.Nodes.{list_node, piped_node}
use Rattle.chain_nodes.specs.Either.{either_node, either_more}
use Rattle.chain_nodes.specs.Fan.{fan_node, fan_more}
use Rattle.chain_nodes.specs.NodeLaws.{pipe_more}
use Rattle.chain_nodes.specs.declared.fan.Fan.{Fan}
use Rattle.chain_nodes.specs.declared.either.Either.{Either}
use Rattle.chain_nodes.specs.declared.leaf.LeafList.{LeafList}
use Rattle.chain_nodes.specs.declared.pipe.Pipe.{Pipe}
use Rattle.chain_run.specs.declared.places.GroupPlace.{GroupPlace}
use Rattle.chain_run.specs.declared.places.RootPlace.{RootPlace}
use Rattle.chain_run.specs.Tree.{list_stands, list_makes, list_results, list_serves, leaf_stands, leaf_makes}
use Rattle.chain_run.specs.Tree.{leaf_results, leaf_serves, leaves_stand, leaves_make, leaves_results, leaves_serve}
use Rattle.chain_run.specs.Tree.{below_stands, below_makes, below_results, below_serves, staged_stands, staged_makes}
use Rattle.chain_run.specs.Tree.{staged_results, staged_serves, group_stands, group_makes, group_results, group_serves}
use Rattle.chain_run.specs.Tree.{groups_stand, groups_make, groups_results, groups_serve, root_stands, root_makes}
use Rattle.chain_run.specs.Tree.{root_results, root_serves}

-- a place that has one place in it, and is as that
inside_node : {T N : Type 0} (inside : T → N) (stands : N → Flow → FlowInput → Parts → Type 0) (makes : N
    → made.Meaning) (results : N → List (List Item)) → IsNode stands makes results
    → IsNode (λ (t : T). stands (inside t)) (λ t. makes (inside t)) (λ t. results (inside t))
inside_node inside stands makes results node = record {
  means = λ t. node.means (inside t);
  many = λ t. node.many (inside t);
}

module _ {P : Type 0} (m : Meaning P) (rows : MeansStages m) where
  leaf_node : IsNode (leaf_stands m) (leaf_makes m) (leaf_results m)
  leaf_node =
      piped_node m.stands m.row list_stands list_makes list_results (λ (t : Pipe P LeafList). t.path) (λ t. t.next) rows
      (list_node (λ (l : LeafList). map item_view l.items.items))

  below_node : IsNode (below_stands m) (below_makes m) (below_results m)
  below_node =
      either_node list_stands list_makes list_results (list_node (λ (l : LeafList). map item_view l.items.items))
      (leaves_stand m) (leaves_make m) (leaves_results m)
      (fan_node (leaf_stands m) (leaf_makes m) (leaf_results m) (λ (t : Fan (Pipe P LeafList)). t.groups)
      (λ t. t.places.items) leaf_node)

  staged_node : IsNode (staged_stands m) (staged_makes m) (staged_results m)
  staged_node =
      piped_node m.stands m.row (below_stands m) (below_makes m) (below_results m)
      (λ (t : Pipe P (Either LeafList (Fan (Pipe P LeafList)))). t.path) (λ t. t.next) rows below_node

  pub group_node : IsNode (group_stands m) (group_makes m) (group_results m)
  group_node =
      inside_node (λ (t : GroupPlace P). t.place) _ _ _
      (either_node (below_stands m) (below_makes m) (below_results m) below_node (staged_stands m) (staged_makes m)
      (staged_results m) staged_node)

  pub root_node : IsNode (root_stands m) (root_makes m) (root_results m)
  root_node =
      piped_node m.stands m.row (groups_stand m) (groups_make m) (groups_results m) (λ (t : RootPlace P). t.place.path)
      (λ t. t.place.next) rows
      (fan_node (group_stands m) (group_makes m) (group_results m) (λ (t : Fan (GroupPlace P)). t.groups)
      (λ t. t.places.items) group_node)

-- more spare buffers do no harm
abbrev MoreServes : {N : Type 0} → (N → ℕ → ℕ → ℕ → Type 0) → Type 0
MoreServes serves = (n : _) (count bytes free all : ℕ) → free ≤ all → serves n count bytes free
    → serves n count bytes all

module _ {P : Type 0} (m : Meaning P) where
  list_more : MoreServes list_serves
  list_more l count bytes free all fits was = was

  leaf_more : MoreServes (leaf_serves m)
  leaf_more t count bytes free all fits was =
      pipe_more m.ready m.spares m.least_room list_serves list_more t.path t.next t.waiting.items
      (vec_capacity t.waiting) count bytes free all fits was

  leaves_more : MoreServes (leaves_serve m)
  leaves_more t count bytes free all fits was =
      fan_more (leaf_serves m) leaf_more t.groups t.places.items count bytes free all fits was

  below_more : MoreServes (below_serves m)
  below_more = either_more list_serves list_more (leaves_serve m) leaves_more

  staged_more : MoreServes (staged_serves m)
  staged_more t count bytes free all fits was =
      pipe_more m.ready m.spares m.least_room (below_serves m) below_more t.path t.next t.waiting.items
      (vec_capacity t.waiting) count bytes free all fits was

  pub group_more : MoreServes (group_serves m)
  group_more t = either_more (below_serves m) below_more (staged_serves m) staged_more t.place

  groups_more : MoreServes (groups_serve m)
  groups_more t count bytes free all fits was =
      fan_more (group_serves m) group_more t.groups t.places.items count bytes free all fits was

  pub root_more : MoreServes (root_serves m)
  root_more t count bytes free all fits was =
      pipe_more m.ready m.spares m.least_room (groups_serve m) groups_more t.place.path t.place.next
      t.place.waiting.items (vec_capacity t.place.waiting) count bytes free all fits was
