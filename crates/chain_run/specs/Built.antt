-- Places that are built of a chain.
use Rattle.std.specs.Prelude.{ℕ, ◌≡◌, ◌≤◌, List, [], ◌∷◌, ◌++◌, length, map, Option}
use Rattle.std.specs.List.{AllByRecursion, sum_by}
use Rattle.brick_spec.specs.Flow.{Flow}
use Rattle.brick_spec.specs.FlowClass.{NatPlan}
use Rattle.brick_spec.specs.FlowStage.{FlowStage, nothing}
use Rattle.batch_ops.specs.Operator.{Meaning}
use Rattle.flow_spec.specs.Plan.{GroupPlan, leaf_count, leaves_below, flow_meaning}
use Rattle.chain_spec.specs.ChainSet as chains
use Rattle.chain_spec.specs.ChainSet.{windows_in}
use Rattle.tenant_spec.specs.ChainPlan.{row_of, leaf_plan, below_plan, group_plan, plan_of}
use Rattle.chain_nodes.specs.PlanOf as places
use Rattle.chain_nodes.specs.Work.{IsNewNode, none_came}
use Rattle.chain_nodes.specs.declared.either.Either.{Either}
use Rattle.chain_nodes.specs.declared.fan.Fan.{Fan}
use Rattle.chain_nodes.specs.declared.leaf.LeafList.{LeafList}
use Rattle.chain_nodes.specs.declared.pipe.Pipe.{Pipe}
use Rattle.chain_run.specs.declared.places.GroupPlace.{GroupPlace}
use Rattle.chain_run.specs.declared.places.RootPlace.{RootPlace}
use Rattle.chain_run.specs.Sound.{IsBareLeaf, IsBareBelow, IsBareGroup}
use Rattle.chain_run.specs.Tree.{leaf_stands, leaf_results, leaf_serves, leaves_stand, leaves_results, leaves_serve}
use Rattle.chain_run.specs.Tree.{below_stands, below_results, below_serves, group_stands, group_results, group_serves}
use Rattle.chain_run.specs.Tree.{groups_stand, groups_results, groups_serve, root_stands, root_results, root_serves}
use Rattle.chain_run.specs.Tree.{root_makes}

-- what the places of groups have in them
abbrev pub group_nodes : {P : Type 0} → List (GroupPlace P) → List (places.GroupNode P)
group_nodes ts = map (λ (t : GroupPlace _). t.place) ts

-- one for one
abbrev pub AreBuilt : {X T : Type 0} → (X → T → Type 0) → List X → List T → Type 0
AreBuilt R [] [] = Unit {0}
AreBuilt R (x ∷ xs) (t ∷ ts) = R x t × AreBuilt R xs ts
AreBuilt R xs ts = ⊥

module _ {P : Type 0} (m : Meaning P) (nat : Option NatPlan) (count bytes : ℕ) where
  -- a path of stages to which nothing came
  pub record IsPath (before : List FlowStage) (stages : List chains.Stage) (p : P) : Type 0 where
    pub row : m.row p ≡ (λ flow. before ++ row_of nat stages flow)
    pub begins : (f : Flow) → m.stands p f none_came nothing
    pub ready : m.ready p
    pub few : m.spares p ≤ count
    pub room : m.least_room p ≤ bytes
    pub bare : windows_in stages ≡ 0 → m.spares p ≡ 0

  pub record LeafBuilt (l : chains.Leaf) (t : Pipe P LeafList) : Type 0 where
    pub row : m.row t.path ≡ row_of nat l.stages
    pub new : IsNewNode (leaf_stands m) (leaf_results m) t
    pub serves : leaf_serves m t count bytes count
    pub bare : IsBareLeaf l → leaf_serves m t count bytes 0

  pub record LeavesBuilt (ls : List chains.Leaf) (f : Fan (Pipe P LeafList)) : Type 0 where
    pub plans : places.leaf_plans m.row f.groups f.places.items ≡ map (leaf_plan nat) ls
    pub new : IsNewNode (leaves_stand m) (leaves_results m) f
    pub serves : leaves_serve m f count bytes count
    pub bare : AllByRecursion IsBareLeaf ls → leaves_serve m f count bytes 0
    pub many : length (leaves_results m f) ≡ length ls

  pub record BelowBuilt (b : chains.Below) (t : Either LeafList (Fan (Pipe P LeafList))) : Type 0 where
    pub plan : places.below_plan m.row t ≡ below_plan nat b
    pub new : IsNewNode (below_stands m) (below_results m) t
    pub serves : below_serves m t count bytes count
    pub bare : IsBareBelow b → below_serves m t count bytes 0
    pub many : length (below_results m t) ≡ leaves_below (below_plan nat b)

  pub record GroupBuilt (g : chains.Group) (t : GroupPlace P) : Type 0 where
    pub row : places.group_row m.row t.place ≡ row_of nat g.stages
    pub below : places.group_below m.row t.place ≡ below_plan nat g.below
    pub new : IsNewNode (group_stands m) (group_results m) t
    pub serves : group_serves m t count bytes count
    pub bare : IsBareGroup g → group_serves m t count bytes 0
    pub many : length (group_results m t) ≡ leaves_below (below_plan nat g.below)

  pub record GroupsBuilt (gs : List chains.Group) (f : Fan (GroupPlace P)) : Type 0 where
    pub plans : places.group_plans m.row f.groups (group_nodes f.places.items) ≡ map (group_plan nat) gs
    pub new : IsNewNode (groups_stand m) (groups_results m) f
    pub serves : groups_serve m f count bytes count
    pub bare : AllByRecursion IsBareGroup gs → groups_serve m f count bytes 0
    pub many : length (groups_results m f) ≡ sum_by (λ (g : GroupPlan). leaves_below g.below) (map (group_plan nat) gs)

-- the root of a chain, beside so many spare buffers of so many bytes, which lie ready
pub record RootBuilt {P : Type 0} (m : Meaning P) (count bytes : ℕ) (chain : chains.Chain)
    (t : RootPlace P) : Type 0 where
  pub follows : root_makes m t ≡ flow_meaning (plan_of chain)
  pub many : length (root_results m t) ≡ leaf_count (plan_of chain)
  pub new : IsNewNode (root_stands m) (root_results m) t
  pub serves : root_serves m t count bytes count
