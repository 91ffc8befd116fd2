-- Groups, and the whole chain.
use Rattle.std.proofs.Common.{◌≡◌, ℕ, ◌+◌, ◌<◌, List, [], ◌∷◌, map, length, Option, Result, Ok, Err, IfOk, ◌⊎◌, inl, inr, refl, ap, sym, subst, ◌∙◌, arith, vec_capacity, length-append}
use Rattle.std.proofs.lemmas.List.{length-map}
use Rattle.std.proofs.lemmas.List.Sums.{sum_by-cons}
use Rattle.std.specs.List.{sum_by}
use Rattle.brick_spec.specs.Flow.{Flow}
use Rattle.brick_spec.specs.FlowClass.{NatPlan}
use Rattle.brick_spec.specs.Match.{Match}
use Rattle.brick_base.specs.declared.memory.NoMemory.{NoMemory}
use Rattle.batch_ops.specs.Operator.{Meaning}
use Rattle.flow_spec.specs.Parts.{shared, staged_by}
use Rattle.flow_spec.specs.Plan.{GroupPlan, leaves_below, takes_by, flow_meaning}
use Rattle.flow_work.specs.Meaning as made
use Rattle.flow_work.specs.Node.{fan_parts, fan_results}
use Rattle.chain_spec.specs.ChainSet as chains
use Rattle.chain_spec.specs.ChainSet.{windows_in}
use Rattle.tenant_spec.specs.ChainPlan.{row_of, before_stages, group_plan}
use Rattle.chain_nodes.proofs.Plans.{groups_are}
use Rattle.chain_nodes.specs.Either.{either_makes}
use Rattle.chain_nodes.specs.NewNodes.{pipe_new, fan_new}
use Rattle.chain_nodes.specs.PlanOf as places
use Rattle.chain_nodes.specs.declared.either.Either.{Either}
use Rattle.chain_nodes.specs.declared.either.Either.TheVariants.{First, Second}
use Rattle.chain_nodes.specs.declared.fan.Fan.{Fan}
use Rattle.chain_nodes.specs.declared.leaf.LeafList.{LeafList}
use Rattle.chain_nodes.specs.declared.pipe.Pipe.{Pipe}
use Rattle.chain_run.specs.Sound.{IsGroupSound, IsChainSound, IsBareGroup}
use Rattle.chain_run.specs.declared.places.GroupPlace.{GroupPlace}
use Rattle.chain_run.specs.declared.places.RootPlace.{RootPlace}
use Rattle.chain_run.specs.Tree.{below_stands, below_makes, below_results, below_serves, staged_makes, group_stands, group_results, group_serves, groups_stand, groups_results, groups_serve, root_makes}
use Rattle.chain_run.specs.Built.{group_nodes, AreBuilt, IsPath, BelowBuilt, GroupBuilt, GroupsBuilt, RootBuilt}
use Rattle.chain_run.proofs.Grown.{built_long, built_each, built_where}
use Rattle.chain_run.proofs.Ways.{way_serves, way_bare, below_bare, groups_bare, none_or}

module _ {P : Type 0} (m : Meaning P) (nat : Option NatPlan) (count bytes : ℕ) where
  pub group_made : (g : chains.Group) (p : P) (b : Either LeafList (Fan (Pipe P LeafList))) (r : Result (Pipe P (Either LeafList (Fan (Pipe P LeafList)))) NoMemory) → IsGroupSound nat count bytes 0 g
      → IsPath m nat count bytes [] g.stages p → BelowBuilt m nat count bytes g.below b
      → IfOk r (λ t. t.path ≡ p) → IfOk r (λ t. t.next ≡ b) → IfOk r (λ t. t.waiting.items ≡ []) → IfOk r (λ t. count < vec_capacity t.waiting) → IfOk r (λ t. GroupBuilt m nat count bytes g (record { place = Second t }))
  group_made g p b (Err e) sound path below hp hn hw hr = tt
  group_made g p b (Ok t) sound path' below' hp hn hw hr =
      let path = subst (IsPath m nat count bytes [] g.stages) (sym hp) path' in
      let below = subst (BelowBuilt m nat count bytes g.below) (sym hn) below' in
      let one = plain path below (none_or (windows_in g.stages)) in
      let new = pipe_new m.stands (below_stands m) (below_results m) (λ (u : Pipe P (Either LeafList (Fan (Pipe P LeafList)))). u.path) (λ u. u.next) t path.begins below.new in
      record {
        row = path.row;
        below = below.plan;
        new = record { nothing = new.nothing; empty = new.empty };
        serves = way_serves m nat count bytes (below_serves m) [] g.stages t.path t.next t.waiting.items (vec_capacity t.waiting) path hw hr one below.serves;
        bare = λ h. way_bare m nat count bytes (below_serves m) [] g.stages t.path t.next t.waiting.items (vec_capacity t.waiting) path hw hr h.0 (below.bare h.1);
        many = below.many;
      } where
        still : (windows_in g.stages ≡ 0 → ⊥) → 0 + windows_in g.stages ≡ 0 → ⊥
        still nz e = nz (omega (arith, e))

        plain : IsPath m nat count bytes [] g.stages t.path → BelowBuilt m nat count bytes g.below t.next → (windows_in g.stages ≡ 0) ⊎ (windows_in g.stages ≡ 0 → ⊥) → (m.spares t.path ≡ 0) ⊎ below_serves m t.next count bytes 0
        plain path below (inl e) = inl (path.bare e)
        plain path below (inr nz) = inr (below.bare (below_bare nat count bytes (0 + windows_in g.stages) g.below (still nz) sound.1))

  -- a group without stages
  pub bare_made : (g : chains.Group) (b : Either LeafList (Fan (Pipe P LeafList))) → g.stages ≡ [] → BelowBuilt m nat count bytes g.below b → GroupBuilt m nat count bytes g (record { place = First b })
  bare_made g b none below = record {
    row = ap (row_of nat) (sym none);
    below = below.plan;
    new = record { nothing = below.new.nothing; empty = below.new.empty };
    serves = below.serves;
    bare = λ h. below.bare h.1;
    many = below.many;
  }

  group_plans_are : (gs : List chains.Group) (ts : List (GroupPlace P)) → AreBuilt (GroupBuilt m nat count bytes) gs ts → places.group_plans m.row (map (λ (g : chains.Group). g.wanted) gs) (group_nodes ts) ≡ map (group_plan nat) gs
  group_plans_are [] [] h = refl
  group_plans_are (g ∷ gs) (t ∷ ts) (h, hs) = λ i. record { wanted = g.wanted; row = h.row i; below = h.below i } ∷ group_plans_are gs ts hs i
  group_plans_are [] (t ∷ ts) h = absurd h
  group_plans_are (g ∷ gs) [] h = absurd h

  group_many : (gs : List chains.Group) (ts : List (GroupPlace P)) → AreBuilt (GroupBuilt m nat count bytes) gs ts → length (fan_results (group_results m) ts) ≡ sum_by (λ (g : GroupPlan). leaves_below g.below) (map (group_plan nat) gs)
  group_many [] [] h = refl
  group_many (g ∷ gs) (t ∷ ts) (h, hs) =
      length-append (group_results m t) (fan_results (group_results m) ts)
      ∙ ((λ i. h.many i + group_many gs ts hs i) ∙ sym (sum_by-cons (λ (g : GroupPlan). leaves_below g.below) (group_plan nat g) (map (group_plan nat) gs)))
  group_many [] (t ∷ ts) h = absurd h
  group_many (g ∷ gs) [] h = absurd h

  pub groups_built : (gs : List chains.Group) (f : Fan (GroupPlace P)) → f.groups ≡ map (λ (g : chains.Group). g.wanted) gs → AreBuilt (GroupBuilt m nat count bytes) gs f.places.items → GroupsBuilt m nat count bytes gs f
  groups_built gs f e h =
      let long : length f.groups ≡ length f.places.items = ap length e ∙ (length-map gs (λ (g : chains.Group). g.wanted) ∙ built_long (GroupBuilt m nat count bytes) gs f.places.items h) in
      record {
        plans = ap (λ (ms : List (Option Match)). places.group_plans m.row ms (group_nodes f.places.items)) e ∙ group_plans_are gs f.places.items h;
        new = fan_new (group_stands m) (group_results m) (λ (u : Fan (GroupPlace P)). u.groups) (λ u. u.places.items) f long (built_each (GroupBuilt m nat count bytes) _ (λ g t b. b.new) gs f.places.items h);
        serves = (long, built_each (GroupBuilt m nat count bytes) (λ t. group_serves m t count bytes count) (λ g t b. b.serves) gs f.places.items h);
        bare = λ all. (long, built_where (GroupBuilt m nat count bytes) IsBareGroup (λ t. group_serves m t count bytes 0) (λ g t b. b.bare) gs f.places.items h all);
        many = group_many gs f.places.items h;
      }

parts_inside : {T N : Type 0} (inside : T → N) (makes : N → made.Meaning) (flow : Flow) (ms : List (Option Match)) (ts : List T) → fan_parts (λ (t : T). makes (inside t)) flow ms ts ≡ fan_parts makes flow ms (map inside ts)
parts_inside inside makes flow [] ts = refl
parts_inside inside makes flow (m ∷ ms) [] = refl
parts_inside inside makes flow (m ∷ ms) (t ∷ ts) = ap (λ ps. record { takes = takes_by m; makes = makes (inside t) flow } ∷ ps) (parts_inside inside makes flow ms ts)

module _ {P : Type 0} (m : Meaning P) (count bytes : ℕ) where
  root_follows : (t : RootPlace P) → root_makes m t ≡ flow_meaning (record { row = m.row t.place.path; groups = places.group_plans m.row t.place.next.groups (group_nodes t.place.next.places.items) })
  root_follows t =
      (λ i flow came. staged_by (m.row t.place.path flow) (shared (parts_inside (λ (u : GroupPlace P). u.place) (either_makes (below_makes m) (staged_makes m)) flow t.place.next.groups t.place.next.places.items i)) came)
      ∙ (λ i flow came. staged_by (m.row t.place.path flow) (shared (groups_are m.row flow t.place.next.groups (group_nodes t.place.next.places.items) i)) came)

  pub root_made : (chain : chains.Chain) (p : P) (f : Fan (GroupPlace P)) (r : Result (Pipe P (Fan (GroupPlace P))) NoMemory) → IsChainSound count bytes chain
      → IsPath m chain.nat count bytes (before_stages chain.unparsed) chain.stages p → GroupsBuilt m chain.nat count bytes chain.groups f
      → IfOk r (λ t. t.path ≡ p) → IfOk r (λ t. t.next ≡ f) → IfOk r (λ t. t.waiting.items ≡ []) → IfOk r (λ t. count < vec_capacity t.waiting) → IfOk r (λ t. RootBuilt m count bytes chain (record { place = t }))
  root_made chain p f (Err e) sound path groups hp hn hw hr = tt
  root_made chain p f (Ok t) sound path' groups' hp hn hw hr =
      let path = subst (IsPath m chain.nat count bytes (before_stages chain.unparsed) chain.stages) (sym hp) path' in
      let groups = subst (GroupsBuilt m chain.nat count bytes chain.groups) (sym hn) groups' in
      let one = plain path groups (none_or (windows_in chain.stages)) in
      record {
        follows = root_follows (record { place = t }) ∙ (λ i. flow_meaning (record { row = path.row i; groups = groups.plans i }));
        many = groups.many;
        new = pipe_new m.stands (groups_stand m) (groups_results m) (λ (u : RootPlace P). u.place.path) (λ u. u.place.next) (record { place = t }) path.begins groups.new;
        serves = way_serves m chain.nat count bytes (groups_serve m) (before_stages chain.unparsed) chain.stages t.path t.next t.waiting.items (vec_capacity t.waiting) path hw hr one groups.serves;
      } where
        plain : IsPath m chain.nat count bytes (before_stages chain.unparsed) chain.stages t.path → GroupsBuilt m chain.nat count bytes chain.groups t.next → (windows_in chain.stages ≡ 0) ⊎ (windows_in chain.stages ≡ 0 → ⊥) → (m.spares t.path ≡ 0) ⊎ groups_serve m t.next count bytes 0
        plain path groups (inl e) = inl (path.bare e)
        plain path groups (inr nz) = inr (groups.bare (groups_bare chain.nat count bytes (windows_in chain.stages) chain.groups nz sound.1))
