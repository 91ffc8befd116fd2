-- Groups in a group.
use Rattle.std.proofs.Common.{◌≡◌, ℕ, suc, ◌<◌, List, [], ◌∷◌, map, length, Option, Result, Ok, Err, IfOk, inr, refl, ap, sym, subst, ◌∙◌, vec_capacity}
use Rattle.std.proofs.lemmas.List.{length-map}
use Rattle.brick_spec.specs.FlowClass.{NatPlan}
use Rattle.brick_spec.specs.Match.{Match}
use Rattle.brick_base.specs.declared.memory.NoMemory.{NoMemory}
use Rattle.batch_ops.specs.Operator.{Meaning}
use Rattle.flow_spec.specs.Plan as plans
use Rattle.flow_work.specs.Node.{fan_results}
use Rattle.pcap_io.specs.View.{item_view}
use Rattle.chain_spec.specs.ChainSet as chains
use Rattle.tenant_spec.specs.ChainPlan.{leaf_plan}
use Rattle.chain_nodes.specs.NewNodes.{list_new, pipe_new, fan_new}
use Rattle.chain_nodes.specs.PlanOf as places
use Rattle.chain_nodes.specs.declared.either.Either.TheVariants.{First, Second}
use Rattle.chain_nodes.specs.declared.fan.Fan.{Fan}
use Rattle.chain_nodes.specs.declared.leaf.LeafList.{LeafList}
use Rattle.chain_nodes.specs.declared.pipe.Pipe.{Pipe}
use Rattle.chain_run.specs.Sound.{IsBareLeaf}
use Rattle.chain_run.specs.Tree.{list_stands, list_results, list_serves, leaf_stands, leaf_results, leaf_serves}
use Rattle.chain_run.specs.Built.{AreBuilt, IsPath, LeafBuilt, LeavesBuilt, BelowBuilt}
use Rattle.chain_run.proofs.Grown.{built_long, built_each, built_where}
use Rattle.chain_run.proofs.Ways.{way_serves, way_bare}

module _ {P : Type 0} (m : Meaning P) (nat : Option NatPlan) (count bytes : ℕ) where
  pub leaf_built : (l : chains.Leaf) (t : Pipe P LeafList) → IsPath m nat count bytes [] l.stages t.path → t.next.items.items ≡ [] → t.waiting.items ≡ [] → count < vec_capacity t.waiting → LeafBuilt m nat count bytes l t
  leaf_built l t path empty none long = record {
    row = path.row;
    new = pipe_new m.stands list_stands list_results (λ (u : Pipe P LeafList). u.path) (λ u. u.next) t path.begins (list_new (λ (k : LeafList). map item_view k.items.items) t.next (ap (map item_view) empty));
    serves = way_serves m nat count bytes list_serves [] l.stages t.path t.next t.waiting.items (vec_capacity t.waiting) path none long (inr tt) tt;
    bare = λ e. way_bare m nat count bytes list_serves [] l.stages t.path t.next t.waiting.items (vec_capacity t.waiting) path none long e tt;
  }

  pub leaf_made : (l : chains.Leaf) (p : P) (k : LeafList) (r : Result (Pipe P LeafList) NoMemory) → IsPath m nat count bytes [] l.stages p → k.items.items ≡ []
      → IfOk r (λ t. t.path ≡ p) → IfOk r (λ t. t.next ≡ k) → IfOk r (λ t. t.waiting.items ≡ []) → IfOk r (λ t. count < vec_capacity t.waiting) → IfOk r (LeafBuilt m nat count bytes l)
  leaf_made l p k (Err e) path empty hp hn hw hr = tt
  leaf_made l p k (Ok t) path empty hp hn hw hr = leaf_built l t (subst (IsPath m nat count bytes [] l.stages) (sym hp) path) (ap (λ (x : LeafList). x.items.items) hn ∙ empty) hw hr

  leaf_plans_are : (ls : List chains.Leaf) (ts : List (Pipe P LeafList)) → AreBuilt (LeafBuilt m nat count bytes) ls ts → places.leaf_plans m.row (map (λ (l : chains.Leaf). l.wanted) ls) ts ≡ map (leaf_plan nat) ls
  leaf_plans_are [] [] h = refl
  leaf_plans_are (l ∷ ls) (t ∷ ts) (h, hs) = λ i. record { wanted = l.wanted; row = h.row i } ∷ leaf_plans_are ls ts hs i
  leaf_plans_are [] (t ∷ ts) h = absurd h
  leaf_plans_are (l ∷ ls) [] h = absurd h

  leaf_many : (ts : List (Pipe P LeafList)) → length (fan_results (leaf_results m) ts) ≡ length ts
  leaf_many [] = refl
  leaf_many (t ∷ ts) = ap suc (leaf_many ts)

  pub leaves_built : (ls : List chains.Leaf) (f : Fan (Pipe P LeafList)) → f.groups ≡ map (λ (l : chains.Leaf). l.wanted) ls → AreBuilt (LeafBuilt m nat count bytes) ls f.places.items → LeavesBuilt m nat count bytes ls f
  leaves_built ls f e h =
      let long : length f.groups ≡ length f.places.items = ap length e ∙ (length-map ls (λ (l : chains.Leaf). l.wanted) ∙ built_long (LeafBuilt m nat count bytes) ls f.places.items h) in
      record {
        plans = ap (λ (ms : List (Option Match)). places.leaf_plans m.row ms f.places.items) e ∙ leaf_plans_are ls f.places.items h;
        new = fan_new (leaf_stands m) (leaf_results m) (λ (u : Fan (Pipe P LeafList)). u.groups) (λ u. u.places.items) f long (built_each (LeafBuilt m nat count bytes) _ (λ l t b. b.new) ls f.places.items h);
        serves = (long, built_each (LeafBuilt m nat count bytes) (λ t. leaf_serves m t count bytes count) (λ l t b. b.serves) ls f.places.items h);
        bare = λ all. (long, built_where (LeafBuilt m nat count bytes) IsBareLeaf (λ t. leaf_serves m t count bytes 0) (λ l t b. b.bare) ls f.places.items h all);
        many = leaf_many f.places.items ∙ sym (built_long (LeafBuilt m nat count bytes) ls f.places.items h);
      }

  pub output_built : (o : ℕ) (k : LeafList) → k.items.items ≡ [] → BelowBuilt m nat count bytes (chains.Output o) (First k)
  output_built o k empty =
      let h = list_new (λ (k : LeafList). map item_view k.items.items) k (ap (map item_view) empty) in
      record { plan = refl; new = record { nothing = h.nothing; empty = h.empty }; serves = tt; bare = λ e. tt; many = refl }

  pub inner_built : (ls : List chains.Leaf) (f : Fan (Pipe P LeafList)) → LeavesBuilt m nat count bytes ls f → BelowBuilt m nat count bytes (chains.Inner ls) (Second f)
  inner_built ls f b = record {
    plan = ap plans.Inner b.plans;
    new = record { nothing = b.new.nothing; empty = b.new.empty };
    serves = b.serves;
    bare = b.bare;
    many = b.many ∙ sym (length-map ls (leaf_plan nat));
  }
