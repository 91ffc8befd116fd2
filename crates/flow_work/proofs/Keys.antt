-- A chain keeps a flow's keys where its stages do.
use Rattle.std.proofs.Common.{◌≡◌, ℕ, ◌+◌, zero, suc, List, [], ◌∷◌, ◌++◌, map, Bool, true, false, cond, Some, refl, get_or}
use Rattle.std.specs.List.{filter, AllByRecursion}
use Rattle.brick_spec.specs.Flow.{Flow}
use Rattle.brick_spec.specs.Item.{Item}
use Rattle.brick_spec.specs.FlowStage.{FlowItem, FlowStage, FlowInput, along, meant, through_row}
use Rattle.flow_spec.specs.Parts.{Parts, Part, only, others, shared, leaf, staged}
use Rattle.flow_spec.specs.Plan.{Row, LeafPlan, Below, Output, Inner, GroupPlan, Plan, leaf_part, made_below, group_part, flow_meaning}
use Rattle.flow_spec.specs.Answer.{given_to}
use Rattle.flow_work.specs.Meaning.{item_of}
use Rattle.flow_work.specs.Log.{OwnsKeys}
use Rattle.flow_work.specs.Keys.{Keeps, RowKeeps, BelowKeeps, PlanKeeps}

all_both : {X : Type 0} (P : X → Type 0) (xs ys : List X) → AllByRecursion P xs → AllByRecursion P ys → AllByRecursion P (xs ++ ys)
all_both P [] ys h k = k
all_both P (x ∷ xs) ys (h, hs) k = (h, all_both P xs ys hs k)

all_filtered : {X : Type 0} (P : X → Type 0) (t : X → Bool) (xs : List X) → AllByRecursion P xs → AllByRecursion P (filter t xs)
all_filtered P t [] h = tt
all_filtered P t (x ∷ xs) (h, hs) = split (t x) (all_filtered P t xs hs) where
  split : (b : Bool) → AllByRecursion P (filter t xs) → AllByRecursion P (cond b (x ∷ filter t xs) (filter t xs))
  split true k = (h, k)
  split false k = k

all_mapped : (Q : Item → Type 0) (xs : List FlowItem) → AllByRecursion (λ x. Q x.item) xs → AllByRecursion Q (map item_of xs)
all_mapped Q [] h = tt
all_mapped Q (x ∷ xs) (h, hs) = (h, all_mapped Q xs hs)

module _ (P : FlowItem → Type 0) (n : ℕ) where
  keeps_along : (s : FlowStage) → Keeps P n s → (before xs : List FlowItem) → AllByRecursion P xs → AllByRecursion P (along s before xs).passed
  keeps_along s k before [] h = tt
  keeps_along s k before (x ∷ xs) (h, hs) = all_both P (s.on_item before x).passed (along s (before ++ x ∷ []) xs).passed (k.on_item before x h) (keeps_along s k (before ++ x ∷ []) xs hs)

  keeps_meant : (s : FlowStage) → Keeps P n s → (xs : List FlowItem) → AllByRecursion P xs → AllByRecursion P (meant s (record { items = xs; ended = Some n })).passed
  keeps_meant s k xs h = all_both P (along s [] xs).passed (s.at_end xs n).passed (keeps_along s k [] xs h) (k.at_end xs)

  keeps_through : (ss : List FlowStage) → AllByRecursion (Keeps P n) ss → (xs : List FlowItem) → AllByRecursion P xs → AllByRecursion P (through_row ss (record { items = xs; ended = Some n })).passed
  keeps_through [] ks xs h = h
  keeps_through (s ∷ ss) (k, ks) xs h = keeps_through ss ks (meant s (record { items = xs; ended = Some n })).passed (keeps_meant s k xs h)

  abbrev PartKeeps : (FlowInput → Parts) → Type 0
  PartKeeps makes = (xs : List FlowItem) → AllByRecursion P xs → (g : ℕ) → AllByRecursion P (get_or (makes (record { items = xs; ended = Some n })).lists g [])

  leaf_keeps : (ss : List FlowStage) → AllByRecursion (Keeps P n) ss → PartKeeps (leaf ss)
  leaf_keeps ss ks xs h zero = keeps_through ss ks xs h
  leaf_keeps ss ks xs h (suc g) = tt

  get_beside : (xss yss : List (List FlowItem)) → ((g : ℕ) → AllByRecursion P (get_or xss g [])) → ((g : ℕ) → AllByRecursion P (get_or yss g [])) → (g : ℕ) → AllByRecursion P (get_or (xss ++ yss) g [])
  get_beside [] yss h k g = k g
  get_beside (xs ∷ xss) yss h k zero = h zero
  get_beside (xs ∷ xss) yss h k (suc g) = get_beside xss yss (λ i. h (suc i)) k g

  shared_keeps : (ps : List Part) → AllByRecursion (λ (p : Part). PartKeeps p.makes) ps → PartKeeps (shared ps)
  shared_keeps [] ks xs h g = tt
  shared_keeps (p ∷ ps) (k, ks) xs h g =
      get_beside (p.makes (only p.takes (record { items = xs; ended = Some n }))).lists (shared ps (only (others p.takes) (record { items = xs; ended = Some n }))).lists
      (λ i. k (filter p.takes xs) (all_filtered P p.takes xs h) i) (λ i. shared_keeps ps ks (filter (others p.takes) xs) (all_filtered P (others p.takes) xs h) i) g

  staged_keeps : (ss : List FlowStage) (ps : List Part) → AllByRecursion (Keeps P n) ss → AllByRecursion (λ (p : Part). PartKeeps p.makes) ps → PartKeeps (staged ss ps)
  staged_keeps ss ps ks js xs h g = shared_keeps ps js (through_row ss (record { items = xs; ended = Some n })).passed (keeps_through ss ks xs h) g

module _ (owner : ℕ → ℕ) (f : Flow) (n : ℕ) (ends : owner (n + f.number) ≡ f.number) where
  abbrev Own : FlowItem → Type 0
  Own x = owner x.item.a ≡ f.number

  leaves_keep : (ls : List LeafPlan) → AllByRecursion (λ (l : LeafPlan). RowKeeps l.row) ls → AllByRecursion (λ (p : Part). PartKeeps Own n p.makes) (map (leaf_part f) ls)
  leaves_keep [] h = tt
  leaves_keep (l ∷ ls) (h, hs) = (leaf_keeps Own n (l.row f) (h owner f n ends), leaves_keep ls hs)

  below_keeps : (row : Row) (b : Below) → RowKeeps row → BelowKeeps b → PartKeeps Own n (made_below f row b)
  below_keeps row Output k h = leaf_keeps Own n (row f) (k owner f n ends)
  below_keeps row (Inner ls) k h = staged_keeps Own n (row f) (map (leaf_part f) ls) (k owner f n ends) (leaves_keep ls h)

  groups_keep : (gs : List GroupPlan) → AllByRecursion (λ (g : GroupPlan). RowKeeps g.row × BelowKeeps g.below) gs → AllByRecursion (λ (p : Part). PartKeeps Own n p.makes) (map (group_part f) gs)
  groups_keep [] h = tt
  groups_keep (g ∷ gs) (h, hs) = (below_keeps g.row g.below h.0 h.1, groups_keep gs hs)

pub plan_owns : (p : Plan) → PlanKeeps p → OwnsKeys (flow_meaning p)
plan_owns p (k, ks) owner f n items ends h g =
    all_mapped (λ (i : Item). owner i.a ≡ f.number) _ (staged_keeps (λ x. owner x.item.a ≡ f.number) n (p.row f) (map (group_part f) p.groups) (k owner f n ends) (groups_keep owner f n ends p.groups ks) items h g)
