-- What a chain drops of a flow, path by path.
use Rattle.std.proofs.Common.{◌≡◌, ℕ, ◌+◌, ◌≤◌, Bool, true, false, cond, nat_eq, List, [], ◌∷◌, ◌++◌, length, map, Option, Some, refl, arith}
use Rattle.std.proofs.lemmas.Bool.Decides.{nat_tests}
use Rattle.std.specs.List.{filter, AllByRecursion}
use Rattle.brick_spec.specs.Flow.{Flow}
use Rattle.brick_spec.specs.FlowClass.{NatPlan}
use Rattle.brick_spec.specs.FlowStage.{FlowItem, FlowStage, FlowInput, FlowOutput, meant, through_row}
use Rattle.brick_spec.specs.Stage.{parsed_stage}
use Rattle.flow_spec.specs.Addressed.{item_stage}
use Rattle.flow_spec.specs.Parts.{Parts, Part, only, others, shared, leaf, staged}
use Rattle.flow_spec.specs.Plan as plans
use Rattle.flow_spec.specs.Plan.{leaf_part, made_below, group_part}
use Rattle.chain_spec.specs.ChainSet as chains
use Rattle.chain_spec.specs.ChainSet.{Chain, Stage, Leaf, Group, is_window, paths_below, paths_through, paths_of, has_one_window}
use Rattle.tenant_spec.specs.ChainPlan.{stage_of, row_of, before_stages, leaf_plan, below_plan, group_plan, plan_of}
use Rattle.chain_laws.specs.Right.{HasMacs}
use Rattle.chain_laws.proofs.Sizes.{IsRow, IsSizedBelow, IsSized}
use Rattle.chain_laws.proofs.Totals.{total, total_both, total_less, total_split}
use Rattle.chain_laws.proofs.WindowCounts.{long_both}
use Rattle.chain_laws.proofs.Drops.{worth, left_worth, frugal_meant, parsed_frugal, stage_frugal, window_meant}
use Rattle.chain_laws.proofs.Paths.{windows, room, Few, on_path, behind_stages, all_front, few_paths}

at_least : (b : Bool) (x : FlowItem) → 1 ≤ worth b x
at_least true x = omega arith
at_least false x = omega arith

at_most : (x : FlowItem) → worth false x ≤ worth true x
at_most x = omega arith

many_worth : (b : Bool) (xs : List FlowItem) → length xs ≤ total (worth b) xs
many_worth b [] = omega arith
many_worth b (x ∷ xs) = omega (arith, many_worth b xs, at_least b x)

-- how many items are left in all lists, and how many are dropped
abbrev pub all_parts : Parts → ℕ
all_parts p = total (λ (ys : List FlowItem). length ys) p.lists + length p.dropped

module _ (nat : Option NatPlan) (flow : Flow) (n : ℕ) where
  -- ROWS

  abbrev Leads : Bool → Bool → List FlowStage → Type 0
  Leads b c ss = (xs : List FlowItem) → left_worth c (through_row ss (record { items = xs; ended = Some n })) ≤ total (worth b) xs

  plain_row : (b : Bool) (stages : List Stage) → AllByRecursion HasMacs stages → windows stages ≡ 0 → Leads b b (row_of nat stages flow)
  plain_row b [] macs none xs = omega arith
  plain_row b (s ∷ ss) (m, macs) none xs = split (is_window s) refl none (plain_row b ss macs) where
    out : FlowOutput
    out = meant (stage_of nat flow s) (record { items = xs; ended = Some n })

    split : (c : Bool) → is_window s ≡ c → cond c 1 0 + windows ss ≡ 0 → (windows ss ≡ 0 → Leads b b (row_of nat ss flow)) → left_worth b (through_row (row_of nat (s ∷ ss) flow) (record { items = xs; ended = Some n })) ≤ total (worth b) xs
    split true is none next = absurd (omega (arith, none))
    split false is none next =
        omega (
          arith,
          frugal_meant b (stage_of nat flow s) (stage_frugal nat flow s m is) n xs,
          next (omega (arith, none)) out.passed,
          long_both out.dropped (through_row (row_of nat ss flow) (record { items = out.passed; ended = Some n })).dropped,
        )

  bent_row : (stages : List Stage) → AllByRecursion HasMacs stages → windows stages ≤ 1 → Leads true false (row_of nat stages flow)
  bent_row [] macs few xs = omega (arith, total_less (worth false) (worth true) at_most xs)
  bent_row (s ∷ ss) (m, macs) few xs = split (is_window s) refl few (bent_row ss macs) where
    out : FlowOutput
    out = meant (stage_of nat flow s) (record { items = xs; ended = Some n })

    split : (c : Bool) → is_window s ≡ c → cond c 1 0 + windows ss ≤ 1 → (windows ss ≤ 1 → Leads true false (row_of nat ss flow)) → left_worth false (through_row (row_of nat (s ∷ ss) flow) (record { items = xs; ended = Some n })) ≤ total (worth true) xs
    split true is few next =
        omega (
          arith,
          window_meant nat flow n s is xs,
          plain_row false ss macs (omega (arith, few)) out.passed,
          long_both out.dropped (through_row (row_of nat ss flow) (record { items = out.passed; ended = Some n })).dropped,
        )
    split false is few next =
        omega (
          arith,
          frugal_meant true (stage_of nat flow s) (stage_frugal nat flow s m is) n xs,
          next (omega (arith, few)) out.passed,
          long_both out.dropped (through_row (row_of nat ss flow) (record { items = out.passed; ended = Some n })).dropped,
        )

  -- A row, from where it begins to where it ends: where it may still have a window and has none, one may follow.
  record Row (b : Bool) (stages : List Stage) : Type 0 where
    behind : Bool
    leads : Leads b behind (row_of nat stages flow)
    left : windows stages + room behind ≡ room b

  row_is : (b : Bool) (stages : List Stage) → AllByRecursion HasMacs stages → windows stages ≤ room b → Row b stages
  row_is false stages macs h = let none : windows stages ≡ 0 = omega (arith, h) in record { behind = false; leads = plain_row false stages macs none; left = omega (arith, none) }
  row_is true stages macs h = split (nat_eq (windows stages) 0) refl where
    is_none : nat_eq (windows stages) 0 ≡ true → windows stages ≡ 0
    is_none t = grind (arith, nat_tests)

    is_one : nat_eq (windows stages) 0 ≡ false → windows stages ≡ 1
    is_one t = grind (arith, nat_tests)

    split : (c : Bool) → nat_eq (windows stages) 0 ≡ c → Row true stages
    split true t = record { behind = true; leads = plain_row true stages macs (is_none t); left = omega (arith, is_none t) }
    split false t = record { behind = false; leads = bent_row stages macs h; left = omega (arith, is_one t) }

  -- GROUPS

  -- no more is left and dropped than the items may come to
  abbrev Costs : Bool → (FlowInput → Parts) → Type 0
  Costs b makes = (xs : List FlowItem) → all_parts (makes (record { items = xs; ended = Some n })) ≤ total (worth b) xs

  leaf_costs : (b : Bool) (stages : List Stage) → AllByRecursion HasMacs stages → windows stages ≤ room b → Costs b (leaf (row_of nat stages flow))
  leaf_costs b stages macs h xs =
      let out = through_row (row_of nat stages flow) (record { items = xs; ended = Some n }) in
      let r = row_is b stages macs h in
      omega (arith, r.leads xs, long_both out.dropped [], many_worth r.behind out.passed)

  none_costs : (b : Bool) → Costs b (shared [])
  none_costs b [] = omega arith
  none_costs b (x ∷ xs) = omega (arith, none_costs b xs, at_least b x)

  shared_costs : (b : Bool) (p : Part) (ps : List Part) → Costs b p.makes → Costs b (shared ps) → Costs b (shared (p ∷ ps))
  shared_costs b p ps h hs xs =
      omega (
        arith,
        total_both (λ (ys : List FlowItem). length ys) (p.makes (only p.takes (record { items = xs; ended = Some n }))).lists (shared ps (only (others p.takes) (record { items = xs; ended = Some n }))).lists,
        long_both (p.makes (only p.takes (record { items = xs; ended = Some n }))).dropped (shared ps (only (others p.takes) (record { items = xs; ended = Some n }))).dropped,
        h (filter p.takes xs),
        hs (filter (others p.takes) xs),
        total_split (worth b) p.takes xs,
      )

  staged_costs : (b c : Bool) (ss : List FlowStage) (ps : List Part) → Leads b c ss → Costs c (shared ps) → Costs b (staged ss ps)
  staged_costs b c ss ps leads h xs =
      let out = through_row ss (record { items = xs; ended = Some n }) in
      omega (arith, leads xs, h out.passed, long_both out.dropped (shared ps (record { items = out.passed; ended = Some n })).dropped)

  leaves_cost : (b : Bool) (leaves : List Leaf) → AllByRecursion (λ (l : Leaf). IsRow l.stages) leaves → AllByRecursion (λ (l : Leaf). windows l.stages ≤ room b) leaves → Costs b (shared (map (leaf_part flow) (map (leaf_plan nat) leaves)))
  leaves_cost b [] rows h = none_costs b
  leaves_cost b (l ∷ ls) (row, rows) (h, hs) =
      shared_costs b (leaf_part flow (leaf_plan nat l)) (map (leaf_part flow) (map (leaf_plan nat) ls)) (leaf_costs b l.stages row.1 h) (leaves_cost b ls rows hs)

  below_costs : (b : Bool) (stages : List Stage) (below : chains.Below) → IsRow stages → IsSizedBelow below → Few b (paths_below stages below) → Costs b (made_below flow (row_of nat stages) (below_plan nat below))
  below_costs b stages (chains.Output o) row sized (h, hs) = leaf_costs b stages row.1 h
  below_costs b stages (chains.Inner []) row sized h = absurd (omega (arith, sized.0))
  below_costs b stages (chains.Inner (l ∷ ls)) row sized h =
      let r = row_is b stages row.1 (omega (arith, h.0, total_both (λ s. cond (is_window s) 1 0) stages l.stages)) in
      staged_costs b r.behind (row_of nat stages flow) (map (leaf_part flow) (map (leaf_plan nat) (l ∷ ls))) r.leads (leaves_cost r.behind (l ∷ ls) sized.2 (on_path b r.behind stages r.left (l ∷ ls) h))

  abbrev AreGroups : List Group → Type 0
  AreGroups groups = AllByRecursion (λ (g : Group). IsRow g.stages × IsSizedBelow g.below) groups

  groups_cost : (b c : Bool) (stages : List Stage) → windows stages + room c ≡ room b → (groups : List Group) → AreGroups groups → Few b (paths_through stages groups) → Costs c (shared (map (group_part flow) (map (group_plan nat) groups)))
  groups_cost b c stages left [] sized h = none_costs c
  groups_cost b c stages left (g ∷ gs) ((row, below), sized) h =
      let parts = all_front (λ path. windows path ≤ room b) (paths_below (stages ++ g.stages) g.below) (paths_through stages gs) h in
      shared_costs c (group_part flow (group_plan nat g)) (map (group_part flow) (map (group_plan nat) gs)) (below_costs c g.stages g.below row below (behind_stages b c stages g.stages g.below left parts.0))
      (groups_cost b c stages left gs sized parts.1)

  -- with a group there is a path
  on_first : (b : Bool) (stages more : List Stage) (below : chains.Below) → IsSizedBelow below → Few b (paths_below (stages ++ more) below) → windows stages ≤ room b
  on_first b stages more (chains.Output o) sized (h, hs) = omega (arith, h, total_both (λ s. cond (is_window s) 1 0) stages more)
  on_first b stages more (chains.Inner []) sized h = absurd (omega (arith, sized.0))
  on_first b stages more (chains.Inner (l ∷ ls)) sized (h, hs) =
      omega (arith, h, total_both (λ s. cond (is_window s) 1 0) (stages ++ more) l.stages, total_both (λ s. cond (is_window s) 1 0) stages more)

  some_group : (b : Bool) (stages : List Stage) (groups : List Group) → 1 ≤ length groups → AreGroups groups → Few b (paths_through stages groups) → windows stages ≤ room b
  some_group b stages [] some sized h = absurd (omega (arith, some))
  some_group b stages (g ∷ gs) some ((row, below), sized) h = on_first b stages g.stages g.below below (all_front (λ path. windows path ≤ room b) (paths_below (stages ++ g.stages) g.below) (paths_through stages gs) h).0

  -- THE CHAIN

  parsed_first : (b c : Bool) (u : chains.Unparsed) (ss : List FlowStage) → Leads b c ss → Leads b c (before_stages u ++ ss)
  parsed_first b c chains.UnparsedPass ss h xs = h xs
  parsed_first b c chains.UnparsedDrop ss h xs =
      let out = meant (item_stage parsed_stage) (record { items = xs; ended = Some n }) in
      omega (arith, frugal_meant b (item_stage parsed_stage) parsed_frugal n xs, h out.passed, long_both out.dropped (through_row ss (record { items = out.passed; ended = Some n })).dropped)

  tenant_costs : (u : chains.Unparsed) (stages : List Stage) (groups : List Group) → IsRow stages → 1 ≤ length groups → AreGroups groups → Few true (paths_through stages groups)
      → Costs true (staged (before_stages u ++ row_of nat stages flow) (map (group_part flow) (map (group_plan nat) groups)))
  tenant_costs u stages groups row some sized h =
      let r = row_is true stages row.1 (some_group true stages groups some sized h) in
      staged_costs true r.behind (before_stages u ++ row_of nat stages flow) (map (group_part flow) (map (group_plan nat) groups)) (parsed_first true r.behind u (row_of nat stages flow) r.leads) (groups_cost true r.behind stages r.left groups sized h)

-- how many items a chain leaves and drops of a flow
pub chain_costs : (chain : Chain) (flow : Flow) (n : ℕ) → has_one_window chain ≡ true → IsSized chain → (xs : List FlowItem) → all_parts (plans.flow_meaning (plan_of chain) flow (record { items = xs; ended = Some n })) ≤ total (worth true) xs
chain_costs chain flow n h sized = tenant_costs chain.nat flow n chain.unparsed chain.stages chain.groups sized.stages sized.some sized.groups (few_paths (paths_of chain) h)
