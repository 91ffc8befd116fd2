-- What a chain makes of the keys of a flow's items, leaf group by leaf group.
use Rattle.std.proofs.Common.{◌≡◌, ◌⊎◌, inl, inr, ℕ, ◌+◌, ◌≤◌, Bool, true, false, cond, nat_eq, nat_le, List, [], ◌∷◌, ◌++◌, map, Option, Some, refl, ap, sym, subst, arith}
use Rattle.std.proofs.lemmas.Bool.Decides.{nat_tests}
use Rattle.std.proofs.lemmas.Bool.{and_parts}
use Rattle.std.specs.List.{filter, flat_map, list_all, AllByRecursion}
use Rattle.brick_spec.specs.Flow.{Flow}
use Rattle.brick_spec.specs.FlowClass.{NatPlan}
use Rattle.brick_spec.specs.FlowStage.{FlowItem, FlowStage, FlowInput, meant, through_row}
use Rattle.brick_spec.specs.Stage.{parsed_stage}
use Rattle.flow_spec.specs.Addressed.{item_stage}
use Rattle.flow_spec.specs.Parts.{Parts, Part, only, others, shared, leaf, staged}
use Rattle.flow_spec.specs.Plan as plans
use Rattle.flow_spec.specs.Plan.{leaf_part, made_below, group_part}
use Rattle.chain_spec.specs.ChainSet as chains
use Rattle.chain_spec.specs.ChainSet.{Chain, Stage, Leaf, Group, is_window, windows_in, paths_below, paths_through, paths_of, has_one_window}
use Rattle.tenant_spec.specs.ChainPlan.{stage_of, row_of, before_stages, leaf_plan, below_plan, group_plan, plan_of}
use Rattle.chain_laws.specs.Accepted.{stages_below, all_stages}
use Rattle.chain_laws.proofs.Totals.{total, total_both, total_less, total_split, total_filter, sum_is}
use Rattle.chain_laws.proofs.Weights.{Weight, weight, hit, early, hit_early}
use Rattle.chain_laws.proofs.Stages.{bounds_meant, plain_bounds, parsed_plain, stage_plain, rest, stage_turns}

-- how many stages `window` stand in a row
abbrev pub windows : List Stage → ℕ
windows stages = total (λ s. cond (is_window s) 1 0) stages

pub windows_are : (stages : List Stage) → windows_in stages ≡ windows stages
windows_are stages = sum_is (λ s. cond (is_window s) 1 0) stages

-- e for each of them
abbrev pub ends : ℕ → List Stage → ℕ
ends e stages = total (λ s. cond (is_window s) e 0) stages

pub no_ends : (stages : List Stage) → ends 0 stages ≡ 0
no_ends [] = refl
no_ends (s ∷ ss) = split (is_window s) (no_ends ss) where
  split : (b : Bool) → ends 0 ss ≡ 0 → cond b 0 0 + ends 0 ss ≡ 0
  split true next = omega (arith, next)
  split false next = omega (arith, next)

pub few_ends : (e : ℕ) (stages : List Stage) → windows stages ≤ 1 → (ends e stages ≤ e) × (windows stages ≡ 0 → ends e stages ≡ 0)
few_ends e [] h = (omega arith, λ z. refl)
few_ends e (s ∷ ss) h = split (is_window s) h (few_ends e ss) where
  split : (b : Bool) → cond b 1 0 + windows ss ≤ 1 → (windows ss ≤ 1 → (ends e ss ≤ e) × (windows ss ≡ 0 → ends e ss ≡ 0)) → (cond b e 0 + ends e ss ≤ e) × (cond b 1 0 + windows ss ≡ 0 → cond b e 0 + ends e ss ≡ 0)
  split true few next =
      let none : windows ss ≡ 0 = omega (arith, few) in
      let more = next (omega (arith, none)) in
      let last : ends e ss ≡ 0 = more.1 none in
      (omega (arith, last), λ z. absurd (omega (arith, z)))
  split false few next = let more = next (omega (arith, few)) in (omega (arith, more.0), λ z. let last : ends e ss ≡ 0 = more.1 (omega (arith, z)) in omega (arith, last))

-- Before a window a row may have one; behind it none.
abbrev pub room : Bool → ℕ
room true = 1
room false = 0

-- no path has more windows than there is room for
abbrev pub Few : Bool → List (List Stage) → Type 0
Few b paths = AllByRecursion (λ path. windows path ≤ room b) paths

-- the windows of a path are those of its parts
pub on_path : (b c : Bool) (stages : List Stage) → windows stages + room c ≡ room b → (leaves : List Leaf) → Few b (map (λ (l : Leaf). stages ++ l.stages) leaves) → AllByRecursion (λ (l : Leaf). windows l.stages ≤ room c) leaves
on_path b c stages left [] h = tt
on_path b c stages left (l ∷ ls) (h, hs) = (omega (arith, h, left, total_both (λ s. cond (is_window s) 1 0) stages l.stages), on_path b c stages left ls hs)

-- a path through a group, without the stages before the group
pub behind_stages : (b c : Bool) (stages more : List Stage) (below : chains.Below) → windows stages + room c ≡ room b → Few b (paths_below (stages ++ more) below) → Few c (paths_below more below)
behind_stages b c stages more (chains.Output o) left (h, hs) = (omega (arith, h, left, total_both (λ s. cond (is_window s) 1 0) stages more), tt)
behind_stages b c stages more (chains.Inner leaves) left h = each leaves h where
  each : (ls : List Leaf) → Few b (map (λ (l : Leaf). (stages ++ more) ++ l.stages) ls) → Few c (map (λ (l : Leaf). more ++ l.stages) ls)
  each [] h = tt
  each (l ∷ ls) (h, hs) = (
    omega (arith, h, left, total_both (λ s. cond (is_window s) 1 0) (stages ++ more) l.stages, total_both (λ s. cond (is_window s) 1 0) stages more, total_both (λ s. cond (is_window s) 1 0) more l.stages),
    each ls hs,
  )

pub all_front : {X : Type 0} (P : X → Type 0) (xs ys : List X) → AllByRecursion P (xs ++ ys) → AllByRecursion P xs × AllByRecursion P ys
all_front P [] ys h = (tt, h)
all_front P (x ∷ xs) ys (h, hs) = let rest = all_front P xs ys hs in ((h, rest.0), rest.1)

module _ (nat : Option NatPlan) (flow : Flow) (n a j : ℕ) where
  abbrev pub e : ℕ
  e = rest a j flow n

  abbrev pub at : Bool → Weight
  at true = early a
  at false = hit a j

  -- what the ends of windows may add
  abbrev pub spare : Bool → ℕ
  spare true = e
  spare false = 0

  hit_at : (b : Bool) (x : FlowItem) → weight (hit a j) x ≤ weight (at b) x
  hit_at true x = hit_early a j x.item.a x.item.j
  hit_at false x = omega arith

  -- ROWS

  -- what passes a row weighs no more than so much
  abbrev Leads : Weight → Weight → ℕ → List FlowStage → Type 0
  Leads p q k ss = (xs : List FlowItem) → total (weight q) (through_row ss (record { items = xs; ended = Some n })).passed ≤ total (weight p) xs + k

  plain_row : (w : Weight) (stages : List Stage) → windows stages ≡ 0 → Leads w w 0 (row_of nat stages flow)
  plain_row w [] none xs = omega arith
  plain_row w (s ∷ ss) none xs = split (is_window s) refl none (plain_row w ss) where
    ys : List FlowItem
    ys = (meant (stage_of nat flow s) (record { items = xs; ended = Some n })).passed

    split : (b : Bool) → is_window s ≡ b → cond b 1 0 + windows ss ≡ 0 → (windows ss ≡ 0 → Leads w w 0 (row_of nat ss flow))
        → total (weight w) (through_row (row_of nat ss flow) (record { items = ys; ended = Some n })).passed ≤ total (weight w) xs + 0
    split true is none next = absurd (omega (arith, none))
    split false is none next =
        let here : total (weight w) ys ≤ total (weight w) xs + 0 = bounds_meant w w n 0 (stage_of nat flow s) (plain_bounds w n (stage_of nat flow s) (stage_plain nat flow s is)) xs in
        let behind : total (weight w) (through_row (row_of nat ss flow) (record { items = ys; ended = Some n })).passed ≤ total (weight w) ys + 0 = next (omega (arith, none)) ys in
        omega (arith, here, behind)

  bent_row : (stages : List Stage) → windows stages ≤ 1 → Leads (early a) (hit a j) (ends e stages) (row_of nat stages flow)
  bent_row [] few xs = omega (arith, total_less (weight (hit a j)) (weight (early a)) (hit_at true) xs)
  bent_row (s ∷ ss) few xs = split (is_window s) refl few (bent_row ss) where
    ys : List FlowItem
    ys = (meant (stage_of nat flow s) (record { items = xs; ended = Some n })).passed

    split : (b : Bool) → is_window s ≡ b → cond b 1 0 + windows ss ≤ 1 → (windows ss ≤ 1 → Leads (early a) (hit a j) (ends e ss) (row_of nat ss flow))
        → total (weight (hit a j)) (through_row (row_of nat ss flow) (record { items = ys; ended = Some n })).passed ≤ total (weight (early a)) xs + (cond b e 0 + ends e ss)
    split true is few next =
        let here : total (weight (hit a j)) ys ≤ total (weight (early a)) xs + e = bounds_meant (early a) (hit a j) n e (stage_of nat flow s) (stage_turns a j nat flow n s is) xs in
        let behind : total (weight (hit a j)) (through_row (row_of nat ss flow) (record { items = ys; ended = Some n })).passed ≤ total (weight (hit a j)) ys + 0 = plain_row (hit a j) ss (omega (arith, few)) ys in
        omega (arith, here, behind)
    split false is few next =
        let here : total (weight (early a)) ys ≤ total (weight (early a)) xs + 0 = bounds_meant (early a) (early a) n 0 (stage_of nat flow s) (plain_bounds (early a) n (stage_of nat flow s) (stage_plain nat flow s is)) xs in
        let behind : total (weight (hit a j)) (through_row (row_of nat ss flow) (record { items = ys; ended = Some n })).passed ≤ total (weight (early a)) ys + ends e ss = next (omega (arith, few)) ys in
        omega (arith, here, behind)

  -- A row, from where it begins to where it ends: where it may still have a window and has none, one may follow.
  record Row (b : Bool) (stages : List Stage) : Type 0 where
    behind : Bool
    leads : Leads (at b) (at behind) (ends e stages) (row_of nat stages flow)
    left : windows stages + room behind ≡ room b
    spared : ends e stages + spare behind ≤ spare b

  row_is : (b : Bool) (stages : List Stage) → windows stages ≤ room b → Row b stages
  row_is false stages h =
      let none : windows stages ≡ 0 = omega (arith, h) in
      let last : ends e stages ≡ 0 = (few_ends e stages (omega (arith, none))).1 none in
      record { behind = false; leads = λ xs. omega (arith, plain_row (hit a j) stages none xs, last); left = omega (arith, none); spared = omega (arith, last) }
  row_is true stages h = split (nat_eq (windows stages) 0) refl where
    is_none : nat_eq (windows stages) 0 ≡ true → windows stages ≡ 0
    is_none t = grind (arith, nat_tests)

    is_one : nat_eq (windows stages) 0 ≡ false → windows stages ≡ 1
    is_one t = grind (arith, nat_tests)

    split : (c : Bool) → nat_eq (windows stages) 0 ≡ c → Row true stages
    split true t =
        let none : windows stages ≡ 0 = is_none t in
        let last : ends e stages ≡ 0 = (few_ends e stages h).1 none in
        record { behind = true; leads = λ xs. omega (arith, plain_row (early a) stages none xs, last); left = omega (arith, none); spared = omega (arith, last) }
    split false t = record { behind = false; leads = bent_row stages h; left = omega (arith, is_one t); spared = omega (arith, (few_ends e stages h).0) }

  -- a row with nothing behind it
  last_row : (b : Bool) (stages : List Stage) → windows stages ≤ room b → Leads (at b) (hit a j) (ends e stages) (row_of nat stages flow)
  last_row b stages h xs =
      let r = row_is b stages h in
      omega (arith, r.leads xs, total_less (weight (hit a j)) (weight (at r.behind)) (hit_at r.behind) (through_row (row_of nat stages flow) (record { items = xs; ended = Some n })).passed)

  -- GROUPS

  abbrev pub all_lists : List (List FlowItem) → ℕ
  all_lists lists = total (λ ys. total (weight (hit a j)) ys) lists

  -- The lists weigh no more together than so much, and each no more than so much.
  pub record Weighs (b : Bool) (k : ℕ) (makes : FlowInput → Parts) : Type 0 where
    pub all : (xs : List FlowItem) → all_lists (makes (record { items = xs; ended = Some n })).lists ≤ total (weight (at b)) xs + k
    pub each : (xs : List FlowItem) → AllByRecursion (λ ys. total (weight (hit a j)) ys ≤ total (weight (at b)) xs + spare b) (makes (record { items = xs; ended = Some n })).lists

  all_more : (m k : ℕ) → m ≤ k → (lists : List (List FlowItem)) → AllByRecursion (λ ys. total (weight (hit a j)) ys ≤ m) lists → AllByRecursion (λ ys. total (weight (hit a j)) ys ≤ k) lists
  all_more m k le [] h = tt
  all_more m k le (ys ∷ lists) (h, hs) = (omega (arith, h, le), all_more m k le lists hs)

  all_both : (P : List FlowItem → Type 0) (xss yss : List (List FlowItem)) → AllByRecursion P xss → AllByRecursion P yss → AllByRecursion P (xss ++ yss)
  all_both P [] yss h k = k
  all_both P (xs ∷ xss) yss (h, hs) k = (h, all_both P xss yss hs k)

  leaf_weighs : (b : Bool) (stages : List Stage) → windows stages ≤ room b → Weighs b (ends e stages) (leaf (row_of nat stages flow))
  leaf_weighs b stages h = record {
    all = λ xs. omega (arith, last_row b stages h xs);
    each = λ xs. (omega (arith, last_row b stages h xs, few b h), tt);
  } where
    few : (b : Bool) → windows stages ≤ room b → ends e stages ≤ spare b
    few true h = (few_ends e stages h).0
    few false h =
        let none : windows stages ≡ 0 = omega (arith, h) in
        let last : ends e stages ≡ 0 = (few_ends e stages (omega (arith, none))).1 none in
        omega (arith, last)

  nothing_weighs : (b : Bool) → Weighs b 0 (shared [])
  nothing_weighs b = record { all = λ xs. omega arith; each = λ xs. tt }

  -- the first group, and those behind it
  shared_weighs : (b : Bool) (k m : ℕ) (p : Part) (ps : List Part) → Weighs b k p.makes → Weighs b m (shared ps) → Weighs b (k + m) (shared (p ∷ ps))
  shared_weighs b k m p ps h hs = record {
    all = λ xs.
        omega (
          arith,
          total_both (λ ys. total (weight (hit a j)) ys) (p.makes (only p.takes (record { items = xs; ended = Some n }))).lists (shared ps (only (others p.takes) (record { items = xs; ended = Some n }))).lists,
          h.all (filter p.takes xs),
          hs.all (filter (others p.takes) xs),
          total_split (weight (at b)) p.takes xs,
        );
    each = λ xs.
        all_both _ (p.makes (only p.takes (record { items = xs; ended = Some n }))).lists (shared ps (only (others p.takes) (record { items = xs; ended = Some n }))).lists
        (all_more (total (weight (at b)) (filter p.takes xs) + spare b) (total (weight (at b)) xs + spare b) (omega (arith, total_filter (weight (at b)) p.takes xs)) _ (h.each (filter p.takes xs)))
        (all_more (total (weight (at b)) (filter (others p.takes) xs) + spare b) (total (weight (at b)) xs + spare b) (omega (arith, total_filter (weight (at b)) (others p.takes) xs)) _ (hs.each (filter (others p.takes) xs)));
  }

  -- stages, and groups behind them
  staged_weighs : (b c : Bool) (k m : ℕ) (ss : List FlowStage) (ps : List Part) → Leads (at b) (at c) k ss → k + spare c ≤ spare b → Weighs c m (shared ps) → Weighs b (k + m) (staged ss ps)
  staged_weighs b c k m ss ps leads spared h = record {
    all = λ xs. omega (arith, leads xs, h.all (through_row ss (record { items = xs; ended = Some n })).passed);
    each = λ xs.
        all_more (total (weight (at c)) (through_row ss (record { items = xs; ended = Some n })).passed + spare c) (total (weight (at b)) xs + spare b) (omega (arith, leads xs, spared)) _
        (h.each (through_row ss (record { items = xs; ended = Some n })).passed);
  }

  more_room : (b : Bool) (k m : ℕ) (makes : FlowInput → Parts) → k ≤ m → Weighs b k makes → Weighs b m makes
  more_room b k m makes le h = record { all = λ xs. omega (arith, h.all xs, le); each = h.each }

  abbrev leaf_ends : List Leaf → ℕ
  leaf_ends leaves = ends e (flat_map (λ (l : Leaf). l.stages) leaves)

  leaves_weigh : (b : Bool) (leaves : List Leaf) → AllByRecursion (λ (l : Leaf). windows l.stages ≤ room b) leaves → Weighs b (leaf_ends leaves) (shared (map (leaf_part flow) (map (leaf_plan nat) leaves)))
  leaves_weigh b [] h = nothing_weighs b
  leaves_weigh b (l ∷ ls) (h, hs) =
      more_room b (ends e l.stages + leaf_ends ls) (leaf_ends (l ∷ ls)) (shared (map (leaf_part flow) (map (leaf_plan nat) (l ∷ ls)))) (omega (arith, total_both (λ s. cond (is_window s) e 0) l.stages (flat_map (λ (l : Leaf). l.stages) ls)))
      (shared_weighs b (ends e l.stages) (leaf_ends ls) (leaf_part flow (leaf_plan nat l)) (map (leaf_part flow) (map (leaf_plan nat) ls)) (leaf_weighs b l.stages h) (leaves_weigh b ls hs))

  below_weighs : (b : Bool) (stages : List Stage) (below : chains.Below) → Few b (paths_below stages below) → Weighs b (ends e (stages ++ stages_below below)) (made_below flow (row_of nat stages) (below_plan nat below))
  below_weighs b stages (chains.Output o) (h, hs) =
      more_room b (ends e stages) (ends e (stages ++ [])) (leaf (row_of nat stages flow)) (omega (arith, total_both (λ s. cond (is_window s) e 0) stages [])) (leaf_weighs b stages h)
  below_weighs b stages (chains.Inner []) h = record { all = λ xs. omega arith; each = λ xs. tt }
  below_weighs b stages (chains.Inner (l ∷ ls)) h =
      let few : windows stages ≤ room b = omega (arith, h.0, total_both (λ s. cond (is_window s) 1 0) stages l.stages) in
      let r = row_is b stages few in
      let inner = flat_map (λ (l : Leaf). l.stages) (l ∷ ls) in
      more_room b (ends e stages + ends e inner) (ends e (stages ++ inner)) (made_below flow (row_of nat stages) (below_plan nat (chains.Inner (l ∷ ls)))) (omega (arith, total_both (λ s. cond (is_window s) e 0) stages inner))
      (staged_weighs b r.behind (ends e stages) (ends e inner) (row_of nat stages flow) (map (leaf_part flow) (map (leaf_plan nat) (l ∷ ls))) r.leads r.spared (leaves_weigh r.behind (l ∷ ls) (on_path b r.behind stages r.left (l ∷ ls) h)))

  abbrev stages_in : List Group → List Stage
  stages_in groups = flat_map (λ (g : Group). g.stages ++ stages_below g.below) groups

  groups_weigh : (b c : Bool) (stages : List Stage) → windows stages + room c ≡ room b → (groups : List Group) → Few b (paths_through stages groups) → Weighs c (ends e (stages_in groups)) (shared (map (group_part flow) (map (group_plan nat) groups)))
  groups_weigh b c stages left [] h = nothing_weighs c
  groups_weigh b c stages left (g ∷ gs) h =
      let parts = all_front (λ path. windows path ≤ room b) (paths_below (stages ++ g.stages) g.below) (paths_through stages gs) h in
      let here = g.stages ++ stages_below g.below in
      more_room c (ends e here + ends e (stages_in gs)) (ends e (stages_in (g ∷ gs))) (shared (map (group_part flow) (map (group_plan nat) (g ∷ gs)))) (omega (arith, total_both (λ s. cond (is_window s) e 0) here (stages_in gs)))
      (shared_weighs c (ends e here) (ends e (stages_in gs)) (group_part flow (group_plan nat g)) (map (group_part flow) (map (group_plan nat) gs))
      (below_weighs c g.stages g.below (behind_stages b c stages g.stages g.below left parts.0)) (groups_weigh b c stages left gs parts.1))

  -- A chain with no path has no leaf groups.
  abbrev IsEmpty : List Group → Type 0
  IsEmpty groups = (xs : List FlowItem) → (shared (map (group_part flow) (map (group_plan nat) groups)) (record { items = xs; ended = Some n })).lists ≡ []

  some_path : (b : Bool) (stages : List Stage) (groups : List Group) → Few b (paths_through stages groups) → (windows stages ≤ room b) ⊎ IsEmpty groups
  some_path b stages [] h = inr (λ xs. refl)
  some_path b stages (g ∷ gs) h = by g.below h (some_path b stages gs) where
    by : (below : chains.Below) → Few b (paths_below (stages ++ g.stages) below ++ paths_through stages gs) → (Few b (paths_through stages gs) → (windows stages ≤ room b) ⊎ IsEmpty gs) → (windows stages ≤ room b) ⊎ IsEmpty (record g { below = below } ∷ gs)
    by (chains.Output o) h next = inl (omega (arith, h.0, total_both (λ s. cond (is_window s) 1 0) stages g.stages))
    by (chains.Inner (l ∷ ls)) h next =
        inl (omega (arith, h.0, total_both (λ s. cond (is_window s) 1 0) (stages ++ g.stages) l.stages, total_both (λ s. cond (is_window s) 1 0) stages g.stages))
    by (chains.Inner []) h next = split (next h) where
      split : (windows stages ≤ room b) ⊎ IsEmpty gs → (windows stages ≤ room b) ⊎ IsEmpty (record g { below = chains.Inner [] } ∷ gs)
      split (inl few) = inl few
      split (inr none) = inr (λ xs. none (filter (others (group_part flow (group_plan nat (record g { below = chains.Inner [] }))).takes) xs))

  -- THE CHAIN

  parsed_first : (p q : Weight) (k : ℕ) (u : chains.Unparsed) (ss : List FlowStage) → Leads p q k ss → Leads p q k (before_stages u ++ ss)
  parsed_first p q k chains.UnparsedPass ss h xs = h xs
  parsed_first p q k chains.UnparsedDrop ss h xs =
      let ys : List FlowItem = (meant (item_stage parsed_stage) (record { items = xs; ended = Some n })).passed in
      let here : total (weight p) ys ≤ total (weight p) xs + 0 = bounds_meant p p n 0 (item_stage parsed_stage) (plain_bounds p n (item_stage parsed_stage) parsed_plain) xs in
      let next : total (weight q) (through_row ss (record { items = ys; ended = Some n })).passed ≤ total (weight p) ys + k = h ys in
      omega (arith, here, next)

  tenant_weighs : (u : chains.Unparsed) (stages : List Stage) (groups : List Group) → Few true (paths_through stages groups)
      → Weighs true (ends e (stages ++ stages_in groups)) (staged (before_stages u ++ row_of nat stages flow) (map (group_part flow) (map (group_plan nat) groups)))
  tenant_weighs u stages groups h = split (some_path true stages groups h) where
    ps : List Part
    ps = map (group_part flow) (map (group_plan nat) groups)

    ss : List FlowStage
    ss = before_stages u ++ row_of nat stages flow

    split : (windows stages ≤ 1) ⊎ IsEmpty groups → Weighs true (ends e (stages ++ stages_in groups)) (staged ss ps)
    split (inl few) =
        let r = row_is true stages few in
        more_room true (ends e stages + ends e (stages_in groups)) (ends e (stages ++ stages_in groups)) (staged ss ps) (omega (arith, total_both (λ s. cond (is_window s) e 0) stages (stages_in groups)))
        (staged_weighs true r.behind (ends e stages) (ends e (stages_in groups)) ss ps (parsed_first (early a) (at r.behind) (ends e stages) u (row_of nat stages flow) r.leads) r.spared
        (groups_weigh true r.behind stages r.left groups h))
    split (inr none) = record {
      all = λ xs. let gone : all_lists (shared ps (record { items = (through_row ss (record { items = xs; ended = Some n })).passed; ended = Some n })).lists ≡ 0 = ap all_lists (none (through_row ss (record { items = xs; ended = Some n })).passed) in omega (arith, gone);
      each = λ xs. subst (AllByRecursion (λ ys. total (weight (hit a j)) ys ≤ total (weight (early a)) xs + e)) (sym (none (through_row ss (record { items = xs; ended = Some n })).passed)) tt;
    }

pub few_paths : (paths : List (List Stage)) → list_all (λ path. nat_le (windows_in path) 1) paths ≡ true → AllByRecursion (λ path. windows path ≤ 1) paths
few_paths [] h = tt
few_paths (path ∷ paths) h =
    let parts = and_parts (nat_le (windows_in path) 1) (list_all (λ path. nat_le (windows_in path) 1) paths) h in
    (omega (arith, at_most (windows_in path) parts.0, windows_are path), few_paths paths parts.1) where
      at_most : (k : ℕ) → nat_le k 1 ≡ true → k ≤ 1
      at_most k t = grind (arith, nat_tests)

-- What a chain with at most one window on each path makes of a flow: how often the key (a, j) stands in all leaf groups, and in each.
pub chain_weighs : (chain : Chain) (flow : Flow) (n a j : ℕ) → has_one_window chain ≡ true → Weighs chain.nat flow n a j true (ends (rest a j flow n) (all_stages chain)) (plans.flow_meaning (plan_of chain) flow)
chain_weighs chain flow n a j h = tenant_weighs chain.nat flow n a j chain.unparsed chain.stages chain.groups (few_paths (paths_of chain) h)
