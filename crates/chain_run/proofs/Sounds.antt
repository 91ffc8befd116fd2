-- What the paths of a right chain say of its stages.
use Rattle.std.proofs.Common.{◌≡◌, ◌≤◌, ◌+◌, ◌||◌, ℕ, List, [], ◌∷◌, ◌++◌, map, length, Bool, true, false, not, cond, nat_le, Option, is_some, refl, sym, subst, ◌∙◌, arith, true≢false}
use Rattle.std.specs.Prelude.{IsTrue}
use Rattle.std.proofs.lemmas.Bool.{and_parts, leb-true}
use Rattle.std.proofs.lemmas.List.Sums.{sum_by-append}
use Rattle.std.specs.List.{AllByRecursion, list_all, list_any}
use Rattle.brick_spec.specs.FlowClass.{NatPlan}
use Rattle.chain_spec.specs.ChainSet.{Stage, Ttl, SetTos, Only, Firewall, Route, Nat, Balance, Window, Scan, Leaf, Below, Output, Inner, is_nat, is_window, windows_in, has_nat, has_one_window, has_plan_for_nat, has_outputs, paths_of, paths_through, paths_below, is_below_right, is_between, are_distinct, IsChainRight}
use Rattle.chain_spec.specs.ChainSet as chains
use Rattle.chain_types.specs.StageView.{stages_view}
use Rattle.chain_types.specs.GroupView.{group_view}
use Rattle.chain_types.specs.View.{chain_view}
use Rattle.chain_types.specs.declared.group.Group.{Group}
use Rattle.chain_types.specs.declared.chain.Chain.{Chain}
use Rattle.chain_run.specs.Sound.{IsServed, AreSound, IsLeafSound, IsBelowSound, IsGroupSound, IsChainSound, WindowFits, WindowsFit, LeafFits, BelowFits, GroupFits}

-- addresses are translated by a plan
abbrev HasPlan : Option NatPlan → Stage → Type 0
HasPlan nat s = is_nat s ≡ true → IsTrue (is_some nat)

-- a way through a chain: its stages, of which at most one is a window
record IsWay (nat : Option NatPlan) (path : List Stage) : Type 0 where
  plans : AllByRecursion (HasPlan nat) path
  one : windows_in path ≤ 1

all_parts : {X : Type 0} (P : X → Type 0) (xs ys : List X) → AllByRecursion P (xs ++ ys) → AllByRecursion P xs × AllByRecursion P ys
all_parts P [] ys h = (tt, h)
all_parts P (x ∷ xs) ys (h, hs) = let t = all_parts P xs ys hs in ((h, t.0), t.1)

no_nat : (b : Bool) → b ≡ false → b ≡ true → ⊥
no_nat b f t = true≢false (sym t ∙ f)

or_none : (a b : Bool) → (a || b) ≡ false → (a ≡ false) × (b ≡ false)
or_none true b h = absurd (true≢false h)
or_none false b h = (refl, h)

none_has : (nat : Option NatPlan) (path : List Stage) → list_any is_nat path ≡ false → AllByRecursion (HasPlan nat) path
none_has nat [] h = tt
none_has nat (s ∷ ss) h = let t = or_none (is_nat s) (list_any is_nat ss) h in (λ e. absurd (no_nat (is_nat s) t.0 e), none_has nat ss t.1)

some_has : (nat : Option NatPlan) (path : List Stage) → is_some nat ≡ true → AllByRecursion (HasPlan nat) path
some_has nat [] h = tt
some_has nat (s ∷ ss) h = (λ e. h, some_has nat ss h)

ways_without : (nat : Option NatPlan) (paths : List (List Stage)) → list_any (list_any is_nat) paths ≡ false → list_all (λ path. nat_le (windows_in path) 1) paths ≡ true → AllByRecursion (IsWay nat) paths
ways_without nat [] h one = tt
ways_without nat (p ∷ ps) h one =
    let t = or_none (list_any is_nat p) (list_any (list_any is_nat) ps) h in
    let u = and_parts (nat_le (windows_in p) 1) (list_all (λ path. nat_le (windows_in path) 1) ps) one in
    (record { plans = none_has nat p t.0; one = leb-true (windows_in p) 1 u.0 }, ways_without nat ps t.1 u.1)

ways_with : (nat : Option NatPlan) (paths : List (List Stage)) → is_some nat ≡ true → list_all (λ path. nat_le (windows_in path) 1) paths ≡ true → AllByRecursion (IsWay nat) paths
ways_with nat [] h one = tt
ways_with nat (p ∷ ps) h one =
    let u = and_parts (nat_le (windows_in p) 1) (list_all (λ path. nat_le (windows_in path) 1) ps) one in
    (record { plans = some_has nat p h; one = leb-true (windows_in p) 1 u.0 }, ways_with nat ps h u.1)

-- each path of a right chain is a way
right_ways : (nat : Option NatPlan) (paths : List (List Stage)) → (not (list_any (list_any is_nat) paths) || is_some nat) ≡ true → list_all (λ path. nat_le (windows_in path) 1) paths ≡ true → AllByRecursion (IsWay nat) paths
right_ways nat paths plan one = by (list_any (list_any is_nat) paths) refl plan where
  by : (any : Bool) → list_any (list_any is_nat) paths ≡ any → (not any || is_some nat) ≡ true → AllByRecursion (IsWay nat) paths
  by true e h = ways_with nat paths h one
  by false e h = ways_without nat paths e one

-- PARTS OF A WAY

module _ (nat : Option NatPlan) (count bytes : ℕ) where
  served : (s : Stage) → HasPlan nat s → WindowFits count bytes s → IsServed nat count bytes s
  served (Window size reach) plan fits = fits
  served Nat plan fits = plan refl
  served Ttl plan fits = tt
  served (SetTos v) plan fits = tt
  served (Only m) plan fits = tt
  served (Firewall v t rs) plan fits = tt
  served (Route m rs) plan fits = tt
  served (Balance bs cs) plan fits = tt
  served (Scan t r) plan fits = tt

  all_served : (ss : List Stage) → AllByRecursion (HasPlan nat) ss → WindowsFit count bytes ss → AllByRecursion (IsServed nat count bytes) ss
  all_served [] plans fits = tt
  all_served (s ∷ ss) (plan, plans) (fit, fits) = (served s plan fit, all_served ss plans fits)

  windows_both : (xs ys : List Stage) → windows_in (xs ++ ys) ≡ windows_in xs + windows_in ys
  windows_both xs ys = sum_by-append (λ s. cond (is_window s) 1 0) xs ys

  -- the stages behind others on a way
  behind_sound : (xs ys : List Stage) → IsWay nat (xs ++ ys) → WindowsFit count bytes ys → AreSound nat count bytes (windows_in xs) ys
  behind_sound xs ys way fits = record {
    served = all_served ys (all_parts (HasPlan nat) xs ys way.plans).1 fits;
    one = let n = windows_both xs ys in let o = way.one in omega (arith, n, o);
  }

  front_is : (xs ys : List Stage) → IsWay nat (xs ++ ys) → IsWay nat xs
  front_is xs ys way = record {
    plans = (all_parts (HasPlan nat) xs ys way.plans).0;
    one = let n = windows_both xs ys in let o = way.one in omega (arith, n, o);
  }

  first_sound : (ss : List Stage) → IsWay nat ss → WindowsFit count bytes ss → AreSound nat count bytes 0 ss
  first_sound ss way fits = record { served = all_served ss way.plans fits; one = let o = way.one in omega (arith, o) }

  more_before : (m n : ℕ) (ss : List Stage) → m ≡ n → AreSound nat count bytes m ss → AreSound nat count bytes n ss
  more_before m n ss e h = subst (λ k. AreSound nat count bytes k ss) e h

  leaves_sound : (xs ys : List Stage) (ls : List Leaf) → AllByRecursion (IsWay nat) (map (λ (l : Leaf). (xs ++ ys) ++ l.stages) ls) → AllByRecursion (LeafFits count bytes) ls
      → AllByRecursion (IsLeafSound nat count bytes (windows_in xs + windows_in ys)) ls
  leaves_sound xs ys [] ways fits = tt
  leaves_sound xs ys (l ∷ ls) (way, ways) (fit, fits) =
      (more_before (windows_in (xs ++ ys)) (windows_in xs + windows_in ys) l.stages (windows_both xs ys) (behind_sound (xs ++ ys) l.stages way fit), leaves_sound xs ys ls ways fits)

  -- the stages before what stands behind a group's are a way
  before_below : (ss : List Stage) (b : Below) → is_below_right b ≡ true → AllByRecursion (IsWay nat) (paths_below ss b) → IsWay nat ss
  before_below ss (Output o) right (way, ways) = way
  before_below ss (Inner []) right ways = absurd (true≢false (sym right))
  before_below ss (Inner (l ∷ ls)) right (way, ways) = front_is ss l.stages way

  below_sound : (xs ys : List Stage) (b : Below) → is_below_right b ≡ true → AllByRecursion (IsWay nat) (paths_below (xs ++ ys) b) → BelowFits count bytes b → IsBelowSound nat count bytes (windows_in xs + windows_in ys) b
  below_sound xs ys (Output o) right ways fits = tt
  below_sound xs ys (Inner leaves) right ways fits =
      let parts = and_parts (is_between 1 4 (length leaves)) (are_distinct (map (λ l. l.name) leaves)) right in
      let range = and_parts (nat_le 1 (length leaves)) (nat_le (length leaves) 4) parts.0 in
      (leb-true 1 (length leaves) range.0, leb-true (length leaves) 4 range.1, leaves_sound xs ys leaves ways fits)

  group_sound : (xs : List Stage) (g : chains.Group) → is_below_right g.below ≡ true → AllByRecursion (IsWay nat) (paths_below (xs ++ g.stages) g.below) → GroupFits count bytes g → IsGroupSound nat count bytes (windows_in xs) g
  group_sound xs g right ways (fit, fits) = (behind_sound xs g.stages (before_below (xs ++ g.stages) g.below right ways) fit, below_sound xs g.stages g.below right ways fits)

  groups_sound : (xs : List Stage) (gs : List Group) → AllByRecursion (IsWay nat) (paths_through xs (map group_view gs)) → AllByRecursion (GroupFits count bytes) (map group_view gs)
      → AllByRecursion (IsGroupSound nat count bytes (windows_in xs)) (map group_view gs)
  groups_sound xs [] ways fits = tt
  groups_sound xs (g ∷ gs) ways (fit, fits) =
      let parts = all_parts (IsWay nat) (paths_below (xs ++ (group_view g).stages) (group_view g).below) (paths_through xs (map group_view gs)) ways in
      (group_sound xs (group_view g) g.below_right parts.0 fit, groups_sound xs gs parts.1 fits)

  -- the stages before some groups are a way
  before_groups : (xs : List Stage) (gs : List Group) → 1 ≤ length gs → AllByRecursion (IsWay nat) (paths_through xs (map group_view gs)) → IsWay nat xs
  before_groups xs [] some ways = absurd (omega (arith, some))
  before_groups xs (g ∷ gs) some ways =
      let parts = all_parts (IsWay nat) (paths_below (xs ++ (group_view g).stages) (group_view g).below) (paths_through xs (map group_view gs)) ways in
      front_is xs (group_view g).stages (before_below (xs ++ (group_view g).stages) (group_view g).below g.below_right parts.0)

-- A chain whose windows all fit is sound.
pub chain_sound : (count bytes : ℕ) (c : Chain) → WindowsFit count bytes (stages_view c.stages.items) → AllByRecursion (GroupFits count bytes) (map group_view c.groups.items) → IsChainSound count bytes (chain_view c)
chain_sound count bytes c own fits =
    let v = chain_view c in
    let ways = right_ways v.nat (paths_of v) c.right.0 c.right.1.0 in
    (first_sound v.nat count bytes v.stages (before_groups v.nat count bytes v.stages c.groups.items c.some_groups.0 ways) own, groups_sound v.nat count bytes v.stages c.groups.items ways fits)
