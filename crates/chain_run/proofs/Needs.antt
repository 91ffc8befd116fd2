-- A need that grows.
use Rattle.std.proofs.Common.{◌≡◌, ℕ, suc, zero, ◌+◌, ◌≤◌, ◌<◌, List, [], ◌∷◌, map, take, get_or, length, true, nat_le, sym, subst, arith}
use Rattle.std.proofs.lemmas.Bool.{and_parts, leb-true}
use Rattle.std.specs.List.{AllByRecursion, list_all}
use Rattle.chain_spec.specs.ChainSet.{Stage, Ttl, SetTos, Only, Firewall, Route, Nat, Balance, Window, Scan, Leaf, Below, Output, Inner, Group, is_stage_right, are_stages_right, is_between}
use Rattle.chain_run.specs.Sound.{WindowFits, WindowsFit, LeafFits, BelowFits, GroupFits, IsMore}
use Rattle.chain_run.proofs.Checked.{all_next}

pub each_goes : {X : Type 0} (P Q : X → Type 0) → ((x : X) → P x → Q x) → (xs : List X) → AllByRecursion P xs → AllByRecursion Q xs
each_goes P Q k [] h = tt
each_goes P Q k (x ∷ xs) (h, hs) = (k x h, each_goes P Q k xs hs)

module _ (c b d e : ℕ) (more : c ≤ d) (longer : b ≤ e) where
  window_grows : (s : Stage) → WindowFits c b s → WindowFits d e s
  window_grows (Window size reach) (few, room) = (omega (arith, few, more), omega (arith, room, longer))
  window_grows Ttl h = tt
  window_grows (SetTos v) h = tt
  window_grows (Only m) h = tt
  window_grows (Firewall v t rs) h = tt
  window_grows (Route m rs) h = tt
  window_grows Nat h = tt
  window_grows (Balance bs cs) h = tt
  window_grows (Scan t r) h = tt

  pub windows_grow : (ss : List Stage) → WindowsFit c b ss → WindowsFit d e ss
  windows_grow = each_goes (WindowFits c b) (WindowFits d e) window_grows

  pub leaf_grows : (l : Leaf) → LeafFits c b l → LeafFits d e l
  leaf_grows l h = windows_grow l.stages h

  below_grows : (x : Below) → BelowFits c b x → BelowFits d e x
  below_grows (Output o) h = tt
  below_grows (Inner leaves) h = each_goes (LeafFits c b) (LeafFits d e) leaf_grows leaves h

  pub group_grows : (g : Group) → GroupFits c b g → GroupFits d e g
  group_grows g (h, k) = (windows_grow g.stages h, below_grows g.below k)

  -- one more fits in what grew
  pub next_fits : {X Y : Type 0} (view : Y → X) (P : ℕ → ℕ → X → Type 0) (grows : (x : X) → P c b x → P d e x) (ys : List Y) (i : ℕ) (y : Y) → i < length ys → y ≡ get_or ys i y
      → AllByRecursion (P c b) (map view (take i ys)) → P d e (view y) → AllByRecursion (P d e) (map view (take (i + 1) ys))
  next_fits view P grows ys i y lt is h one = all_next view (P d e) ys i y lt is (each_goes (P c b) (P d e) grows (map view (take i ys)) h) one

  pub next_window : {Y : Type 0} (view : Y → Stage) (ys : List Y) (i : ℕ) (y : Y) → i < length ys → y ≡ get_or ys i y → WindowsFit c b (map view (take i ys)) → WindowFits d e (view y) → WindowsFit d e (map view (take (i + 1) ys))
  next_window view = next_fits view WindowFits window_grows

  pub next_leaf : {Y : Type 0} (view : Y → Leaf) (ys : List Y) (i : ℕ) (y : Y) → i < length ys → y ≡ get_or ys i y → AllByRecursion (LeafFits c b) (map view (take i ys)) → LeafFits d e (view y) → AllByRecursion (LeafFits d e) (map view (take (i + 1) ys))
  next_leaf view = next_fits view LeafFits leaf_grows

  pub next_group : {Y : Type 0} (view : Y → Group) (ys : List Y) (i : ℕ) (y : Y) → i < length ys → y ≡ get_or ys i y → AllByRecursion (GroupFits c b) (map view (take i ys)) → GroupFits d e (view y) → AllByRecursion (GroupFits d e) (map view (take (i + 1) ys))
  next_group view = next_fits view GroupFits group_grows

pub more_still : (a b c d e f : ℕ) → IsMore a b c d → IsMore c d e f → IsMore a b e f
more_still a b c d e f (h, k, few) (m, n, last) = (omega (arith, h, m), omega (arith, k, n), last)

-- each of right stages is right
pub right_at : {Y : Type 0} (view : Y → Stage) (ys : List Y) (i : ℕ) (y : Y) → i < length ys → y ≡ get_or ys i y → are_stages_right (map view ys) ≡ true → is_stage_right (view y) ≡ true
right_at view ys i y lt is h = subst (λ z. is_stage_right (view z) ≡ true) (sym is) (go ys i lt (and_parts (nat_le (length (map view ys)) 32) (list_all is_stage_right (map view ys)) h).1) where
  go : (zs : List _) (k : ℕ) → k < length zs → list_all is_stage_right (map view zs) ≡ true → is_stage_right (view (get_or zs k y)) ≡ true
  go [] k l h = absurd (omega (arith, l))
  go (z ∷ zs) zero l h = (and_parts (is_stage_right (view z)) (list_all is_stage_right (map view zs)) h).0
  go (z ∷ zs) (suc k) l h = go zs k (omega arith) (and_parts (is_stage_right (view z)) (list_all is_stage_right (map view zs)) h).1

-- the ranges of a window
pub window_ranges : (size reach : ℕ) → is_stage_right (Window size reach) ≡ true → (64 ≤ size) × (size ≤ 1460) × (1460 ≤ reach) × (reach ≤ 1048576)
window_ranges size reach h =
    let parts = and_parts (is_between 64 1460 size) (is_between 1460 1048576 reach) h in
    let s = and_parts (nat_le 64 size) (nat_le size 1460) parts.0 in
    let r = and_parts (nat_le 1460 reach) (nat_le reach 1048576) parts.1 in
    (leb-true 64 size s.0, leb-true size 1460 s.1, leb-true 1460 reach r.0, leb-true reach 1048576 r.1)
