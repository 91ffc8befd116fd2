-- What stands at the end is what the chain answers.
use Rattle.std.proofs.Common.{◌≡◌, ◌≢◌, ℕ, ◌+◌, ◌-◌, ◌<◌, List, [], ◌∷◌, ◌++◌, map, Bool, true, false, not, ◌||◌, ◌&&◌, Option, Some, None, nat_eq, nat_lt, if◌then◌else◌, cond, refl, ap, sym, subst, ◌∙◌, append-nil, append_assoc, get_or, slice_index, length, min, zero, suc, arith}
use Rattle.std.proofs.lemmas.Bool.Decides.{nat_tests}
use Rattle.std.specs.Cmp.{nat_cmp_total, IsStrictWeakOrder}
use Rattle.std.specs.Ordering.{ordering_then, nat_cmp, is_lt}
use Rattle.std.proofs.lemmas.List.{length-map, map-append}
use Rattle.std.proofs.lemmas.Cmp.{then_total, on_total}
use Rattle.std.proofs.lemmas.List.Sorted.{ranks_by, sum_by-IsPermutation}
use Rattle.std.proofs.lemmas.List.Sums.{sum_by-cons, sum_by-append}
use Rattle.std.specs.List.{flat_map, filter, list_any, AllByRecursion, sum_by, count_by}
use Rattle.std.specs.List.Sorted.{ties}
use Rattle.brick_spec.specs.Flow.{Flow, Class}
use Rattle.brick_spec.specs.Item.{Item}
use Rattle.brick_spec.specs.FlowStage.{FlowItem, Drop, FlowInput}
use Rattle.brick_spec.specs.GroupOutput.{ordered_by, comes_before, in_key_order}
use Rattle.flow_spec.specs.Parts.{Parts}
use Rattle.flow_spec.specs.Answer.{ClassedItem, is_of, flow_item, flows_of, given_to}
use Rattle.flow_work.specs.Meaning.{Meaning, came_items, AreOf, numbers_of, item_of, is_for, parts_by}
use Rattle.flow_work.specs.Node.{joined, blanks, parts_both, items_in, IsNode}
use Rattle.flow_work.specs.Log.{Entry, parts_at, fresh, group_of, all_dropped, flows_in, ended_at, AreCounts, EndedFor, OwnsKeys, AreRecords}
use Rattle.flow_work.proofs.Nodes.{length_joined, get_joined}
use Rattle.flow_work.proofs.Logs.{same_number, itself, any_more}
use Rattle.flow_work.proofs.Merged.{merged, AreApart, Owned, Within, none_of}

pub weak : IsStrictWeakOrder comes_before
weak = ranks_by (then_total (on_total (λ (x : Item). x.a) nat_cmp_total) (on_total (λ (x : Item). x.j) nat_cmp_total)) (λ (x : Item). x)

abbrev pub number_of : Entry → ℕ
number_of e = e.number

abbrev pub part_of : ℕ → Entry → List Item
part_of g e = given_to g e.parts

-- what ties has one first part
lt_of : (x y : Item) → nat_lt x.a y.a ≡ true → is_lt (ordering_then (nat_cmp x.a y.a) (nat_cmp x.j y.j)) ≡ true
lt_of x y h = rw h refl

not_both : (x y : Item) → ties comes_before x y ≡ true → nat_lt x.a y.a ≡ true → ⊥
not_both x y t h = no' (ap (λ b. not b && not (comes_before y x)) (sym (lt_of x y h)) ∙ t) where
  no' : false ≡ true → ⊥
  no' z = cc

not_back : (x y : Item) → ties comes_before x y ≡ true → nat_lt y.a x.a ≡ true → ⊥
not_back x y t h = last (not (comes_before x y)) (ap (λ b. not (comes_before x y) && not b) (sym (lt_of y x h)) ∙ t) where
  last : (b : Bool) → (b && false) ≡ true → ⊥
  last true z = cc
  last false z = cc

pub tied_keys : (x y : Item) → ties comes_before x y ≡ true → x.a ≡ y.a
tied_keys x y t = split (nat_lt x.a y.a) (nat_lt y.a x.a) refl refl where
  neither : (a b : ℕ) → nat_lt a b ≡ false → nat_lt b a ≡ false → a ≡ b
  neither a b h k = grind (arith, nat_tests)

  split : (b c : Bool) → nat_lt x.a y.a ≡ b → nat_lt y.a x.a ≡ c → x.a ≡ y.a
  split true c h k = absurd (not_both x y t h)
  split false true h k = absurd (not_back x y t k)
  split false false h k = neither x.a y.a h k

-- LISTS

pub all_front : {X : Type 0} (P : X → Type 0) (xs ys : List X) → AllByRecursion P (xs ++ ys) → AllByRecursion P xs
all_front P [] ys h = tt
all_front P (x ∷ xs) ys (h, hs) = (h, all_front P xs ys hs)

pub all_back : {X : Type 0} (P : X → Type 0) (xs ys : List X) → AllByRecursion P (xs ++ ys) → AllByRecursion P ys
all_back P [] ys h = h
all_back P (x ∷ xs) ys (h, hs) = all_back P xs ys hs

pub all_then : {X : Type 0} (P Q : X → Type 0) → ((x : X) → P x → Q x) → (xs : List X) → AllByRecursion P xs → AllByRecursion Q xs
all_then P Q k [] h = tt
all_then P Q k (x ∷ xs) (h, hs) = (k x h, all_then P Q k xs hs)

abbrev entries_of : ℕ → List Entry → List Entry
entries_of f log = filter (λ (e : Entry). nat_eq e.number f) log

given_both : (g : ℕ) (p q : Parts) → g < length p.lists → given_to g (parts_both p q) ≡ given_to g p ++ given_to g q
given_both g p q l = ap (map item_of) (get_joined p.lists q.lists g l) ∙ map-append item_of (get_or p.lists g []) (get_or q.lists g [])

flow_list : (f g : ℕ) (base : Parts) (log : List Entry) → g < length base.lists → given_to g (parts_at f base log) ≡ given_to g base ++ group_of g (entries_of f log)
flow_list f g base [] l = sym (append-nil (given_to g base))
flow_list f g base (e ∷ es) l = split (nat_eq e.number f) (λ b h. flow_list f g b es h) where
  split : (b : Bool) → ((c : Parts) → g < length c.lists → given_to g (parts_at f c es) ≡ given_to g c ++ group_of g (entries_of f es))
      → given_to g (parts_at f (if b then parts_both base e.parts else base) es) ≡ given_to g base ++ group_of g (cond b (e ∷ entries_of f es) (entries_of f es))
  split true next =
      let long : g < length (parts_both base e.parts).lists = subst (λ (n : ℕ). g < n) (sym (length_joined base.lists e.parts.lists)) l in
      next (parts_both base e.parts) long ∙ (ap (λ xs. xs ++ group_of g (entries_of f es)) (given_both g base e.parts l) ∙ append_assoc (given_to g base) (given_to g e.parts) (group_of g (entries_of f es)))
  split false next = next base l

flow_drops : (f : ℕ) (base : Parts) (log : List Entry) → (parts_at f base log).dropped ≡ base.dropped ++ all_dropped (entries_of f log)
flow_drops f base [] = sym (append-nil base.dropped)
flow_drops f base (e ∷ es) = split (nat_eq e.number f) (λ c. flow_drops f c es) where
  split : (b : Bool) → ((c : Parts) → (parts_at f c es).dropped ≡ c.dropped ++ all_dropped (entries_of f es))
      → (parts_at f (if b then parts_both base e.parts else base) es).dropped ≡ base.dropped ++ all_dropped (cond b (e ∷ entries_of f es) (entries_of f es))
  split true next = next (parts_both base e.parts) ∙ append_assoc base.dropped e.parts.dropped (all_dropped (entries_of f es))
  split false next = next base

empty_at : (g : ℕ) (xss : List (List Item)) → given_to g (fresh xss) ≡ []
empty_at g [] = refl
empty_at zero (xs ∷ xss) = refl
empty_at (suc g) (xs ∷ xss) = empty_at g xss

right : (a b : Bool) → b ≡ true → (a || b) ≡ true
right true b h = refl
right false b h = h

left : (a b : Bool) → a ≡ true → (a || b) ≡ true
left a b h = ap (λ c. c || b) h

-- entries whose flows' items have it, have it
all_entries : (own : Item → ℕ) (part : Entry → List Item) (log : List Entry)
    → ((f : ℕ) → AllByRecursion (λ y. own y ≡ f) (flat_map part (entries_of f log))) → AllByRecursion (λ (e : Entry). AllByRecursion (λ y. own y ≡ e.number) (part e)) log
all_entries own part [] h = tt
all_entries own part (e ∷ es) h = (first, all_entries own part es (λ f. split f (nat_eq e.number f) (h f))) where
  split : (f : ℕ) (b : Bool) → AllByRecursion (λ y. own y ≡ f) (flat_map part (cond b (e ∷ entries_of f es) (entries_of f es))) → AllByRecursion (λ y. own y ≡ f) (flat_map part (entries_of f es))
  split f true k = all_back (λ y. own y ≡ f) (part e) (flat_map part (entries_of f es)) k
  split f false k = k

  here : (b : Bool) → nat_eq e.number e.number ≡ b → b ≡ true → AllByRecursion (λ y. own y ≡ e.number) (flat_map part (cond b (e ∷ entries_of e.number es) (entries_of e.number es))) → AllByRecursion (λ y. own y ≡ e.number) (part e)
  here true p q k = all_front (λ y. own y ≡ e.number) (part e) (flat_map part (entries_of e.number es)) k
  here false p q k = absurd (cc' q) where
    cc' : false ≡ true → ⊥
    cc' z = cc

  first : AllByRecursion (λ y. own y ≡ e.number) (part e)
  first = here (nat_eq e.number e.number) refl (itself e.number) (h e.number)

-- the items that came of a flow have its keys
pub came_owned : (owner : ℕ → ℕ) (f : Flow) (list : List ClassedItem) → AllByRecursion (λ (c : ClassedItem). owner c.item.a ≡ c.class.flow.number) list → AllByRecursion (λ (x : FlowItem). owner x.item.a ≡ f.number) (came_items f list)
came_owned owner f [] h = tt
came_owned owner f (c ∷ cs) (h, hs) = split (is_of f c) refl (came_owned owner f cs hs) where
  split : (b : Bool) → nat_eq c.class.flow.number f.number ≡ b → AllByRecursion (λ (x : FlowItem). owner x.item.a ≡ f.number) (came_items f cs) → AllByRecursion (λ (x : FlowItem). owner x.item.a ≡ f.number) (map flow_item (cond b (c ∷ filter (is_of f) cs) (filter (is_of f) cs)))
  split true e k = (h ∙ same_number c.class.flow.number f.number e, k)
  split false e k = k

as_owned : (own : Item → ℕ) (alike : (x y : Item) → ties comes_before x y ≡ true → own x ≡ own y) (g : ℕ) (log : List Entry) → AllByRecursion (λ (e : Entry). AllByRecursion (λ y. own y ≡ e.number) (part_of g e)) log
    → Owned comes_before weak own number_of (part_of g) alike log
as_owned own alike g [] h = tt
as_owned own alike g (e ∷ es) (h, hs) = (h, as_owned own alike g es hs)

as_within : (own : Item → ℕ) (alike : (x y : Item) → ties comes_before x y ≡ true → own x ≡ own y) (g : ℕ) (fs : List ℕ) (log : List Entry) → AllByRecursion (λ (e : Entry). list_any (nat_eq e.number) fs ≡ true) log
    → Within comes_before weak own number_of (part_of g) alike fs log
as_within own alike g fs [] h = tt
as_within own alike g fs (e ∷ es) (h, hs) = (h, as_within own alike g fs es hs)

-- SUMS

none_there : (m c : ℕ) (fs : List ℕ) → list_any (nat_eq m) fs ≡ false → sum_by (λ k. if nat_eq m k then c else 0) fs ≡ 0
none_there m c [] h = refl
none_there m c (f ∷ fs) h = sum_by-cons (λ k. if nat_eq m k then c else 0) f fs ∙ split (nat_eq m f) h (none_there m c fs) where
  split : (b : Bool) → (b || list_any (nat_eq m) fs) ≡ false → (list_any (nat_eq m) fs ≡ false → sum_by (λ k. if nat_eq m k then c else 0) fs ≡ 0) → (if b then c else 0) + sum_by (λ k. if nat_eq m k then c else 0) fs ≡ 0
  split true h next = absurd (no' h) where
    no' : true ≡ false → ⊥
    no' z = cc
  split false h next = let e : sum_by (λ k. if nat_eq m k then c else 0) fs ≡ 0 = next h in omega (arith, e)

one_there : (m c : ℕ) (fs : List ℕ) → AreApart fs → list_any (nat_eq m) fs ≡ true → sum_by (λ k. if nat_eq m k then c else 0) fs ≡ c
one_there m c [] a h = absurd (no' h) where
  no' : false ≡ true → ⊥
  no' z = cc
one_there m c (f ∷ fs) (first, a) h = sum_by-cons (λ k. if nat_eq m k then c else 0) f fs ∙ split (nat_eq m f) refl h (one_there m c fs a) where
  split : (b : Bool) → nat_eq m f ≡ b → (b || list_any (nat_eq m) fs) ≡ true → (list_any (nat_eq m) fs ≡ true → sum_by (λ k. if nat_eq m k then c else 0) fs ≡ c) → (if b then c else 0) + sum_by (λ k. if nat_eq m k then c else 0) fs ≡ c
  split true e h next = let z : sum_by (λ k. if nat_eq m k then c else 0) fs ≡ 0 = none_there m c fs (subst (λ (i : ℕ). list_any (nat_eq i) fs ≡ false) (sym (same_number m f e)) first) in omega (arith, z)
  split false e h next = let z : sum_by (λ k. if nat_eq m k then c else 0) fs ≡ c = next h in omega (arith, z)

none_at_all : (fs : List ℕ) → sum_by (λ (k : ℕ). 0) fs ≡ 0
none_at_all [] = refl
none_at_all (f ∷ fs) = sum_by-cons (λ (k : ℕ). 0) f fs ∙ (let z : sum_by (λ (k : ℕ). 0) fs ≡ 0 = none_at_all fs in omega (arith, z))

added_up : (a b : ℕ → ℕ) (fs : List ℕ) → sum_by (λ k. a k + b k) fs ≡ sum_by a fs + sum_by b fs
added_up a b [] = refl
added_up a b (f ∷ fs) = omega (arith, added_up a b fs, sum_by-cons (λ k. a k + b k) f fs, sum_by-cons a f fs, sum_by-cons b f fs)

as_each : {X : Type 0} (a b : X → ℕ) (fs : List X) → ((k : X) → a k ≡ b k) → sum_by a fs ≡ sum_by b fs
as_each a b [] h = refl
as_each a b (f ∷ fs) h = omega (arith, as_each a b fs h, h f, sum_by-cons a f fs, sum_by-cons b f fs)

module _ {E : Type 0} (number : E → ℕ) (v : E → ℕ) where
  -- a sum over entries is one over the flows' own entries
  pub split_sum : (fs : List ℕ) (es : List E) → AreApart fs → AllByRecursion (λ e. list_any (nat_eq (number e)) fs ≡ true) es
      → sum_by v es ≡ sum_by (λ k. sum_by v (filter (λ (e : E). nat_eq (number e) k) es)) fs
  split_sum fs [] a h = sym (none_at_all fs)
  split_sum fs (e ∷ es) a (h, hs) =
      let rest = λ (k : ℕ). sum_by v (filter (λ (d : E). nat_eq (number d) k) es) in
      let one = λ (k : ℕ). if nat_eq (number e) k then v e else 0 in
      let more : sum_by (λ k. sum_by v (filter (λ (d : E). nat_eq (number d) k) (e ∷ es))) fs ≡ sum_by (λ k. one k + rest k) fs = as_each (λ k. sum_by v (filter (λ (d : E). nat_eq (number d) k) (e ∷ es))) (λ k. one k + rest k) fs (λ k. split k (nat_eq (number e) k)) in
      omega (arith, sum_by-cons v e es, split_sum fs es a hs, more, added_up one rest fs, one_there (number e) (v e) fs a h) where
        split : (k : ℕ) (b : Bool) → sum_by v (cond b (e ∷ filter (λ (d : E). nat_eq (number d) k) es) (filter (λ (d : E). nat_eq (number d) k) es)) ≡ (if b then v e else 0) + sum_by v (filter (λ (d : E). nat_eq (number d) k) es)
        split k true = sum_by-cons v e (filter (λ (d : E). nat_eq (number d) k) es)
        split k false = omega arith

sum_flat : {E X : Type 0} (wt : X → ℕ) (d : E → List X) (es : List E) → sum_by wt (flat_map d es) ≡ sum_by (λ e. sum_by wt (d e)) es
sum_flat wt d [] = refl
sum_flat wt d (e ∷ es) = omega (arith, sum_by-append wt (d e) (flat_map d es), sum_flat wt d es, sum_by-cons (λ e. sum_by wt (d e)) e es)

-- FLOWS

abbrev all_numbers : List Flow → List ℕ
all_numbers fs = numbers_of fs

module _ {W : Type 0} (stands : W → Flow → FlowInput → Parts → Type 0) (makes : W → Meaning) (results : W → List (List Item)) (counts : W → List ℕ) (node : IsNode stands makes results) where
  long_base : (f : Flow) (n : ℕ) (ended : List ℕ) (w : W) (list : List ClassedItem) (log : List Entry) (g : ℕ) → g < length (results w) → g < length (fresh (results w)).lists
  long_base f n ended w list log g l = omega (arith, l, length-map (results w) (λ (x : List Item). let e : List FlowItem = [] in e))

  -- one flow's entries are what the chain makes of it
  one_flow : (n : ℕ) (ended : List ℕ) (w : W) (list : List ClassedItem) (log : List Entry) (g : ℕ) (f : Flow) → EndedFor stands results counts n ended w list log → g < length (results w)
      → list_any (nat_eq f.number) ended ≡ true → AreOf f list
      → flat_map (part_of g) (entries_of f.number log) ≡ given_to g (parts_by (makes w) n list f)
  one_flow n ended w list log g f s l among are =
      let base = fresh (results w) in
      let lists = (node.means w f (record { items = came_items f list; ended = ended_at n ended f.number }) (parts_at f.number base log) (s.flows f are)).0 in
      ap (λ xs. xs ++ group_of g (entries_of f.number log)) (sym (empty_at g (results w)))
      ∙ (sym (flow_list f.number g base log (long_base f n ended w list log g l))
      ∙ (ap (λ xss. map item_of (get_or xss g [])) lists
      ∙ ap (λ (b : Bool). given_to g (makes w f (record { items = came_items f list; ended = if b then Some n else None }))) among))

  one_flow_drops : (wt : Drop → ℕ) (n : ℕ) (ended : List ℕ) (w : W) (list : List ClassedItem) (log : List Entry) (f : Flow) → EndedFor stands results counts n ended w list log → list_any (nat_eq f.number) ended ≡ true → AreOf f list
      → sum_by wt (all_dropped (entries_of f.number log)) ≡ sum_by wt (parts_by (makes w) n list f).dropped
  one_flow_drops wt n ended w list log f s among are =
      ap (sum_by wt) (sym (flow_drops f.number (fresh (results w)) log))
      ∙ (sym (sum_by-IsPermutation wt _ _ (node.means w f (record { items = came_items f list; ended = ended_at n ended f.number }) (parts_at f.number (fresh (results w)) log) (s.flows f are)).1)
      ∙ ap (λ (b : Bool). sum_by wt (makes w f (record { items = came_items f list; ended = if b then Some n else None })).dropped) among)

  all_flows : (n : ℕ) (ended : List ℕ) (w : W) (list : List ClassedItem) (log : List Entry) (g : ℕ) (fs : List Flow) → EndedFor stands results counts n ended w list log → g < length (results w)
      → ((k : ℕ) → list_any (nat_eq k) (all_numbers fs) ≡ true → list_any (nat_eq k) ended ≡ true) → AllByRecursion (λ f. AreOf f list) fs
      → flat_map (λ k. flat_map (part_of g) (entries_of k log)) (all_numbers fs) ≡ flat_map (λ f. given_to g (parts_by (makes w) n list f)) fs
  all_flows n ended w list log g [] s l among are = refl
  all_flows n ended w list log g (f ∷ fs) s l among (one, are) =
      ap (λ xs. xs ++ flat_map (λ k. flat_map (part_of g) (entries_of k log)) (all_numbers fs)) (one_flow n ended w list log g f s l (among f.number (left (nat_eq f.number f.number) (list_any (nat_eq f.number) (all_numbers fs)) (itself f.number))) one)
      ∙ ap (λ xs. given_to g (parts_by (makes w) n list f) ++ xs)
      (all_flows n ended w list log g fs s l (λ k h. among k (right (nat_eq k f.number) (list_any (nat_eq k) (all_numbers fs)) h)) are)

  all_flow_drops : (wt : Drop → ℕ) (n : ℕ) (ended : List ℕ) (w : W) (list : List ClassedItem) (log : List Entry) (fs : List Flow) → EndedFor stands results counts n ended w list log
      → ((k : ℕ) → list_any (nat_eq k) (all_numbers fs) ≡ true → list_any (nat_eq k) ended ≡ true) → AllByRecursion (λ f. AreOf f list) fs
      → sum_by (λ k. sum_by wt (all_dropped (entries_of k log))) (all_numbers fs) ≡ sum_by (λ f. sum_by wt (parts_by (makes w) n list f).dropped) fs
  all_flow_drops wt n ended w list log [] s among are = refl
  all_flow_drops wt n ended w list log (f ∷ fs) s among (one, are) =
      omega (
        arith,
        all_flow_drops wt n ended w list log fs s (λ k h. among k (right (nat_eq k f.number) (list_any (nat_eq k) (all_numbers fs)) h)) are,
        one_flow_drops wt n ended w list log f s (among f.number (ap (λ b. b || list_any (nat_eq f.number) (all_numbers fs)) (itself f.number))) one,
        sum_by-cons (λ k. sum_by wt (all_dropped (entries_of k log))) f.number (all_numbers fs),
        sum_by-cons (λ f. sum_by wt (parts_by (makes w) n list f).dropped) f fs,
      )

  -- what the entries of any number say has that flow's keys
  number_owned : (owner : ℕ → ℕ) (n : ℕ) (ended : List ℕ) (w : W) (list : List ClassedItem) (log : List Entry) (g : ℕ) (fs : List Flow) → OwnsKeys (makes w) → EndedFor stands results counts n ended w list log → g < length (results w)
      → ((f : ℕ) → owner (n + f) ≡ f) → AllByRecursion (λ (c : ClassedItem). owner c.item.a ≡ c.class.flow.number) list
      → ((k : ℕ) → list_any (nat_eq k) (all_numbers fs) ≡ true → list_any (nat_eq k) ended ≡ true) → AllByRecursion (λ f. AreOf f list) fs
      → (k : ℕ) → list_any (nat_eq k) (all_numbers fs) ≡ true
      → AllByRecursion (λ (x : Item). owner x.a ≡ k) (flat_map (part_of g) (entries_of k log))
  number_owned owner n ended w list log g [] owns s l ends keys among are k z = absurd (no' z) where
    no' : false ≡ true → ⊥
    no' z = cc
  number_owned owner n ended w list log g (f ∷ fs) owns s l ends keys among (one, are) k z =
      split (nat_eq k f.number) refl z (number_owned owner n ended w list log g fs owns s l ends keys (λ i h. among i (right (nat_eq i f.number) (list_any (nat_eq i) (all_numbers fs)) h)) are k) where
        here : AllByRecursion (λ (x : Item). owner x.a ≡ f.number) (flat_map (part_of g) (entries_of f.number log))
        here = subst (AllByRecursion (λ (x : Item). owner x.a ≡ f.number)) (sym (one_flow n ended w list log g f s l (among f.number (left (nat_eq f.number f.number) (list_any (nat_eq f.number) (all_numbers fs)) (itself f.number))) one))
            (owns owner f n (came_items f list) (ends f.number) (came_owned owner f list keys) g)

        split : (b : Bool) → nat_eq k f.number ≡ b → (b || list_any (nat_eq k) (all_numbers fs)) ≡ true
            → (list_any (nat_eq k) (all_numbers fs) ≡ true → AllByRecursion (λ (x : Item). owner x.a ≡ k) (flat_map (part_of g) (entries_of k log)))
            → AllByRecursion (λ (x : Item). owner x.a ≡ k) (flat_map (part_of g) (entries_of k log))
        split true e z next = subst (λ (i : ℕ). AllByRecursion (λ (x : Item). owner x.a ≡ i) (flat_map (part_of g) (entries_of i log))) (sym (same_number k f.number e)) here
        split false e z next = next z

  -- a leaf group's list in key order is what each flow gives it, in key order
  pub group_answers : (owner : ℕ → ℕ) (n : ℕ) (fs : List Flow) (w : W) (list : List ClassedItem) (log : List Entry) (g : ℕ) → OwnsKeys (makes w) → EndedFor stands results counts n (all_numbers fs) w list log → g < length (results w)
      → ((f : ℕ) → owner (n + f) ≡ f) → AllByRecursion (λ (c : ClassedItem). owner c.item.a ≡ c.class.flow.number) list
      → AllByRecursion (λ f. AreOf f list) fs → AreApart (all_numbers fs) → AllByRecursion (λ (e : Entry). list_any (nat_eq e.number) (all_numbers fs) ≡ true) log
      → in_key_order (get_or (results w) g []) ≡ in_key_order (flat_map (λ f. given_to g (parts_by (makes w) n list f)) fs)
  group_answers owner n fs w list log g owns s l ends keys are apart inside =
      ap in_key_order (s.kept g l)
      ∙ (merged comes_before weak (λ (x : Item). owner x.a) number_of (part_of g) (λ x y t. ap owner (tied_keys x y t)) (all_numbers fs) log apart
      (as_owned (λ (x : Item). owner x.a) (λ x y t. ap owner (tied_keys x y t)) g log (all_entries (λ (x : Item). owner x.a) (part_of g) log (λ k. one k (list_any (nat_eq k) (all_numbers fs)) refl)))
      (as_within (λ (x : Item). owner x.a) (λ x y t. ap owner (tied_keys x y t)) g (all_numbers fs) log inside)
      ∙ ap in_key_order (all_flows n (all_numbers fs) w list log g fs s l (λ k h. h) are)) where
        one : (k : ℕ) (b : Bool) → list_any (nat_eq k) (all_numbers fs) ≡ b → AllByRecursion (λ (y : Item). owner y.a ≡ k) (flat_map (part_of g) (entries_of k log))
        one k true q = number_owned owner n (all_numbers fs) w list log g fs owns s l ends keys (λ i z. z) are k q
        one k false q =
            subst (λ (es : List Entry). AllByRecursion (λ (y : Item). owner y.a ≡ k) (flat_map (part_of g) es)) (sym (none_of comes_before weak (λ (x : Item). owner x.a) number_of (part_of g) (λ x y t. ap owner (tied_keys x y t)) k (all_numbers fs) log (as_within (λ (x : Item). owner x.a) (λ x y t. ap owner (tied_keys x y t)) g (all_numbers fs) log inside) q)) tt

  -- each Reason's count comes to what the flows drop
  pub drop_answers : (n : ℕ) (fs : List Flow) (w : W) (list : List ClassedItem) (log : List Entry) → EndedFor stands results counts n (all_numbers fs) w list log → AreApart (all_numbers fs)
      → AllByRecursion (λ (e : Entry). list_any (nat_eq e.number) (all_numbers fs) ≡ true) log → AllByRecursion (λ f. AreOf f list) fs
      → (k : ℕ) → k < 9 → slice_index (counts w) k ≡ min 4294967295 (sum_by (λ f. count_by (is_for k) (parts_by (makes w) n list f).dropped) fs)
  drop_answers n fs w list log s apart inside are k l =
      let wt = λ (d : Drop). cond (is_for k d) 1 0 in
      s.drops k l ∙ ap (λ m. min 4294967295 m) (sum_flat wt (λ (e : Entry). e.parts.dropped) log
      ∙ (split_sum number_of (λ (e : Entry). sum_by wt e.parts.dropped) (all_numbers fs) log apart inside
      ∙ (as_each (λ k. sum_by (λ (e : Entry). sum_by wt e.parts.dropped) (entries_of k log)) (λ k. sum_by wt (all_dropped (entries_of k log))) (all_numbers fs)
      (λ k. sym (sum_flat wt (λ (e : Entry). e.parts.dropped) (entries_of k log)))
      ∙ all_flow_drops wt n (all_numbers fs) w list log fs s (λ k h. h) are)))
