-- Right rows have one longest prefix for an address.
use Rattle.std.proofs.Common.{◌≡◌, ◌∙◌, ℕ, ◌-◌, ◌*◌, ◌/◌, ◌%◌, ◌^◌, ◌<◌, ◌≤◌, Bool, true, false, ◌&&◌, cond, ltb, nat_eq, nat_lt, refl, sym, ap, arith, inl, inr, List, Option, Some, None, length, take, get_or}
use Rattle.std.specs.List.{slice_get, position, position_or_len}
use Rattle.std.proofs.lemmas.Nat.{div-add-mod'}
use Rattle.std.proofs.lemmas.Bool.{cases_lt, eqb-true, and_parts, not-true}
use Rattle.std.proofs.lemmas.Bool.Decides.{nat_tests}
use Rattle.std.proofs.lemmas.List.{get_or-take, length-take-le}
use Rattle.std.proofs.lemmas.List.Folds.{list_any_at}
use Rattle.std.proofs.lemmas.List.Sums.{fails_before_first}
use Rattle.std.proofs.lemmas.Option.{slice_get_within, none-some, get_or_from_slice_get}
use Rattle.brick_spec.specs.Match.{Prefix}
use Rattle.brick_spec.specs.Route.{Route, RouteFault, HostBits, leads_to, is_longest, has_host_bits, is_same_prefix, same_prefix_fault, AreRight}
use Rattle.lpm_fw.specs.Laws.{OneLongestPrefix}

-- a search that finds none passes over each
none_passes : {X : Type 0} (p : X → Bool) (xs : List X) (i : ℕ) (d : X) → i < length xs → position p xs ≡ None → p (get_or xs i d) ≡ false
none_passes p xs i d within e =
    elim (cases_lt (position_or_len p xs) (length xs)) [
      | inl found ↦ absurd (let t : ltb (position_or_len p xs) (length xs) ≡ true = grind (arith, nat_tests) in none-some (position_or_len p xs) (sym e ∙ ap (λ b. cond b (Some (position_or_len p xs)) None) t))
      | inr past ↦ fails_before_first p xs i d (omega arith)
    ]

no_fault : (host : Bool) (fault : RouteFault) (o : Option ℕ) (r : ℕ) → cond host (Some fault) (same_prefix_fault o r) ≡ None → (host ≡ false) × (o ≡ None)
no_fault true fault o r e = absurd (cc)
no_fault false fault None r e = (refl, refl)
no_fault false fault (Some f) r e = absurd (cc)

right_row : (rows : List Route) (k : ℕ) (row : Route) → AreRight rows → slice_get rows k ≡ Some row → (has_host_bits row.to ≡ false) × (position (is_same_prefix row.to) (take k rows) ≡ None)
right_row rows k row right there = no_fault (has_host_bits row.to) (HostBits k) (position (is_same_prefix row.to) (take k rows)) k (right k row there)

-- no later row has the same prefix
later_differs : (rows : List Route) (a b : ℕ) (x y : Route) → AreRight rows → slice_get rows a ≡ Some x → slice_get rows b ≡ Some y → a < b → is_same_prefix y.to x ≡ false
later_differs rows a b x y right ea eb less =
    let w = slice_get_within rows b y eb in
    let l = length-take-le b rows (omega arith) in
    let missed = none_passes (is_same_prefix y.to) (take b rows) a x (omega arith) (right_row rows b y right eb).1 in
    ap (is_same_prefix y.to) (sym (get_or-take b rows a x less ∙ get_or_from_slice_get rows a x x ea)) ∙ missed

whole : (n s : ℕ) → n % s ≡ 0 → n ≡ n / s * s
whole n s e = sym (let d = div-add-mod' n s in omega arith)

no_rest : (n s : ℕ) → nat_lt 0 (n % s) ≡ false → n % s ≡ 0
no_rest n s e = grind (arith, nat_tests)

-- two prefixes of one length that contain one address are the same
same_address : (p q : Prefix) (addr : ℕ) → has_host_bits p ≡ false → has_host_bits q ≡ false
    → nat_eq (addr / 2 ^ (32 - p.bits)) (p.addr / 2 ^ (32 - p.bits)) ≡ true → nat_eq (addr / 2 ^ (32 - q.bits)) (q.addr / 2 ^ (32 - q.bits)) ≡ true → p.bits ≡ q.bits → p.addr ≡ q.addr
same_address p q addr hp hq cp cq e =
    whole p.addr (2 ^ (32 - p.bits)) (no_rest p.addr (2 ^ (32 - p.bits)) hp)
    ∙ ap (λ n. n * 2 ^ (32 - p.bits)) (sym (eqb-true _ _ cp))
    ∙ ap (λ n. addr / 2 ^ (32 - n) * 2 ^ (32 - n)) e
    ∙ ap (λ n. n * 2 ^ (32 - q.bits)) (eqb-true _ _ cq)
    ∙ sym (whole q.addr (2 ^ (32 - q.bits)) (no_rest q.addr (2 ^ (32 - q.bits)) hq))

same_prefix : (p : Prefix) (row : Route) → p.addr ≡ row.to.addr → p.bits ≡ row.to.bits → is_same_prefix p row ≡ true
same_prefix p row e f =
    let t1 : nat_eq p.addr row.to.addr ≡ true = grind (arith, nat_tests) in
    let t2 : nat_eq p.bits row.to.bits ≡ true = grind (arith, nat_tests) in
    ap (λ b. b && nat_eq p.bits row.to.bits) t1 ∙ t2

-- of two longest rows, neither is longer
at_most : (rows : List Route) (addr b : ℕ) (x y : Route) → slice_get rows b ≡ Some y → is_longest rows addr x ≡ true → leads_to addr y ≡ true → y.to.bits ≤ x.to.bits
at_most rows addr b x y at h leads =
    elim (cases_lt x.to.bits y.to.bits) [
      | inl longer ↦ absurd (
          let none = not-true _ (and_parts _ _ h).1 in
          let t : nat_lt x.to.bits y.to.bits ≡ true = grind (arith, nat_tests) in
          let passes : (leads_to addr y && nat_lt x.to.bits y.to.bits) ≡ true = ap (λ b. b && nat_lt x.to.bits y.to.bits) leads ∙ t in
          let some = list_any_at (λ other. leads_to addr other && nat_lt x.to.bits other.to.bits) rows b y (slice_get_within rows b y at)
          (ap (λ other. leads_to addr other && nat_lt x.to.bits other.to.bits) (get_or_from_slice_get rows b y y at) ∙ passes) in
          let no : true ≡ false = sym some ∙ none in
          cc)
      | inr not_longer ↦ omega arith
    ]

-- two rows that contain one address have prefixes of two lengths
pub same_twice : (rows : List Route) (addr a b : ℕ) (x y : Route) → AreRight rows → slice_get rows a ≡ Some x → slice_get rows b ≡ Some y
    → leads_to addr x ≡ true → leads_to addr y ≡ true → y.to.bits ≡ x.to.bits → a < b → ⊥
same_twice rows addr a b x y right ea eb cx cy bits less =
    let addr_same = same_address y.to x.to addr (right_row rows b y right eb).0 (right_row rows a x right ea).0 cy cx bits in
    let same = same_prefix y.to x addr_same bits in
    let differs = later_differs rows a b x y right ea eb less in
    let no : true ≡ false = sym same ∙ differs in
    cc

not_later : (rows : List Route) (addr a b : ℕ) (x y : Route) → AreRight rows → slice_get rows a ≡ Some x → slice_get rows b ≡ Some y
    → is_longest rows addr x ≡ true → is_longest rows addr y ≡ true → a < b → ⊥
not_later rows addr a b x y right ea eb hx hy less =
    let cx = (and_parts _ _ hx).0 in
    let cy = (and_parts _ _ hy).0 in
    let l1 = at_most rows addr b x y eb hx cy in
    let l2 = at_most rows addr a y x ea hy cx in
    same_twice rows addr a b x y right ea eb cx cy (omega arith) less

pub one_longest : OneLongestPrefix
one_longest rows addr a b x y right ea eb hx hy =
    elim (cases_lt a b) [
      | inl less ↦ absurd (not_later rows addr a b x y right ea eb hx hy less)
      | inr more ↦ elim (cases_lt b a) [ inl less ↦ absurd (not_later rows addr b a y x right eb ea hy hx less) | inr same ↦ omega arith ]
    ]
