-- A flow more, in the list and in the maps.
use Rattle.std.proofs.Common.{◌≡◌, ℕ, ◌+◌, ◌<◌, ◌≤◌, Bool, true, false, cond, ltb, eqb, nat_eq, ◌&&◌, refl, sym, ◌∙◌, ap, subst, not, arith, inl, inr, ◌⊎◌, ⊎_elim, List, [], ◌∷◌, ◌++◌, length, Option, Some, None}
use Rattle.std.specs.List.{position, position_or_len, slice_get, count_by}
use Rattle.std.specs.Map.{lookup}
use Rattle.std.specs.Option.{is_none, is_some, option_or, option_map}
use Rattle.std.specs.BTreeMap.{BTreeMap, IsEmpty, get, is_at}
use Rattle.std.specs.Ordering.{is_eq, ordering_then, nat_cmp}
use Rattle.std.specs.declared.cmp.Ordering.{Ordering}
use Rattle.std.specs.declared.cmp.Ordering.TheVariants.{Less, Equal, Greater}
use Rattle.std.proofs.lemmas.List.{get_or_append_left, get_or_push, length_push}
use Rattle.std.proofs.lemmas.List.Sums.{sum_by_push, prefix_len-le-length}
use Rattle.std.proofs.lemmas.List.Folds.{position_or_len_push}
use Rattle.std.proofs.lemmas.Option.{slice_get_within, same_Some, none-some, slice_get-get_or}
use Rattle.std.proofs.lemmas.Bool.{cases_lt, and_parts, eqb-true}
use Rattle.std.proofs.lemmas.Bool.Decides.{nat_tests}
use Rattle.flow_key.specs.declared.key.Key.{Key}
use Rattle.flow_key.specs.declared.key.End.{End}
use Rattle.brick_spec.specs.Tuple.{Tuple}
use Rattle.brick_spec.specs.FlowClass.{Opened, End as SpecEnd, Key as SpecKey, key_of, is_same_key, is_same_end, flow_at, has_first_key, has_key, is_other_flow, is_ranked, same_key_of, found_by}
use Rattle.flow_key.specs.View.{end_view, key_view}
use Rattle.flow_key.specs.Maps.{AreRanks, AreFound, AreMaps, HaveOwnKeys, key_cmp, end_cmp}
use Rattle.brick_spec.proofs.Tests.{option_or-none}

push_numbers : (a n : ℕ) (b : Bool) → a ≤ n → cond {A = Option ℕ} (ltb (cond (eqb a n) (n + cond b 0 1) a) (n + 1)) (Some (cond (eqb a n) (n + cond b 0 1) a)) None ≡ option_or (cond (ltb a n) (Some a) None) (cond b (Some n) None)
push_numbers a n true few = ⊎_elim
    (λ less. let e1 : eqb a n ≡ false = grind (arith, nat_tests) in let e2 : ltb a n ≡ true = grind (arith, nat_tests) in let e3 : ltb a (n + 1) ≡ true = grind (arith, nat_tests) in rw (e1, e2) (rw e3 refl))
    (λ more. let e1 : eqb a n ≡ true = grind (arith, nat_tests) in let e2 : ltb a n ≡ false = grind (arith, nat_tests) in let e0 : n + 0 ≡ n = omega arith in let e3 : ltb n (n + 1) ≡ true = grind (arith, nat_tests) in rw (e1, e2) (rw e0 (rw e3 refl)))
    (cases_lt a n)
push_numbers a n false few = ⊎_elim
    (λ less. let e1 : eqb a n ≡ false = grind (arith, nat_tests) in let e2 : ltb a n ≡ true = grind (arith, nat_tests) in let e3 : ltb a (n + 1) ≡ true = grind (arith, nat_tests) in rw (e1, e2) (rw e3 refl))
    (λ more. let e1 : eqb a n ≡ true = grind (arith, nat_tests) in let e2 : ltb a n ≡ false = grind (arith, nat_tests) in let e3 : ltb (n + 1) (n + 1) ≡ false = grind (arith, nat_tests) in rw (e1, e2) (rw e3 refl))
    (cases_lt a n)

pub position_push : {X : Type 0} (p : X → Bool) (xs : List X) (y : X) → position p (xs ++ y ∷ []) ≡ option_or (position p xs) (cond (p y) (Some (length xs)) None)
position_push p xs y =
    ap (λ (l : ℕ). cond {A = Option ℕ} (ltb (position_or_len p (xs ++ y ∷ [])) l) (Some (position_or_len p (xs ++ y ∷ []))) None) (length_push xs y)
    ∙ ap (λ (m : ℕ). cond {A = Option ℕ} (ltb m (length xs + 1)) (Some m) None) (position_or_len_push p xs y)
    ∙ push_numbers (position_or_len p xs) (length xs) (p y) (prefix_len-le-length (λ x. not (p x)) xs)

same_ends : (a b : SpecEnd) → is_same_end a b ≡ true → a ≡ b
same_ends a b e =
    let h = and_parts (eqb a.address b.address) (eqb a.port b.port) e in
    let f : ℕ → SpecEnd = λ n. record { address = n; port = a.port } in
    let g : ℕ → SpecEnd = λ n. record { address = b.address; port = n } in
    ap f (eqb-true a.address b.address h.0) ∙ ap g (eqb-true a.port b.port h.1)

same_keys_one : (a b : SpecKey) → is_same_key a b ≡ true → a ≡ b
same_keys_one a b e =
    let h = and_parts (nat_eq a.proto b.proto) (is_same_end a.low b.low && is_same_end a.high b.high) e in
    let k = and_parts (is_same_end a.low b.low) (is_same_end a.high b.high) h.1 in
    let f : ℕ → SpecKey = λ n. record { proto = n; low = a.low; high = a.high } in
    let g : SpecEnd → SpecKey = λ n. record { proto = b.proto; low = n; high = a.high } in
    let i : SpecEnd → SpecKey = λ n. record { proto = b.proto; low = b.low; high = n } in
    ap f (eqb-true a.proto b.proto h.0) ∙ ap g (same_ends a.low b.low k.0) ∙ ap i (same_ends a.high b.high k.1)

-- rules 1 and 2 don't apply
pub none_same : (o s : Option ℕ) (flows : List Opened) (t : Option Tuple) → found_by o s flows t ≡ None → s ≡ None
none_same (Some f) s flows t e = cc
none_same None (Some f) flows t e = cc
none_same None None flows t e = refl

missing : (flows : List Opened) (t : Option Tuple) (q : SpecKey) → same_key_of flows t ≡ None → has_first_key q t ≡ true → position (has_key q) flows ≡ None
missing flows None q none e = absurd (cc)
missing flows (Some t) q none e = ap (λ k. position (has_key k) flows) (sym (same_keys_one (key_of t) q e)) ∙ none

key_more : (flows : List Opened) (t : Option Tuple) (new : Opened) (q : SpecKey) (found : Option ℕ) → new.first ≡ t → same_key_of flows t ≡ None → found ≡ position (has_key q) flows → cond (has_first_key q t) (Some (length flows)) found ≡ position (has_key q) (flows ++ new ∷ [])
key_more flows t new q found first none e =
    elim (has_first_key q t) as (λ (b : Bool). has_first_key q t ≡ b → cond b (Some (length flows)) found ≡ position (has_key q) (flows ++ new ∷ [])) [
      | true ↦ λ h. sym (position_push (has_key q) flows new
          ∙ ap (λ o. option_or o (cond {A = Option ℕ} (has_key q new) (Some (length flows)) None)) (missing flows t q none h)
          ∙ ap (λ b. option_or None (cond {A = Option ℕ} b (Some (length flows)) None)) (ap (has_first_key q) first ∙ h))
      | false ↦ λ h. e ∙ sym (position_push (has_key q) flows new
          ∙ ap (λ b. option_or (position (has_key q) flows) (cond {A = Option ℕ} b (Some (length flows)) None)) (ap (has_first_key q) first ∙ h)
          ∙ option_or-none (position (has_key q) flows))
    ] refl

other_more : (flows : List Opened) (t : Option Tuple) (new : Opened) (other : Option ℕ) → new.first ≡ t → same_key_of flows t ≡ None → other ≡ position is_other_flow flows → cond (is_none t) (Some (length flows)) other ≡ position is_other_flow (flows ++ new ∷ [])
other_more flows None new other first none e =
    sym (position_push is_other_flow flows new
    ∙ ap (λ o. option_or o (cond {A = Option ℕ} (is_other_flow new) (Some (length flows)) None)) none
    ∙ ap (λ (f : Option Tuple). option_or None (cond {A = Option ℕ} (is_none f) (Some (length flows)) None)) first)
other_more flows (Some t) new other first none e =
    e ∙ sym (position_push is_other_flow flows new
    ∙ ap (λ (f : Option Tuple). option_or (position is_other_flow flows) (cond {A = Option ℕ} (is_none f) (Some (length flows)) None)) first
    ∙ option_or-none (position is_other_flow flows))

flow_below : (flows : List Opened) (new : Opened) (i : ℕ) → i < length flows → flow_at (flows ++ new ∷ []) i ≡ flow_at flows i
flow_below flows new i below = get_or_append_left flows (new ∷ []) (record { first = None; rank = None; opened = 0 }) i below

flow_end : (flows : List Opened) (new : Opened) (i : ℕ) → length flows ≡ i → flow_at (flows ++ new ∷ []) i ≡ new
flow_end flows new i e = get_or_push flows new (record { first = None; rank = None; opened = 0 }) i e

get_below : (xs : List ℕ) (y r : ℕ) → r < length xs → slice_get (xs ++ y ∷ []) r ≡ slice_get xs r
get_below xs y r below =
    slice_get-get_or (xs ++ y ∷ []) r 0 (let l = length_push xs y in omega arith)
    ∙ ap Some (get_or_append_left xs (y ∷ []) 0 r below)
    ∙ sym (slice_get-get_or xs r 0 below)

get_end : (xs : List ℕ) (y r : ℕ) → length xs ≡ r → slice_get (xs ++ y ∷ []) r ≡ Some y
get_end xs y r e = slice_get-get_or (xs ++ y ∷ []) r 0 (let l = length_push xs y in omega arith) ∙ ap Some (get_or_push xs y 0 r e)

-- a place of the longer list is one of the shorter, or the last
within_push : {X : Type 0} (xs : List X) (y : X) (i : ℕ) → i < length (xs ++ y ∷ []) → (i < length xs) ⊎ (length xs ≡ i)
within_push xs y i h = let l = length_push xs y in ⊎_elim (λ k. inl k) (λ k. inr (omega arith)) (cases_lt i (length xs))

rank_more : (flows : List Opened) (ranks : List ℕ) (new : Opened) (goes : Bool) → AreRanks flows ranks → new.rank ≡ cond {A = Option ℕ} goes (Some (length ranks)) None → AreRanks (flows ++ new ∷ []) (cond goes (ranks ++ length flows ∷ []) ranks)
rank_more flows ranks new false kept rank = record {
  here = λ r i e.
      let h = kept.here r i e in
      (let l = length_push flows new in let b : i < length flows = h.0 in omega arith, ap (λ (f : Opened). f.rank) (flow_below flows new i h.0) ∙ h.1);
  all = λ i r below e. ⊎_elim
      (λ k. kept.all i r k (sym (ap (λ (f : Opened). f.rank) (flow_below flows new i k)) ∙ e))
      (λ k. absurd (none-some r (sym rank ∙ sym (ap (λ (f : Opened). f.rank) (flow_end flows new i k)) ∙ e)))
      (within_push flows new i below);
  counted = kept.counted ∙ sym (sum_by_push (λ (f : Opened). cond {A = ℕ} (is_ranked f) 1 0) flows new ∙ (let m : ℕ = count_by is_ranked flows in ap (λ (o : Option ℕ). m + cond {A = ℕ} (is_some o) 1 0) rank ∙ (let e : m + 0 ≡ m = omega arith in e)));
}
rank_more flows ranks new true kept rank = record {
  here = λ r i e. ⊎_elim
      (λ k. let h = kept.here r i (sym (get_below ranks (length flows) r k) ∙ e) in
      (let l = length_push flows new in let b : i < length flows = h.0 in omega arith, ap (λ (f : Opened). f.rank) (flow_below flows new i h.0) ∙ h.1))
      (λ k. let same : length flows ≡ i = same_Some (length flows) i (sym (get_end ranks (length flows) r k) ∙ e) in
      (let l = length_push flows new in omega arith, ap (λ (f : Opened). f.rank) (flow_end flows new i same) ∙ rank ∙ ap Some k))
      (within_push ranks (length flows) r (slice_get_within (ranks ++ length flows ∷ []) r i e));
  all = λ i r below e. ⊎_elim
      (λ k. let h = kept.all i r k (sym (ap (λ (f : Opened). f.rank) (flow_below flows new i k)) ∙ e) in
      get_below ranks (length flows) r (slice_get_within ranks r i h) ∙ h)
      (λ k. let same : length ranks ≡ r = same_Some (length ranks) r (sym rank ∙ sym (ap (λ (f : Opened). f.rank) (flow_end flows new i k)) ∙ e) in
      get_end ranks (length flows) r same ∙ ap Some k)
      (within_push flows new i below);
  counted = length_push ranks (length flows) ∙ (let m : ℕ = count_by is_ranked flows in ap (λ (n : ℕ). n + 1) kept.counted ∙ sym (sum_by_push (λ (f : Opened). cond {A = ℕ} (is_ranked f) 1 0) flows new ∙ ap (λ (o : Option ℕ). m + cond {A = ℕ} (is_some o) 1 0) rank));
}

own_more : (flows : List Opened) (t : Option Tuple) (new : Opened) → HaveOwnKeys flows → new.first ≡ t → same_key_of flows t ≡ None → HaveOwnKeys (flows ++ new ∷ [])
own_more flows t new own first none i k below has = ⊎_elim
    (λ less. position_push (has_key k) flows new
    ∙ ap (λ o. option_or o (cond {A = Option ℕ} (has_key k new) (Some (length flows)) None)) (own i k less (ap (has_key k) (sym (flow_below flows new i less)) ∙ has)))
    (λ last.
    let h : has_first_key k t ≡ true = ap (has_first_key k) (sym first) ∙ ap (has_key k) (sym (flow_end flows new i last)) ∙ has in
    position_push (has_key k) flows new
    ∙ ap (λ o. option_or o (cond {A = Option ℕ} (has_key k new) (Some (length flows)) None)) (missing flows t k none h)
    ∙ ap (λ b. option_or None (cond {A = Option ℕ} b (Some (length flows)) None)) (ap (has_first_key k) first ∙ h)
    ∙ ap Some last)
    (within_push flows new i below)

pub found_more : (flows : List Opened) (keys keys' : BTreeMap Key ℕ) (other other' : Option ℕ) (ranks ranks' : List ℕ) (t : Option Tuple) (new : Opened) (goes : Bool)
    → AreFound flows keys other ranks → new.first ≡ t → same_key_of flows t ≡ None
    → ((q : Key) → get key_cmp keys' q ≡ cond (has_first_key (key_view q) t) (Some (length flows)) (get key_cmp keys q))
    → other' ≡ cond (is_none t) (Some (length flows)) other
    → ranks' ≡ cond goes (ranks ++ length flows ∷ []) ranks → new.rank ≡ cond goes (Some (length ranks)) None
    → AreFound (flows ++ new ∷ []) keys' other' ranks'
found_more flows keys keys' other other' ranks ranks' t new goes kept first none k o r rank = record {
  by_key = λ q. k q ∙ key_more flows t new (key_view q) (get key_cmp keys q) first none (kept.by_key q);
  own_keys = own_more flows t new kept.own_keys first none;
  by_other = o ∙ other_more flows t new other first none kept.by_other;
  by_rank = subst (AreRanks (flows ++ new ∷ [])) (sym r) (rank_more flows ranks new goes kept.by_rank rank);
}

-- the order of keys tells the same ones
is_eq_then : (a b : Ordering) → is_eq (ordering_then a b) ≡ (is_eq a && is_eq b)
is_eq_then Less b = refl
is_eq_then Equal b = refl
is_eq_then Greater b = refl

is_eq_numbers : (a b : ℕ) → is_eq (nat_cmp a b) ≡ eqb a b
is_eq_numbers a b = ⊎_elim
    (λ less. let e1 : ltb a b ≡ true = grind (arith, nat_tests) in let e2 : eqb a b ≡ false = grind (arith, nat_tests) in rw (e1, e2) refl)
    (λ more. let e1 : ltb a b ≡ false = grind (arith, nat_tests) in rw e1 (elim (eqb a b) as (λ (t : Bool). is_eq (cond t Equal Greater) ≡ t) [ true ↦ refl | false ↦ refl ]))
    (cases_lt a b)

cmp_ends : (a b : End) → is_eq (end_cmp a b) ≡ is_same_end (end_view a) (end_view b)
cmp_ends a b =
    is_eq_then (nat_cmp a.address b.address) (nat_cmp a.port b.port)
    ∙ ap (λ t. t && is_eq (nat_cmp a.port b.port)) (is_eq_numbers a.address b.address)
    ∙ ap (λ t. eqb a.address b.address && t) (is_eq_numbers a.port b.port)

cmp_same : (a b : Key) → is_at (key_cmp a) b ≡ is_same_key (key_view a) (key_view b)
cmp_same a b =
    is_eq_then (nat_cmp a.proto b.proto) (ordering_then (end_cmp a.low b.low) (end_cmp a.high b.high))
    ∙ ap (λ t. t && is_eq (ordering_then (end_cmp a.low b.low) (end_cmp a.high b.high))) (is_eq_numbers a.proto b.proto)
    ∙ ap (λ t. eqb a.proto b.proto && t)
    (is_eq_then (end_cmp a.low b.low) (end_cmp a.high b.high)
    ∙ ap (λ t. t && is_eq (end_cmp a.high b.high)) (cmp_ends a.low b.low)
    ∙ ap (λ t. is_same_end (end_view a.low) (end_view b.low) && t) (cmp_ends a.high b.high))

-- what an insert of a key leaves
pub key_put : (keys keys' : BTreeMap Key ℕ) (given : Option Tuple) (t : Tuple) (k : Key) (n : ℕ) → given ≡ Some t → key_view k ≡ key_of t → ((q : Key) → get key_cmp keys' q ≡ cond (is_at (key_cmp k) q) (Some n) (get key_cmp keys q)) → (q : Key) → get key_cmp keys' q ≡ cond (has_first_key (key_view q) given) (Some n) (get key_cmp keys q)
key_put keys keys' given t k n some e put q =
    put q ∙ ap (λ b. cond b (Some n) (get key_cmp keys q)) (cmp_same k q ∙ ap (λ j. is_same_key j (key_view q)) e ∙ ap (has_first_key (key_view q)) (sym some))

-- the maps after a flow was opened
pub found_opened : (flows flows' : List Opened) (keys keys' : BTreeMap Key ℕ) (other other' : Option ℕ) (ranks reserved ranks' : List ℕ) (t : Option Tuple) (new : Opened) (goes : Bool) (n : ℕ)
    → AreFound flows keys other ranks → new.first ≡ t → same_key_of flows t ≡ None → n ≡ length flows
    → ((q : Key) → get key_cmp keys' q ≡ cond (has_first_key (key_view q) t) (Some n) (get key_cmp keys q))
    → other' ≡ cond (is_none t) (Some n) other
    → reserved ≡ ranks → ranks' ≡ cond goes (reserved ++ n ∷ []) reserved → new.rank ≡ cond goes (Some (length reserved)) None
    → flows' ≡ flows ++ new ∷ []
    → AreFound flows' keys' other' ranks'
found_opened flows flows' keys keys' other other' ranks reserved ranks' t new goes n kept first none e k o same r rank more =
    subst (λ fs. AreFound fs keys' other' ranks') (sym more)
    (found_more flows keys keys' other other' ranks ranks' t new goes kept first none
    (λ q. k q ∙ ap (λ m. cond (has_first_key (key_view q) t) (Some m) (get key_cmp keys q)) e)
    (o ∙ ap (λ m. cond (is_none t) (Some m) other) e)
    (r ∙ ap (λ m. cond goes (reserved ++ m ∷ []) reserved) e ∙ ap (λ xs. cond goes (xs ++ length flows ∷ []) xs) same)
    (rank ∙ ap (λ (xs : List ℕ). cond goes (Some (length xs)) None) same))

-- whether there is no five-tuple shows in the definitions too
pub is_none-map : {X Y : Type 0} (v : X → Y) (o : Option X) (n : ℕ) (other : Option ℕ) → cond (is_none o) (Some n) other ≡ cond (is_none (option_map v o)) (Some n) other
is_none-map v None n other = refl
is_none-map v (Some x) n other = refl

-- the maps before a flow was opened
pub no_flows : (flows : List Opened) (keys : BTreeMap Key ℕ) (ranks : List ℕ) → flows ≡ [] → IsEmpty keys → ranks ≡ [] → AreMaps flows keys None ranks 0
no_flows flows keys ranks none empty no_ranks =
    subst (λ (fs : List Opened). AreMaps fs keys None ranks 0) (sym none) (subst (λ (rs : List ℕ). AreMaps [] keys None rs 0) (sym no_ranks) (record {
      found = record {
        by_key = λ k. ap (λ es. lookup (is_at (key_cmp k)) es) empty;
        own_keys = λ i k below. absurd (omega (arith, below));
        by_other = refl;
        by_rank = record {
          here = λ r i e. absurd (none-some i e);
          all = λ i r below. absurd (omega (arith, below));
          counted = refl;
        };
      };
      few = omega arith;
      counted = omega arith;
    }))
