-- A packet goes to the first group that takes it; and each group ends.
use Rattle.std.proofs.Common.{◌≡◌, ℕ, zero, suc, ◌+◌, ◌<◌, ◌≤◌, List, [], ◌∷◌, ◌++◌, map, length, Bool, true, false, not, cond, nat_lt, Option, Some, None, refl, ap, sym, subst, ◌∙◌, arith, get_or, set, take, drop}
use Rattle.std.proofs.lemmas.Bool.Decides.{nat_tests}
use Rattle.std.proofs.lemmas.List.{drop_more, drop_all, take_more, take_all, length-map}
use Rattle.std.specs.List.{filter, position, position_or_len, AllByRecursion}
use Rattle.std.specs.Option.{option_map}
use Rattle.brick_spec.specs.Flow.{Flow}
use Rattle.brick_spec.specs.Item.{Item}
use Rattle.brick_spec.specs.Match.{Match}
use Rattle.brick_spec.specs.Tuple.{tuple_of}
use Rattle.brick_spec.specs.GroupOutput as groups
use Rattle.brick_spec.specs.FlowStage.{FlowItem, Drop, FlowInput}
use Rattle.flow_spec.specs.Parts.{Parts, others, beside, no_group}
use Rattle.flow_spec.specs.Plan.{takes_by}
use Rattle.flow_work.specs.Meaning.{Meaning}
use Rattle.flow_work.specs.Node.{blanks, Went, IsNode, FanStands, fan_makes, fan_results}
use Rattle.flow_work.proofs.Nodes.{went_nothing, fan_cons, fan_end, none_made}

-- THE FIRST PLACE THAT PASSES

abbrev pub IsFirst : {X : Type 0} → (X → Bool) → List X → ℕ → Type 0
IsFirst p [] k = ⊥
IsFirst p (x ∷ xs) zero = p x ≡ true
IsFirst p (x ∷ xs) (suc k) = (p x ≡ false) × IsFirst p xs k

position_cons : {X : Type 0} (p : X → Bool) (x : X) (xs : List X) → position p (x ∷ xs) ≡ cond (p x) (Some 0) (option_map (λ k. suc k) (position p xs))
position_cons p x xs = split (p x) (position_or_len p xs) (length xs) where
  inner : (b : Bool) (q : ℕ) → cond b (Some (suc q)) None ≡ option_map (λ k. suc k) (cond b (Some q) None)
  inner true q = refl
  inner false q = refl

  split : (b : Bool) (q n : ℕ) → cond (nat_lt (cond (not b) (1 + q) 0) (suc n)) (Some (cond (not b) (1 + q) 0)) None ≡ cond b (Some 0) (option_map (λ k. suc k) (cond (nat_lt q n) (Some q) None))
  split true q n = let t : nat_lt 0 (suc n) ≡ true = grind (arith, nat_tests) in ap (λ b. cond b (Some 0) None) t
  split false q n =
      let s : (1 + q) ≡ suc q = omega arith in
      let t : nat_lt (suc q) (suc n) ≡ nat_lt q n = grind (arith, nat_tests) in
      ap (λ r. cond (nat_lt r (suc n)) (Some r) None) s ∙ (ap (λ b. cond b (Some (suc q)) None) t ∙ inner (nat_lt q n) q)

pub first_of : {X : Type 0} (p : X → Bool) (xs : List X) (k : ℕ) → position p xs ≡ Some k → IsFirst p xs k
first_of p [] k e = cc
first_of p (x ∷ xs) k e = split (p x) refl (position p xs) refl (sym (position_cons p x xs) ∙ e) (first_of p xs) where
  none_there : None ≡ Some k → ⊥
  none_there z = cc

  zero_is : Some zero ≡ Some k → zero ≡ k
  zero_is z = cc

  suc_is : (q : ℕ) → Some (suc q) ≡ Some k → suc q ≡ k
  suc_is q z = cc

  split : (b : Bool) → p x ≡ b → (o : Option ℕ) → position p xs ≡ o → cond b (Some 0) (option_map (λ k. suc k) o) ≡ Some k → ((q : ℕ) → position p xs ≡ Some q → IsFirst p xs q) → IsFirst p (x ∷ xs) k
  split true h o is z next = subst (λ (j : ℕ). IsFirst p (x ∷ xs) j) (zero_is z) h
  split false h None is z next = absurd (none_there z)
  split false h (Some q) is z next = subst (λ (j : ℕ). IsFirst p (x ∷ xs) j) (suc_is q z) (h, next q is)

pub none_passes : {X : Type 0} (p : X → Bool) (xs : List X) → position p xs ≡ None → AllByRecursion (λ x. p x ≡ false) xs
none_passes p [] e = tt
none_passes p (x ∷ xs) e = split (p x) refl (position p xs) refl (sym (position_cons p x xs) ∙ e) (none_passes p xs) where
  some_there : (q : ℕ) → Some q ≡ None → ⊥
  some_there q z = cc

  split : (b : Bool) → p x ≡ b → (o : Option ℕ) → position p xs ≡ o → cond b (Some 0) (option_map (λ k. suc k) o) ≡ None → (position p xs ≡ None → AllByRecursion (λ x. p x ≡ false) xs) → AllByRecursion (λ x. p x ≡ false) (x ∷ xs)
  split true h o is z next = absurd (some_there zero z)
  split false h None is z next = (h, next is)
  split false h (Some q) is z next = absurd (some_there (suc q) z)

-- FANS

abbrev keeps_one : Bool → FlowItem → List FlowItem
keeps_one b x = cond b (x ∷ []) []

module _ {N : Type 0} (stands : N → Flow → FlowInput → Parts → Type 0) (makes : N → Meaning) (results : N → List (List Item)) (node : IsNode stands makes results) where
  abbrev pub WentFan : List (Option Match) → List N → List N → Flow → List FlowItem → Option ℕ → Parts → Type 0
  WentFan ms old new = Went (FanStands stands ms) (fan_makes makes ms) (fan_results results) old new

  -- a packet goes to the group that takes it
  pub fan_step : (ms : List (Option Match)) (ns : List N) (k : ℕ) (n' : N) (flow : Flow) (x : FlowItem) (a : Parts) → length ms ≡ length ns
      → IsFirst (λ m. takes_by m x) ms k → ((d : N) → Went stands makes results (get_or ns k d) n' flow (x ∷ []) None a)
      → (b : Parts) × WentFan ms ns (set ns k n') flow (x ∷ []) None b × (b.dropped ≡ a.dropped)
  fan_step [] ns k n' flow x a l h one = absurd h
  fan_step (m ∷ ms) [] k n' flow x a l h one = absurd (omega (arith, l))
  fan_step (m ∷ ms) (n ∷ ns) zero n' flow x a l h one =
      let rest : WentFan ms ns ns flow (filter (others (takes_by m)) (x ∷ [])) None (none_made (fan_results results ns)) =
      subst (λ (b : Bool). WentFan ms ns ns flow (keeps_one (not b) x) None (none_made (fan_results results ns))) (sym h) (went_nothing (FanStands stands ms) (fan_makes makes ms) (fan_results results) ns flow) in
      let mine : Went stands makes results n n' flow (filter (takes_by m) (x ∷ [])) None a = subst (λ (b : Bool). Went stands makes results n n' flow (keeps_one b x) None a) (sym h) (one n) in
      (beside a (none_made (fan_results results ns)), fan_cons stands makes results node m ms n n' ns ns flow (x ∷ []) None a (none_made (fan_results results ns)) mine rest, append_nothing a.dropped) where
        append_nothing : (ds : List Drop) → ds ++ [] ≡ ds
        append_nothing [] = refl
        append_nothing (d ∷ ds) = ap (λ t. d ∷ t) (append_nothing ds)
  fan_step (m ∷ ms) (n ∷ ns) (suc k) n' flow x a l (h, hs) one =
      let next = fan_step ms ns k n' flow x a (omega arith) hs one in
      let rest : WentFan ms ns (set ns k n') flow (filter (others (takes_by m)) (x ∷ [])) None next.0 = subst (λ (b : Bool). WentFan ms ns (set ns k n') flow (keeps_one (not b) x) None next.0) (sym h) next.1 in
      let mine : Went stands makes results n n flow (filter (takes_by m) (x ∷ [])) None (none_made (results n)) = subst (λ (b : Bool). Went stands makes results n n flow (keeps_one b x) None (none_made (results n))) (sym h) (went_nothing stands makes results n flow) in
      (beside (none_made (results n)) next.0, fan_cons stands makes results node m ms n n ns (set ns k n') flow (x ∷ []) None (none_made (results n)) next.0 mine rest, next.2)

  -- no group takes it
  pub fan_none : (ms : List (Option Match)) (ns : List N) (flow : Flow) (x : FlowItem) → length ms ≡ length ns → AllByRecursion (λ m. takes_by m x ≡ false) ms
      → (b : Parts) × WentFan ms ns ns flow (x ∷ []) None b × (b.dropped ≡ no_group x ∷ [])
  fan_none [] [] flow x l h = (record { lists = []; dropped = no_group x ∷ [] }, fan_end stands makes results node flow (x ∷ []) None, refl)
  fan_none [] (n ∷ ns) flow x l h = absurd (omega (arith, l))
  fan_none (m ∷ ms) [] flow x l h = absurd (omega (arith, l))
  fan_none (m ∷ ms) (n ∷ ns) flow x l (h, hs) =
      let next = fan_none ms ns flow x (omega arith) hs in
      let rest : WentFan ms ns ns flow (filter (others (takes_by m)) (x ∷ [])) None next.0 = subst (λ (b : Bool). WentFan ms ns ns flow (keeps_one (not b) x) None next.0) (sym h) next.1 in
      let mine : Went stands makes results n n flow (filter (takes_by m) (x ∷ [])) None (none_made (results n)) = subst (λ (b : Bool). Went stands makes results n n flow (keeps_one b x) None (none_made (results n))) (sym h) (went_nothing stands makes results n flow) in
      (beside (none_made (results n)) next.0, fan_cons stands makes results node m ms n n ns ns flow (x ∷ []) None (none_made (results n)) next.0 mine rest, next.2)

  -- each of these ended, one after another: what they made, and all that was dropped
  abbrev pub EachEnded : List N → List N → Flow → ℕ → List Parts → Type 0
  EachEnded [] [] flow n [] = Unit {0}
  EachEnded (o ∷ os) (p ∷ ps) flow n (a ∷ as') = Went stands makes results o p flow [] (Some n) a × EachEnded os ps flow n as'
  EachEnded os ps flow n as' = ⊥

  abbrev pub drops_in : List Parts → List Drop
  drops_in [] = []
  drops_in (a ∷ as') = a.dropped ++ drops_in as'

  pub each_more : (os ps : List N) (flow : Flow) (n : ℕ) (as' : List Parts) (o p : N) (a : Parts) → EachEnded os ps flow n as' → Went stands makes results o p flow [] (Some n) a
      → EachEnded (os ++ o ∷ []) (ps ++ p ∷ []) flow n (as' ++ a ∷ [])
  each_more [] [] flow n [] o p a h one = (one, tt)
  each_more (q ∷ os) (r ∷ ps) flow n (b ∷ as') o p a (h, hs) one = (h, each_more os ps flow n as' o p a hs one)
  each_more [] [] flow n (b ∷ as') o p a h one = absurd h
  each_more [] (r ∷ ps) flow n as' o p a h one = absurd h
  each_more (q ∷ os) [] flow n as' o p a h one = absurd h
  each_more (q ∷ os) (r ∷ ps) flow n [] o p a h one = absurd h

  pub drops_more : (as' : List Parts) (a : Parts) → drops_in (as' ++ a ∷ []) ≡ drops_in as' ++ a.dropped
  drops_more [] a = append_nothing a.dropped where
    append_nothing : (ds : List Drop) → ds ++ [] ≡ ds
    append_nothing [] = refl
    append_nothing (d ∷ ds) = ap (λ t. d ∷ t) (append_nothing ds)
  drops_more (b ∷ as') a = ap (λ t. b.dropped ++ t) (drops_more as' a) ∙ assoc b.dropped (drops_in as') a.dropped where
    assoc : (xs ys zs : List Drop) → xs ++ (ys ++ zs) ≡ (xs ++ ys) ++ zs
    assoc [] ys zs = refl
    assoc (x ∷ xs) ys zs = ap (λ t. x ∷ t) (assoc xs ys zs)

  pub fan_ends : (ms : List (Option Match)) (os ps : List N) (flow : Flow) (n : ℕ) (as' : List Parts) → length ms ≡ length os → EachEnded os ps flow n as'
      → (b : Parts) × WentFan ms os ps flow [] (Some n) b × (b.dropped ≡ drops_in as')
  fan_ends [] [] [] flow n [] l h = (record { lists = []; dropped = [] }, fan_end stands makes results node flow [] (Some n), refl)
  fan_ends (m ∷ ms) (o ∷ os) (p ∷ ps) flow n (a ∷ as') l (h, hs) =
      let next = fan_ends ms os ps flow n as' (omega arith) hs in
      (beside a next.0, fan_cons stands makes results node m ms o p os ps flow [] (Some n) a next.0 h next.1, ap (λ t. a.dropped ++ t) next.2)
  fan_ends [] (o ∷ os) ps flow n as' l h = absurd (omega (arith, l))
  fan_ends (m ∷ ms) [] ps flow n as' l h = absurd (omega (arith, l))
  fan_ends [] [] [] flow n (a ∷ as') l h = absurd h
  fan_ends [] [] (p ∷ ps) flow n as' l h = absurd h
  fan_ends (m ∷ ms) (o ∷ os) [] flow n as' l h = absurd h
  fan_ends (m ∷ ms) (o ∷ os) (p ∷ ps) flow n [] l h = absurd h
