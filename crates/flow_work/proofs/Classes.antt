-- Records of one capture whose classes have one number are of one flow.
use Rattle.std.proofs.Common.{◌≡◌, ℕ, zero, suc, ◌+◌, ◌<◌, List, [], ◌∷◌, ◌++◌, length, take, Bool, true, false, cond, nat_lt, Option, Some, None, refl, ap, sym, subst, ◌∙◌, arith, append-nil, append_assoc, get_or}
use Rattle.std.proofs.lemmas.Bool.Decides.{nat_tests}
use Rattle.std.specs.List.{AllByRecursion, position, position_or_len, fold, slice_index_or}
use Rattle.brick_spec.specs.Flow.{Flow, Class, Direction, Reversed}
use Rattle.brick_spec.specs.Tuple.{Tuple, tuple_of}
use Rattle.brick_spec.specs.FlowClass.{NatPlan, Opened, flow_with, flow_at, reply_of, same_key_of, is_reply, is_other_flow, has_key, key_of, found_by, found_in, opened_by, class_by, flows_by, class_in, flows_after, Known, known_after, flows_of, class_at}
use Rattle.flow_spec.specs.Answer.{ClassedItem}
use Rattle.flow_work.specs.Log.{AreRecords}

some_is : (q k : ℕ) → Some q ≡ Some k → q ≡ k
some_is q k e = cc

none_is : (k : ℕ) → None ≡ Some k → ⊥
none_is k e = cc

pub position_below : {X : Type 0} (p : X → Bool) (xs : List X) (k : ℕ) → position p xs ≡ Some k → k < length xs
position_below p xs k e = split (nat_lt (position_or_len p xs) (length xs)) refl e where
  less : (m n : ℕ) → nat_lt m n ≡ true → m < n
  less m n h = grind (arith, nat_tests)

  split : (b : Bool) → nat_lt (position_or_len p xs) (length xs) ≡ b → cond b (Some (position_or_len p xs)) None ≡ Some k → k < length xs
  split true h z = subst (λ (n : ℕ). n < length xs) (some_is (position_or_len p xs) k z) (less (position_or_len p xs) (length xs) h)
  split false h z = absurd (none_is k z)

reply_below : (plan : Option NatPlan) (flows : List Opened) (t : Option Tuple) (k : ℕ) → reply_of plan flows t ≡ Some k → k < length flows
reply_below None flows t k e = absurd (none_is k e)
reply_below (Some plan) flows None k e = absurd (none_is k e)
reply_below (Some plan) flows (Some t) k e = position_below (is_reply plan t) flows k e

same_below : (flows : List Opened) (t : Option Tuple) (k : ℕ) → same_key_of flows t ≡ Some k → k < length flows
same_below flows None k e = position_below is_other_flow flows k e
same_below flows (Some t) k e = position_below (has_key (key_of t)) flows k e

-- an earlier flow that is found is there
abbrev IsThere : List Opened → Option (ℕ × Direction) → Type 0
IsThere flows None = Unit {0}
IsThere flows (Some f) = f.0 < length flows

found_there : (plan : Option NatPlan) (flows : List Opened) (t : Option Tuple) → IsThere flows (found_in plan flows t)
found_there plan flows t = split (reply_of plan flows t) (same_key_of flows t) refl refl where
  split : (r s : Option ℕ) → reply_of plan flows t ≡ r → same_key_of flows t ≡ s → IsThere flows (found_by r s flows t)
  split (Some k) s e f = reply_below plan flows t k e
  split None (Some k) e f = same_below flows t k f
  split None None e f = tt

-- FLOWS ARE ADDED, AND STAY

at_front : (xs ys : List Opened) (k : ℕ) → k < length xs → flow_at (xs ++ ys) k ≡ flow_at xs k
at_front [] ys k l = absurd (omega (arith, l))
at_front (x ∷ xs) ys zero l = refl
at_front (x ∷ xs) ys (suc k) l = at_front xs ys k (omega arith)

at_end : (xs ys : List Opened) (y : Opened) → flow_at ((xs ++ y ∷ []) ++ ys) (length xs) ≡ y
at_end [] ys y = refl
at_end (x ∷ xs) ys y = at_end xs ys y

-- these and more
abbrev Extends : List Opened → List Opened → Type 0
Extends xs ys = (more : List Opened) × (ys ≡ xs ++ more)

next_extends : (plan : Option NatPlan) (flows : List Opened) (k : ℕ) (t : Option Tuple) → Extends flows (flows_after plan flows k t)
next_extends plan flows k t = split (found_in plan flows t) where
  split : (o : Option (ℕ × Direction)) → Extends flows (flows_by o plan flows k t)
  split None = (opened_by plan flows k t ∷ [], refl)
  split (Some f) = ([], sym (append-nil flows))

-- what is known behind these frames
abbrev known_by : Option NatPlan → Known → List (List ℕ) → Known
known_by plan known frames = fold (known_after plan) known frames

all_extend : (plan : Option NatPlan) (known : Known) (frames : List (List ℕ)) → Extends known.flows (known_by plan known frames).flows
all_extend plan known [] = ([], sym (append-nil known.flows))
all_extend plan known (f ∷ fs) =
    let one = next_extends plan known.flows known.records (tuple_of f) in
    let rest = all_extend plan (known_after plan known f) fs in
    (one.0 ++ rest.0, rest.1 ∙ (ap (λ t. t ++ rest.0) one.1 ∙ append_assoc known.flows one.0 rest.0))

records_are : (plan : Option NatPlan) (known : Known) (frames : List (List ℕ)) → (known_by plan known frames).records ≡ known.records + length frames
records_are plan known [] = omega arith
records_are plan known (f ∷ fs) = let e : (known_by plan (known_after plan known f) fs).records ≡ suc known.records + length fs = records_are plan (known_after plan known f) fs in omega (arith, e)

-- the flow of this number among all that are opened
abbrev FlowOf : List Opened → Flow → Type 0
FlowOf all f = f ≡ flow_with f.number (flow_at all f.number)

class_flow : (plan : Option NatPlan) (flows all : List Opened) (k : ℕ) (t : Option Tuple) → Extends (flows_after plan flows k t) all → FlowOf all (class_in plan flows k t).flow
class_flow plan flows all k t ext = split (found_in plan flows t) (found_there plan flows t) ext where
  split : (o : Option (ℕ × Direction)) → IsThere flows o → Extends (flows_by o plan flows k t) all → FlowOf all (class_by o plan flows k t).flow
  split None h (more, e) = ap (flow_with (length flows)) (sym (ap (λ xs. flow_at xs (length flows)) e ∙ at_end flows more (opened_by plan flows k t)))
  split (Some f) h (more, e) = ap (flow_with f.0) (sym (ap (λ xs. flow_at xs f.0) e ∙ at_front flows more f.0 h))

each_flow : (plan : Option NatPlan) (known : Known) (frames : List (List ℕ)) (k : ℕ) → k < length frames
    → FlowOf (known_by plan known frames).flows (class_in plan (known_by plan known (take k frames)).flows (known_by plan known (take k frames)).records (tuple_of (slice_index_or frames k []))).flow
each_flow plan known [] k l = absurd (omega (arith, l))
each_flow plan known (f ∷ fs) zero l = class_flow plan known.flows (known_by plan (known_after plan known f) fs).flows known.records (tuple_of f) (all_extend plan (known_after plan known f) fs)
each_flow plan known (f ∷ fs) (suc k) l = each_flow plan (known_after plan known f) fs k (omega arith)

at_record : (plan : Option NatPlan) (frames : List (List ℕ)) (k : ℕ) → k < length frames → FlowOf (flows_of plan frames) (class_at plan frames k).flow
at_record plan frames k l =
    let start : Known = record { flows = []; records = 0 } in
    let many : (known_by plan start (take k frames)).records ≡ length (take k frames) = let e : (known_by plan start (take k frames)).records ≡ 0 + length (take k frames) = records_are plan start (take k frames) in omega (arith, e) in
    subst (λ (n : ℕ). FlowOf (flows_of plan frames) (class_in plan (flows_of plan (take k frames)) n (tuple_of (slice_index_or frames k []))).flow) many (each_flow plan start frames k l)

pub classes_alike : (plan : Option NatPlan) (frames : List (List ℕ)) (k l : ℕ) → k < length frames → l < length frames → (class_at plan frames k).flow.number ≡ (class_at plan frames l).flow.number → (class_at plan frames k).flow ≡ (class_at plan frames l).flow
classes_alike plan frames k l hk hl e =
    at_record plan frames k hk ∙ (ap (λ (n : ℕ). flow_with n (flow_at (flows_of plan frames) n)) e ∙ sym (at_record plan frames l hl))

-- items of records with their classes
pub are_records : (plan : Option NatPlan) (frames : List (List ℕ)) (list : List ClassedItem) → AllByRecursion (λ (c : ClassedItem). (c.item.a < length frames) × (c.class ≡ class_at plan frames c.item.a)) list → AreRecords (class_at plan frames) (length frames) list
are_records plan frames list h = record { each = h; alike = classes_alike plan frames }
