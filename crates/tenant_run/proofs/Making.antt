-- What the chain makes of all records.
use Rattle.std.proofs.Common.{◌≡◌, ℕ, suc, get_or, ◌+◌, ◌^◌, ◌<◌, List, [], ◌∷◌, ◌++◌, map, length, take, min, Bool, true, false, Option, Some, refl, ap, sym, subst, ◌∙◌, arith, length-take-le}
use Rattle.std.proofs.lemmas.Option.{slice_get-map, slice_get_within, slice_get_read, get_or_from_slice_get}
use Rattle.std.proofs.lemmas.List.{take_more}
use Rattle.std.proofs.lemmas.List.FromFn.{length-range_with_len, length-map-range_with_len, get_or-map-range_with_len}
use Rattle.std.specs.List.{slice_get, range_with_len}
use Rattle.std.specs.Option.{option_map}
use Rattle.brick_spec.specs.Capture.{Contents, Entry}
use Rattle.brick_spec.specs.Flow.{Class}
use Rattle.brick_spec.specs.FlowClass.{class_at, class_of, classes_of, NatPlan}
use Rattle.flow_key.specs.Frames.{frames_of}
use Rattle.flow_key.specs.Maps.{ClassifierModel, after_frames}
use Rattle.flow_key.proofs.Known.{records_counted}
use Rattle.brick_spec.specs.Item.{Item}
use Rattle.brick_spec.specs.Stage.{Reason, Big}
use Rattle.flow_spec.specs.Answer as flows
use Rattle.flow_spec.specs.Answer.{Answer, ClassedItem, leaf_lists, dropped_of, counts_of}
use Rattle.flow_spec.specs.Plan.{leaf_count}
use Rattle.chain_spec.specs.ChainSet.{Chain, leaves_of}
use Rattle.tenant_spec.specs.ChainPlan.{plan_of}
use Rattle.tenant_spec.specs.Records.{accepted_items, big_items}
use Rattle.tenant_spec.specs.Tenant.{reasons}
use Rattle.std.proofs.lemmas.List.{append-nil}
use Rattle.flow_spec.specs.Plan.{Plan}
use Rattle.work_core.specs.Classed.{classed}
use Rattle.work_core.specs.ChainWork.{TookEnd, GivesAnswer}
use Rattle.work_core.specs.Keys.{ChainsOwnKeys}
use Rattle.work_core.specs.Result.{result_view}
use Rattle.work_core.specs.declared.result.WorkResult.{WorkResult}
use Rattle.tenant_run.specs.Made.{accepted_upto}
use Rattle.tenant_run.specs.Turns.{Waits}
use Rattle.tenant_run.specs.declared.turns.Turns.{Turns}
use Rattle.tenant_run.proofs.InOrder.{accepted_all, are_all_records, frames}
use Rattle.tenant_run.proofs.Leaves.{leaves_counted}

pub long_map : {X Y : Type 0} (h : X → Y) (xs : List X) → length (map h xs) ≡ length xs
long_map h [] = refl
long_map h (x ∷ xs) = ap suc (long_map h xs)

-- the frame of a record
frame_there : (c : Contents) (k : ℕ) (e : Entry) → slice_get c.entries k ≡ Some e → get_or (frames_of c) k [] ≡ e.frame
frame_there c k e there = get_or_from_slice_get (frames_of c) k e.frame [] (slice_get-map (λ (x : Entry). x.frame) c.entries k ∙ ap (option_map (λ (x : Entry). x.frame)) there)

frame_within : (c : Contents) (k : ℕ) (e : Entry) → slice_get c.entries k ≡ Some e → k < length (frames_of c)
frame_within c k e there = let within = slice_get_within c.entries k e there in let same = long_map (λ (x : Entry). x.frame) c.entries in omega (arith, within, same)

-- as many records are known as were taken
pub few_known : (nat : Option NatPlan) (c : Contents) (k : ℕ) (known : ClassifierModel) (e : Entry) → slice_get c.entries k ≡ Some e → known ≡ after_frames nat (take k (frames_of c)) → k + 1 < 2 ^ 32 → known.known.records < 2 ^ 32
few_known nat c k known e there is below =
    let within = frame_within c k e there in
    let long = length-take-le k (frames_of c) (omega (arith, within)) in
    let many = ap (λ (m : ClassifierModel). m.known.records) is ∙ records_counted nat (take k (frames_of c)) in
    omega (arith, long, many, below)

-- the class that is told of the next record is that of the capture
pub class_there : (nat : Option NatPlan) (c : Contents) (k : ℕ) (x : Class) (e : Entry) → slice_get c.entries k ≡ Some e → x ≡ class_of nat (take k (frames_of c)) e.frame → slice_get (classes_of nat (frames_of c)) k ≡ Some x
class_there nat c k x e there is =
    let n = length (frames_of c) in
    let f = class_at nat (frames_of c) in
    let within = frame_within c k e there in
    let told : x ≡ f k = is ∙ ap (class_of nat (take k (frames_of c))) (sym (frame_there c k e there)) in
    let at : 0 + k ≡ k = omega arith in
    slice_get_read (classes_of nat (frames_of c)) n k x (sym (length-map-range_with_len f 0 n)) within (told ∙ sym (get_or-map-range_with_len f 0 n k k x within at))

-- a record more is known
pub known_next : (nat : Option NatPlan) (c : Contents) (k : ℕ) (known : ClassifierModel) (e : Entry) → slice_get c.entries k ≡ Some e → known ≡ after_frames nat (take k (frames_of c) ++ e.frame ∷ []) → known ≡ after_frames nat (take (k + 1) (frames_of c))
known_next nat c k known e there is =
    is ∙ (ap (λ x. after_frames nat (take k (frames_of c) ++ x ∷ [])) (sym (frame_there c k e there)) ∙ ap (after_frames nat) (sym (take_more (frames_of c) k [] (frame_within c k e there))))

-- what answers has not failed
pub not_failed : (b : Bool) → (b ≡ true → false ≡ true) → b ≡ false
not_failed false h = refl
not_failed true h = sym (h refl)

long_from : {X : Type 0} (h : ℕ → X) (k m : ℕ) → length (map h (range_with_len k m)) ≡ m
long_from h k m = long_map h (range_with_len k m) ∙ length-range_with_len k m

pub many_groups : (chain : Chain) (list : List ClassedItem) (n : ℕ) → length (flows.answer (plan_of chain) list n).groups ≡ length (leaves_of chain)
many_groups chain list n = long_from (flows.leaf_list (plan_of chain) (Some n) list) 0 (leaf_count (plan_of chain)) ∙ sym (leaves_counted chain)

pub the_drops : (chain : Chain) (c : Contents) (drops counts : List ℕ) (big : ℕ) → drops ≡ (flows.answer (plan_of chain) (accepted_items chain [] c) (length c.entries)).drops → big ≡ length (big_items chain c)
    → ((rs : List Reason) (bigs : List Item) → drops ≡ map (min 4294967295) (counts_of rs) → big ≡ length bigs → counts ≡ counts_of (map (λ i. Big) bigs ++ rs)) → counts ≡ counts_of (reasons chain [] c)
the_drops chain c drops counts big same many counted =
    counted (map (λ d. d.reason) (dropped_of (plan_of chain) (Some (length c.entries)) (accepted_items chain [] c))) (big_items chain c) same many

module _ {W : Type 0} (follows : W → Plan → Type 0) (stands : W → List ClassedItem → Type 0) (finished : W → ℕ → List ClassedItem → Type 0) (ended : W → Option ℕ) (broken : W → Bool)
    (answer : Plan → List ClassedItem → ℕ → Answer) (means : (p : Plan) (list : List ClassedItem) (n : ℕ) → answer p list n ≡ flows.answer p list n)
    (chain : Chain) (c : Contents) (turns : Turns W) (work : W) (k n : ℕ) (r : WorkResult) where
  pub answered : k ≡ length c.entries → n ≡ length c.entries → Waits stands (accepted_upto chain c k) turns → turns.batch ≡ [] → follows turns.work (plan_of chain)
      → TookEnd follows stands finished ended broken turns.work work n → (broken work ≡ true → false ≡ true) → GivesAnswer follows answer finished work r → ChainsOwnKeys
      → result_view r ≡ flows.answer (plan_of chain) (accepted_items chain [] c) (length c.entries)
  answered at many came none plan over works gives owns =
      let all : accepted_items chain [] c ≡ came.0 = sym (accepted_all chain c) ∙ (ap (λ m. accepted_upto chain c m) (sym at) ∙ (came.2 ∙ ((λ i. came.0 ++ map classed (none i)) ∙ append-nil came.0))) in
      let stood : stands turns.work (accepted_items chain [] c) = subst (stands turns.work) (sym all) came.1 in
      let done : finished work (length c.entries) (accepted_items chain [] c) =
      subst (λ m. finished work m (accepted_items chain [] c)) many (over.goes (not_failed (broken work) works) (accepted_items chain [] c) stood) in
      gives (plan_of chain) (class_at chain.nat (frames c)) (length c.entries) (accepted_items chain [] c) (over.same (plan_of chain) plan) (owns chain) (are_all_records chain c) done
      ∙ means (plan_of chain) (accepted_items chain [] c) (length c.entries)
