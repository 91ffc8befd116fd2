-- Records with one flow number have one flow: the flows that were opened stay, each at its place.
use Rattle.std.proofs.Common.{◌≡◌, ◌∙◌, ℕ, ◌+◌, ◌<◌, refl, sym, ap, arith, List, [], ◌∷◌, ◌++◌, length, take, drop, fold, get_or, Option, None, Some, IfSome}
use Rattle.std.proofs.lemmas.List.{append-nil, append_assoc, take-append-drop, take_more, get_or_append_left, get_or_push, length_push}
use Rattle.std.proofs.lemmas.List.Sums.{fold-append}
use Rattle.brick_spec.specs.Flow.{Direction, Class}
use Rattle.brick_spec.specs.Tuple.{Tuple, tuple_of}
use Rattle.brick_spec.specs.FlowClass.{NatPlan, Opened, Known, known_after, known_of, flows_of, flow_with, flow_at, reply_of, same_key_of, is_reply, has_key, key_of, is_other_flow, found_by, found_in, opened_by, class_by, flows_by, flows_after, class_at}
use Rattle.flow_key.specs.Laws.{NumbersTellFlows}
use Rattle.flow_key.specs.Maps.{ClassifierModel}
use Rattle.flow_key.proofs.Known.{records_counted, after_frames_more}
use Rattle.flow_key.proofs.Places.{found_within}

abbrev no_opened : Opened
no_opened = record { first = None; rank = None; opened = 0 }

grows_by : (o : Option (ℕ × Direction)) (plan : Option NatPlan) (flows : List Opened) (k : ℕ) (t : Option Tuple) → (more : List Opened) × (flows_by o plan flows k t ≡ flows ++ more)
grows_by None plan flows k t = (opened_by plan flows k t ∷ [], refl)
grows_by (Some f) plan flows k t = ([], sym (append-nil flows))

grows : (plan : Option NatPlan) (frames : List (List ℕ)) (k : Known) → (more : List Opened) × ((fold (known_after plan) k frames).flows ≡ k.flows ++ more)
grows plan [] k = ([], sym (append-nil k.flows))
grows plan (f ∷ frames) k =
    let t : Option Tuple = tuple_of f in
    let one : _ = grows_by (found_in plan k.flows t) plan k.flows k.records t in
    let others : _ = grows plan frames (known_after plan k f) in
    (one.0 ++ others.0, others.1 ∙ ap (λ fs. fs ++ others.0) one.1 ∙ append_assoc k.flows one.0 others.0)

-- a flow that some of the records opened is there with all of them
stays : (plan : Option NatPlan) (frames : List (List ℕ)) (k n : ℕ) → n < length (flows_of plan (take k frames)) → flow_at (flows_of plan frames) n ≡ flow_at (flows_of plan (take k frames)) n
stays plan frames k n lt =
    let more : _ = grows plan (drop k frames) (known_of plan (take k frames)) in
    let all : known_of plan frames ≡ fold (known_after plan) (known_of plan (take k frames)) (drop k frames)
    = ap (known_of plan) (sym (take-append-drop k frames)) ∙ fold-append (known_after plan) (record { flows = []; records = 0 }) (take k frames) (drop k frames) in
    ap (λ (x : Known). flow_at x.flows n) all ∙ ap (λ fs. flow_at fs n) more.1 ∙ get_or_append_left (flows_of plan (take k frames)) more.0 no_opened n lt

-- the flow that was found is one of those
found_there : (r s : Option ℕ) (flows : List Opened) (t : Option Tuple) → IfSome r (λ i. i < length flows) → IfSome s (λ i. i < length flows) → IfSome (found_by r s flows t) (λ f. f.0 < length flows)
found_there (Some i) s flows t a b = a
found_there None (Some i) flows t a b = b
found_there None None flows t a b = tt

reply_there : (plan : Option NatPlan) (flows : List Opened) (t : Option Tuple) → IfSome (reply_of plan flows t) (λ i. i < length flows)
reply_there None flows t = tt
reply_there (Some plan) flows None = tt
reply_there (Some plan) flows (Some t) = found_within (is_reply plan t) flows no_opened (reply_of (Some plan) flows (Some t)) refl

same_there : (flows : List Opened) (t : Option Tuple) → IfSome (same_key_of flows t) (λ i. i < length flows)
same_there flows None = found_within is_other_flow flows no_opened (same_key_of flows None) refl
same_there flows (Some t) = found_within (has_key (key_of t)) flows no_opened (same_key_of flows (Some t)) refl

-- the flow of a record is one of those that are there after it, by its number
pub record IsThere (c : Class) (flows : List Opened) : Type 0 where
  pub within : c.flow.number < length flows
  pub is : c.flow ≡ flow_with c.flow.number (flow_at flows c.flow.number)

there : (o : Option (ℕ × Direction)) (plan : Option NatPlan) (flows : List Opened) (k : ℕ) (t : Option Tuple) → IfSome o (λ f. f.0 < length flows) → IsThere (class_by o plan flows k t) (flows_by o plan flows k t)
there None plan flows k t h = record {
  within = let l : length (flows ++ opened_by plan flows k t ∷ []) ≡ length flows + 1 = length_push flows (opened_by plan flows k t) in omega arith;
  is = ap (flow_with (length flows)) (sym (get_or_push flows (opened_by plan flows k t) no_opened (length flows) refl));
}
there (Some f) plan flows k t h = record { within = h; is = refl }

known_next : (plan : Option NatPlan) (frames : List (List ℕ)) (k : ℕ) → k < length frames
    → flows_of plan (take (k + 1) frames) ≡ flows_after plan (flows_of plan (take k frames)) (length (take k frames)) (tuple_of (get_or frames k []))
known_next plan frames k lt =
    ap (flows_of plan) (take_more frames k [] lt)
    ∙ ap (λ (c : ClassifierModel). c.known.flows) (sym (after_frames_more plan (take k frames) (get_or frames k [])))
    ∙ ap (λ n. flows_after plan (flows_of plan (take k frames)) n (tuple_of (get_or frames k []))) (records_counted plan (take k frames))

flow_by_number : (plan : Option NatPlan) (frames : List (List ℕ)) (k : ℕ) → k < length frames → (class_at plan frames k).flow ≡ flow_with (class_at plan frames k).flow.number (flow_at (flows_of plan frames) (class_at plan frames k).flow.number)
flow_by_number plan frames k lt =
    let flows : List Opened = flows_of plan (take k frames) in
    let t : Option Tuple = tuple_of (get_or frames k []) in
    let n : ℕ = (class_at plan frames k).flow.number in
    let here : IsThere (class_at plan frames k) (flows_after plan flows (length (take k frames)) t)
    = there (found_in plan flows t) plan flows (length (take k frames)) t (found_there (reply_of plan flows t) (same_key_of flows t) flows t (reply_there plan flows t) (same_there flows t)) in
    let next : _ = known_next plan frames k lt in
    let long : length (flows_of plan (take (k + 1) frames)) ≡ length (flows_after plan flows (length (take k frames)) t) = ap length next in
    let within : _ = here.within in
    here.is ∙ ap (λ fs. flow_with n (flow_at fs n)) (sym next) ∙ ap (flow_with n) (sym (stays plan frames (k + 1) n (omega arith)))

pub numbers_tell_flows : NumbersTellFlows
numbers_tell_flows plan frames j k lj lk same =
    flow_by_number plan frames j lj
    ∙ ap (λ n. flow_with n (flow_at (flows_of plan frames) n)) same
    ∙ sym (flow_by_number plan frames k lk)
