-- What is known after a record more.
use Rattle.std.proofs.Common.{◌≡◌, ◌∙◌, ℕ, suc, ◌+◌, sym, ap, arith, List, [], ◌∷◌, ◌++◌, length, fold, Option}
use Rattle.std.proofs.lemmas.List.Sums.{fold-append}
use Rattle.brick_spec.specs.Tuple.{tuple_of}
use Rattle.brick_spec.specs.FlowClass.{NatPlan, Known, known_after, known_of, class_of, class_in, flows_after}
use Rattle.flow_key.specs.Maps.{after_frames, after_record, class_of_record}

records_from : (plan : Option NatPlan) (frames : List (List ℕ)) (k : Known) → (fold (known_after plan) k frames).records ≡ k.records + length frames
records_from plan [] k = omega arith
records_from plan (f ∷ frames) k = records_from plan frames (known_after plan k f) ∙ (let n : ℕ = length frames in let m : ℕ = k.records in let e : suc m + n ≡ m + suc n = omega arith in e)

-- as many records are known as there were frames
pub records_counted : (plan : Option NatPlan) (frames : List (List ℕ)) → (known_of plan frames).records ≡ length frames
records_counted plan frames = records_from plan frames (record { flows = []; records = 0 }) ∙ (let n : ℕ = length frames in let e : 0 + n ≡ n = omega arith in e)

-- the class of the next record
pub class_is : (plan : Option NatPlan) (frames : List (List ℕ)) (frame : List ℕ) → class_of_record (after_frames plan frames) (tuple_of frame) ≡ class_of plan frames frame
class_is plan frames frame = ap (λ k. class_in plan (known_of plan frames).flows k (tuple_of frame)) (records_counted plan frames)

-- a frame more
pub after_frames_more : (plan : Option NatPlan) (frames : List (List ℕ)) (frame : List ℕ) → after_record (after_frames plan frames) (tuple_of frame) ≡ after_frames plan (frames ++ frame ∷ [])
after_frames_more plan frames frame =
    let more : known_after plan (known_of plan frames) frame ≡ known_of plan (frames ++ frame ∷ []) = sym (fold-append (known_after plan) (record { flows = []; records = 0 }) frames (frame ∷ [])) in
    let one : (known_of plan frames).records + 1 ≡ suc (known_of plan frames).records = omega arith in
    ap (λ n. record { plan = plan; known = record { flows = flows_after plan (known_of plan frames).flows (known_of plan frames).records (tuple_of frame); records = n } }) one
    ∙ ap (λ (k : Known). record { plan = plan; known = k }) more
