-- A classifier to which so many records came.
use Rattle.std.proofs.Common.{◌≡◌, ℕ, ◌+◌, Option, List, [], ◌∷◌, ◌++◌, length, arith, refl, ap, ◌∙◌, length-append}
use Rattle.brick_spec.specs.FlowClass.{NatPlan}
use Rattle.flow_key.proofs.Known.{records_counted}
use Rattle.flow_key.specs.Maps.{ClassifierModel, after_frames}

pub record IsAfter (c : ClassifierModel) (n : ℕ) : Type 0 where
  pub plan : Option NatPlan
  pub frames : List (List ℕ)
  pub known : c ≡ after_frames plan frames
  pub counted : length frames ≡ n

pub none_came : (c : ClassifierModel) (plan : Option NatPlan) → c ≡ after_frames plan [] → IsAfter c 0
none_came c plan e = record { plan = plan; frames = []; known = e; counted = refl }

pub one_came : (c d : ClassifierModel) (n : ℕ) (frame : List ℕ) (a : IsAfter c n) → d ≡ after_frames a.plan (a.frames ++ frame ∷ []) → IsAfter d (n + 1)
one_came c d n frame a e =
    let k = a.counted in
    record { plan = a.plan; frames = a.frames ++ frame ∷ []; known = e; counted = omega (arith, length-append a.frames (frame ∷ []), k) }

pub records_came : (c : ClassifierModel) (n : ℕ) → IsAfter c n → c.known.records ≡ n
records_came c n a = ap (λ (s : ClassifierModel). s.known.records) a.known ∙ records_counted a.plan a.frames ∙ a.counted
