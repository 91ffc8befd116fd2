-- A member more at the end of lists, and a work more of a job.
use Rattle.std.proofs.Common.{◌≡◌, ℕ, zero, suc, ◌+◌, List, [], ◌∷◌, ◌++◌, length, sym, ap, ◌∙◌, subst, Bool, Option, Some, arith}
use Rattle.std.specs.Global.{Vec}
use Rattle.std.proofs.lemmas.List.{length-append}
use Rattle.flow_spec.specs.Answer.{ClassedItem}
use Rattle.flow_spec.specs.Plan.{Plan}
use Rattle.tenant_spec.specs.ChainPlan.{plan_of}
use Rattle.work_core.specs.declared.job.TenantJob.{TenantJob}
use Rattle.work_crew.specs.Crews.{AreNewWorks}
use Rattle.work_crew.specs.JobView.{job_view}
use Rattle.work_crew.specs.Members.{Members, Across}
use Rattle.work_crew.specs.Rows.{Each}
use Rattle.work_crew.specs.Worked.{IsNewWork}

some_is : {A : Type 0} {x y : A} → Some x ≡ Some y → x ≡ y
some_is e = cc

each_more : {A : Type 0} (P : A → Type 0) (xs : List A) (x : A) → Each P xs → P x → Each P (xs ++ x ∷ [])
each_more P [] x h p zero a at = subst P (some_is at) p
each_more P [] x h p (suc t) a at = absurd (cc)
each_more P (y ∷ ys) x h p zero a at = h zero a at
each_more P (y ∷ ys) x h p (suc t) a at = each_more P ys x (λ t a at. h (suc t) a at) p t a at

members_more : {A B : Type 0} (P : A → B → Type 0) (xs : List A) (ys : List B) (x : A) (y : B) → length ys ≡ length xs → Members P xs ys → P x y → Members P (xs ++ x ∷ []) (ys ++ y ∷ [])
members_more P [] [] x y e h p zero a b at_a at_b = subst (λ a. P a b) (some_is at_a) (subst (P x) (some_is at_b) p)
members_more P [] [] x y e h p (suc t) a b at_a at_b = absurd (cc)
members_more P [] (z ∷ ys) x y e h p t a b at_a at_b = absurd (omega (arith, e))
members_more P (w ∷ xs) [] x y e h p t a b at_a at_b = absurd (omega (arith, e))
members_more P (w ∷ xs) (z ∷ ys) x y e h p zero a b at_a at_b = h zero a b at_a at_b
members_more P (w ∷ xs) (z ∷ ys) x y e h p (suc t) a b at_a at_b = members_more P xs ys x y (omega (arith, e)) (λ t a b at_a at_b. h (suc t) a b at_a at_b) p t a b at_a at_b

pub across_more : {A B : Type 0} (P : A → B → Type 0) (xs xs' : List A) (ys ys' : List B) (x : A) (y : B) → xs' ≡ xs ++ x ∷ [] → ys' ≡ ys ++ y ∷ [] → Across P xs ys → P x y → Across P xs' ys'
across_more P xs xs' ys ys' x y xs_are ys_are h p = subst (λ l. Across P l ys') (sym xs_are) (subst (Across P (xs ++ x ∷ [])) (sym ys_are) (record {
  count = length-append ys (y ∷ []) ∙ ap (λ n. n + 1) h.count ∙ sym (length-append xs (x ∷ []));
  each = members_more P xs ys x y h.count h.each p;
}))

module _ {W : Type 0} (follows : W → Plan → Type 0) (ready : W → Type 0) (stands : W → List ClassedItem → Type 0) (ended : W → Option ℕ) (broken : W → Bool) (job : TenantJob) where
  pub works_more : (n : ℕ) (works works' : Vec W) (w : W) → works'.items ≡ works.items ++ w ∷ [] → AreNewWorks follows ready stands ended broken n job works
      → follows w (plan_of (job_view job).chain) → IsNewWork ready stands ended broken w → AreNewWorks follows ready stands ended broken (n + 1) job works'
  works_more n works works' w are h f new = record {
    count = ap length are ∙ length-append works.items (w ∷ []) ∙ ap (λ k. k + 1) h.count;
    follow = subst (Each (λ x. follows x (plan_of (job_view job).chain))) (sym are) (each_more (λ x. follows x (plan_of (job_view job).chain)) works.items w h.follow f);
    new = subst (Each (IsNewWork ready stands ended broken)) (sym are) (each_more (IsNewWork ready stands ended broken) works.items w h.new new);
  }
