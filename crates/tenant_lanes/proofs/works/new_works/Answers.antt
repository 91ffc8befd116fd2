use Rattle.std.proofs.Common.{◌≡◌, List, [], ◌∷◌, ◌++◌, sym, ap, ◌∙◌, subst, arith, inl, inr, length-append}
use Rattle.std.specs.Prelude.{slice_get}
use Rattle.work_crew.specs.Rows.{Each}
use Rattle.work_crew.proofs.Rows.{last_or}
use Rattle.tenant_lanes.proofs.works.new_works.Goals as goal

-- said of the first members and of one behind them
one_more : {A : Type 0} (P : A → Type 0) (xs zs : List A) (x : A) → zs ≡ xs ++ x ∷ [] → Each P xs → P x → Each P zs
one_more P xs zs x is h p t a at = elim (last_or xs x t a (ap (λ l. slice_get l t) (sym is) ∙ at)) [
  | inl k ↦ h t a k
  | inr k ↦ subst P (sym k.1) p
]

pub each-preserved : goal.each-preserved
each-preserved g c =
    let new = c.in_ok-work.ensures in
    let items = c.in_ok-push.ensures.items in
    let long = length-append c.each.works.items (c.in_ok-work.work ∷ []) in
    let before = c.each.invariant.count in record {
      count = rw items (omega (arith, long, before));
      follow = one_more _ _ _ c.in_ok-work.work items c.each.invariant.follow new.follows;
      new = one_more _ _ _ c.in_ok-work.work items c.each.invariant.new (record { usable = new.ready; nothing = new.begins; open_work = new.open_work; works = new.works });
    }
