-- Plain stages, one after another.
use Rattle.std.proofs.Common.{◌≡◌, ℕ, ◌+◌, ◌<◌, List, [], ◌∷◌, ◌++◌, map, take, get_or, length, cond, Option, refl, ap, sym, subst, ◌∙◌, append-nil, append_assoc}
use Rattle.std.proofs.lemmas.List.{map-append}
use Rattle.std.specs.List.{AllByRecursion}
use Rattle.brick_spec.specs.FlowClass.{NatPlan}
use Rattle.batch_ops.specs.Treat.{stages_at}
use Rattle.stage_row.specs.Plain.{plain_stage, plain_kind, IsNew}
use Rattle.stage_row.specs.declared.plain.PlainStage.{PlainStage}
use Rattle.chain_spec.specs.ChainSet.{Stage}
use Rattle.tenant_spec.specs.ChainPlan.{stage_of, row_of}
use Rattle.chain_run.specs.Plain.{PlainBuilt, AddsPlain}
use Rattle.chain_run.proofs.Checked.{seen_more, all_pushed, windows_next}

pub adds_none : (nat : Option NatPlan) (old : List PlainStage) → AddsPlain nat [] old old
adds_none nat old = record { row = λ flow. sym (append-nil (stages_at plain_kind old flow)); new = λ h. h; plain = refl }

pub adds_next : {Y : Type 0} (view : Y → Stage) (nat : Option NatPlan) (ys : List Y) (i : ℕ) (y : Y) (old mid now : List PlainStage) (p : PlainStage) → i < length ys → y ≡ get_or ys i y → now ≡ mid ++ p ∷ [] → AddsPlain nat (map view (take i ys)) old mid → PlainBuilt nat (view y) p
    → AddsPlain nat (map view (take (i + 1) ys)) old now
adds_next view nat ys i y old mid now p lt is e a b = record {
  row = λ flow.
      ap (λ ss. stages_at plain_kind ss flow) e
      ∙ (map-append (λ (s : PlainStage). plain_stage s flow) mid (p ∷ [])
      ∙ ((λ j. a.row flow j ++ b.stage flow j ∷ [])
      ∙ (append_assoc (stages_at plain_kind old flow) (row_of nat (map view (take i ys)) flow) (stage_of nat flow (view y) ∷ [])
      ∙ ap (λ r. stages_at plain_kind old flow ++ r) (sym (ap (λ ss. row_of nat ss flow) (seen_more view ys i y lt is) ∙ map-append (stage_of nat flow) (map view (take i ys)) (view y ∷ []))))));
  new = λ h. subst (AllByRecursion IsNew) (sym e) (all_pushed IsNew mid p (a.new h) b.new);
  plain = windows_next view ys i y lt is ∙ (λ j. a.plain j + cond (b.plain j) 1 0);
}
