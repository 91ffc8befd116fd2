use Rattle.std.proofs.Common.{◌≡◌, ◌∙◌, map, Option, Result, Ok, Err, IfOk, ap, sym, subst}
use Rattle.brick_base.specs.declared.memory.NoMemory.{NoMemory}
use Rattle.brick_spec.specs.FlowClass.{NatPlan}
use Rattle.chain_spec.specs.ChainSet as spec
use Rattle.chain_types.specs.StageView.{stage_view, backends_view, change_view}
use Rattle.lpm_fw.specs.RuleView.{rule_view, verdict_view}
use Rattle.stage_row.specs.declared.plain.PlainStage.{PlainStage}
use Rattle.chain_run.specs.Plain.{PlainBuilt}
use Rattle.chain_run.proofs.plain.plain_of.Goals as goal

built_as : (r : Result PlainStage NoMemory) (nat : Option NatPlan) (s s' : spec.Stage) → s ≡ s' → IfOk r (λ p. (n : Option NatPlan) → PlainBuilt n s p) → IfOk r (PlainBuilt nat s')
built_as (Ok p) nat s s' e h = subst (λ t. PlainBuilt nat t p) e (h nat)
built_as (Err x) nat s s' e h = tt

pub returns-in-Firewall : goal.returns-in-Firewall
returns-in-Firewall c =
    built_as c.firewall_of.result _ _ _
    (ap (λ rs. spec.Firewall (verdict_view c.in-Firewall.default) c.in-Firewall.established (map rule_view rs)) c.as_slice.ensures.value ∙ sym (ap stage_view c.in-Firewall.is)) c.firewall_of.ensures

pub returns-in-Balance : goal.returns-in-Balance
returns-in-Balance c =
    built_as c.balance_of.result _ _ _
    ((λ i. spec.Balance (backends_view (c.as_slice-in-Balance.ensures.value i)) (map change_view (c.as_slice-in-Balance-2.ensures.value i))) ∙ sym (ap stage_view c.in-Balance.is)) c.balance_of.ensures

pub returns-in-Scan : goal.returns-in-Scan
returns-in-Scan c =
    built_as c.scan_of.result _ _ _
    (ap (λ text. spec.Scan text c.in-Scan.reach) c.as_slice-in-Scan.ensures.value ∙ sym (ap stage_view c.in-Scan.is)) c.scan_of.ensures
