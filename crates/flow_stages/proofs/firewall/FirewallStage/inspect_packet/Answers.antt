use Rattle.std.proofs.Common.{refl, sym, ap, subst, ◌∙◌}
use Rattle.std.specs.FinSet as set
use Rattle.brick_spec.specs.Firewall as spec
use Rattle.batch_ops.specs.Operator.{work_item}
use Rattle.lpm_fw.specs.RuleView.{verdict_view}
use Rattle.lpm_fw.specs.declared.established.Established.{Established}
use Rattle.lpm_fw.specs.declared.rules.Verdict.{Verdict}
use Rattle.flow_stages.proofs.Firewalls.{SaysOf, KeepsSet, is_item, kept_after, kept_where_same, told_by, stands_with, other_stays, never}
use Rattle.flow_stages.proofs.firewall.FirewallStage.inspect_packet.Goals as goal

pub returns-then-self : goal.returns-then-self
returns-then-self g c = record { kept = refl; on_item = λ none. cc; fits = λ none. cc; others = λ other before differs fit. fit; same = refl; lost = c.if-self.true; stays_failed = λ _. refl }

pub invariant_of-self : goal.invariant_of-self
invariant_of-self g c =
    let s = c.args.self.now in
    let class = c.args.class.now in
    let is = is_item class c.args.packet.now c.args.tuple.now c.args.packet.now.frame refl c.requires in
    record { kept = kept_after s.established s.rules s.flows c.inspect.new.flows class c.args.tuple.now (work_item class c.args.packet.now) c.inspect.result is c.inspect.ensures.kept c.inspect.ensures.err s.kept }

pub invariant_of-self-in-Err : goal.invariant_of-self-in-Err
invariant_of-self-in-Err g c =
    let s = c.args.self.now in
    record { kept = kept_where_same s.established s.rules s.flows c.inspect.new.flows c.in-Err.ensures.err s.kept }

pub returns-in-Err : goal.returns-in-Err
returns-in-Err g c = record {
  kept = refl;
  on_item = λ none. cc;
  fits = λ none. cc;
  others = λ other before differs fit on. ap (λ (flows : Established). set.contains flows other.number) c.in-Err.ensures.err ∙ fit on;
  same = refl;
  lost = refl;
  stays_failed = λ _. refl;
}

pub returns-in-Ok-Allow : goal.returns-in-Ok-Allow
returns-in-Ok-Allow g c =
    let s = c.args.self.now in
    let class = c.args.class.now in
    let x = work_item class c.args.packet.now in
    let is = is_item class c.args.packet.now c.args.tuple.now c.args.packet.now.frame refl c.requires in
    let keeps : KeepsSet s.established s.rules s.flows c.inspect.new.flows class.flow x = λ before stands. c.in-Ok-Allow.ensures.kept before x stands is in
    let says = subst (λ (v : Verdict). SaysOf s.established s.rules s.flows class.flow x (verdict_view v)) c.in-Ok-Allow.field-0-is (λ before stands. c.in-Ok-Allow.ensures.verdict before x stands is) in
    record {
      kept = refl;
      on_item = λ _ before fit. sym (told_by s.established s.rules s.flows s.kept class.flow x spec.Allow before fit says);
      fits = λ _ before fit. stands_with s.established s.rules s.flows s.kept class.flow x c.inspect.new.flows before fit keeps;
      others = λ other before differs fit on. other_stays s.established s.rules s.flows s.kept class.flow x c.inspect.new.flows other.number differs keeps on ∙ fit on;
      same = refl;
      lost = c.if-self.false;
      stays_failed = λ was. never s.failed c.if-self.false was;
    }

pub returns-in-Ok-Deny : goal.returns-in-Ok-Deny
returns-in-Ok-Deny g c =
    let s = c.args.self.now in
    let class = c.args.class.now in
    let x = work_item class c.args.packet.now in
    let is = is_item class c.args.packet.now c.args.tuple.now c.args.packet.now.frame refl c.requires in
    let keeps : KeepsSet s.established s.rules s.flows c.inspect.new.flows class.flow x = λ before stands. c.in-Ok-Deny.ensures.kept before x stands is in
    let says = subst (λ (v : Verdict). SaysOf s.established s.rules s.flows class.flow x (verdict_view v)) c.in-Ok-Deny.field-0-is (λ before stands. c.in-Ok-Deny.ensures.verdict before x stands is) in
    record {
      kept = refl;
      on_item = λ _ before fit. sym (told_by s.established s.rules s.flows s.kept class.flow x spec.Deny before fit says);
      fits = λ _ before fit. stands_with s.established s.rules s.flows s.kept class.flow x c.inspect.new.flows before fit keeps;
      others = λ other before differs fit on. other_stays s.established s.rules s.flows s.kept class.flow x c.inspect.new.flows other.number differs keeps on ∙ fit on;
      same = refl;
      lost = c.if-self.false;
      stays_failed = λ was. never s.failed c.if-self.false was;
    }
