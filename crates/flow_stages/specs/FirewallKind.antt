-- What is known of firewall stages.
use Rattle.batch_ops.specs.Treat.{Kind}
use Rattle.lpm_fw.specs.Inspection.{stage_of}
use Rattle.flow_stages.specs.Inspected.{FirewallFits}
use Rattle.flow_stages.specs.declared.firewall.FirewallStage.{FirewallStage}

abbrev pub firewall_kind : Kind FirewallStage
firewall_kind = record {
  stage = λ s flow. stage_of s.established s.rules;
  fits = λ s flow items. FirewallFits s.established s.rules s.flows flow items;
  failed = λ s. s.failed;
}
