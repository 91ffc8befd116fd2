-- the rules from here on decide
use Rattle.std.proofs.Common.{◌≡◌, drop, map}
use Rattle.brick_spec.specs.Firewall as spec
use Rattle.tcp_udp.specs.View.{tuple_view}
use Rattle.lpm_fw.specs.RuleView.{verdict_view, rule_view}
use Rattle.lpm_fw.proofs.rules.Rules.verdict.Given as goal

abbrev pub invariant-loop-rule : goal.invariant-loop-rule
invariant-loop-rule l = spec.verdict_of (map rule_view (drop l.rule-index l.self-inside.rows.items)) (verdict_view l.self-inside.default) (tuple_view l.t) ≡ spec.verdict_of (map rule_view l.self-inside.rows.items) (verdict_view l.self-inside.default) (tuple_view l.t)
