-- Rules of the code as those of the definitions.
use Rattle.std.specs.Prelude.{option_map}
use Rattle.brick_spec.specs.Firewall as spec
use Rattle.tcp_udp.specs.MatchView.{match_view}
use Rattle.lpm_fw.specs.declared.rules.Verdict.{Verdict}
use Rattle.lpm_fw.specs.declared.rules.Verdict.TheVariants.{Allow, Deny}
use Rattle.lpm_fw.specs.declared.rules.Rule.{Rule}

abbrev pub verdict_view : Verdict → spec.Verdict
verdict_view Allow = spec.Allow
verdict_view Deny = spec.Deny

abbrev pub rule_view : Rule → spec.Rule
rule_view r = record { verdict = verdict_view r.verdict; wanted = option_map match_view r.wanted }
