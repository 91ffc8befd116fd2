-- A chain file that is refused, where its first fault was found or not.
use Rattle.std.proofs.Common.{◌≡◌, ℕ, true, false, cond, List, Option, Some, None, refl, codes}
use Rattle.std.specs.Prelude.{is_some, IfSome}
use Rattle.chain_spec.specs.ChainFault.{ChainFault, fault_text}
use Rattle.run_spec.specs.Report.{status_of, outcome_text}
use Rattle.run_report.specs.View.{refused_view}

pub status_known : (o : Option ChainFault) → status_of (refused_view o) ≡ cond (is_some o) 3 6
status_known None = refl
status_known (Some f) = refl

pub text_known : (o : Option ChainFault) (text : List ℕ) → is_some o ≡ true → IfSome o (λ f. text ≡ fault_text f) → text ≡ outcome_text (refused_view o)
text_known None text e h = cc
text_known (Some f) text e h = h

pub text_none : (o : Option ChainFault) → is_some o ≡ false → outcome_text (refused_view o) ≡ codes "out of memory\n"
text_none None e = refl
text_none (Some f) e = cc
