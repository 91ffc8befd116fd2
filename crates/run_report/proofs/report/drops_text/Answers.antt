use Rattle.std.proofs.Common.{◌≡◌, ◌++◌, ◌∙◌, List, ℕ, decimal, slice_index, append_assoc}
use Rattle.std.specs.Prelude.{codes}
use Rattle.run_spec.specs.Report.{drops_text}
use Rattle.run_report.proofs.report.drops_text.Goals as goal

joined : (drops text first second third : List ℕ) → text ≡ first ++ (second ++ third)
    → first ≡ codes " Big=" ++ (decimal (slice_index drops 0) ++ (codes " Unparsed=" ++ (decimal (slice_index drops 1) ++ (codes " Fire=" ++ decimal (slice_index drops 2)))))
    → second ≡ codes " NoRoute=" ++ (decimal (slice_index drops 3) ++ (codes " Ttl=" ++ (decimal (slice_index drops 4) ++ (codes " NatFull=" ++ decimal (slice_index drops 5)))))
    → third ≡ codes " Filter=" ++ (decimal (slice_index drops 6) ++ (codes " NoGroup=" ++ (decimal (slice_index drops 7) ++ (codes " Reach=" ++ decimal (slice_index drops 8)))))
    → text ≡ drops_text drops
unfolding drops_text
joined drops text first second third e a b c = e ∙ ((λ i. a i ++ (b i ++ c i)) ∙ simp append_assoc)

pub returns : goal.returns
returns c = joined c.args.drops.now _ _ _ _ c.in_ok-text.ensures.ok c.in_ok-first.ensures c.in_ok-second.ensures c.in_ok-third.ensures
