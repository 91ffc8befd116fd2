-- Another epoch.
use Rattle.std.proofs.Common.{◌∙◌, sym, arith}
use Rattle.lb_maglev.proofs.EpochLemmas.{later_begins, not_yet_begins}
use Rattle.lb_maglev.proofs.epochs.epoch_at.Goals as goal
use Rattle.lb_maglev.proofs.epochs.epoch_at.Goals.{then-begins-k, else-begins-k}

pub loop-k-preserved : goal.loop-k-preserved
loop-k-preserved c = elim c.if-begins-k.branch [
  | then-begins-k w ↦ record {
    last = w.epoch-is ∙ sym (later_begins c.args.begins.now c.args.opened c.loop-k.k w.if-begins-k.true);
    within = let e = w.epoch-is in let below = c.loop-k-test.true in omega arith;
  }
  | else-begins-k w ↦ record {
    last = w.epoch-is ∙ c.loop-k.invariant.last ∙ sym (not_yet_begins c.args.begins.now c.args.opened c.loop-k.k w.if-begins-k.false);
    within = let e = w.epoch-is in let below = c.loop-k.invariant.within in omega arith;
  }
]
