-- the last of the epochs so far that begins at the record or before it
use Rattle.std.proofs.Common.{◌≡◌, ◌<◌, length}
use Rattle.lb_maglev.proofs.EpochLemmas.{epoch_among}
use Rattle.lb_maglev.proofs.epochs.epoch_at.Given as goal

abbrev pub invariant-loop-k : goal.invariant-loop-k
invariant-loop-k l = record {
  last : l.epoch ≡ epoch_among l.begins l.fn.opened l.k;
  within : l.epoch < length l.begins;
}
