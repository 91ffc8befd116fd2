-- the records so far came
use Rattle.nat_port.proofs.Records.{IsAfter}
use Rattle.nat_port.proofs.tests.classified.Given as goal

abbrev pub invariant-loop-k : goal.invariant-loop-k
invariant-loop-k l = IsAfter l.classifier l.k
