use Rattle.work_parts.specs.Wholes.{IsWholeOf}
use Rattle.work_parts.proofs.whole.append_parts.Given as goal

abbrev pub invariant-loop-part : goal.invariant-loop-part
invariant-loop-part l = IsWholeOf l.yielded l.whole
