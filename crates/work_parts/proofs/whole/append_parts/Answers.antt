use Rattle.work_parts.proofs.Wholes.{whole_more}
use Rattle.work_parts.proofs.whole.append_parts.Goals as goal

pub loop-part-preserved : goal.loop-part-preserved
loop-part-preserved c = whole_more c.loop-part.yielded c.in-Some.part c.loop-part.whole c.append_part.new.whole c.loop-part.invariant c.in_ok-append_part.ensures.groups c.in_ok-append_part.ensures.drops
