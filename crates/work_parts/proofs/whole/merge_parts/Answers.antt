use Rattle.std.proofs.Common.{◌∙◌, ap, sym, length}
use Rattle.work_parts.proofs.Wholes.{whole_is}
use Rattle.work_parts.proofs.whole.merge_parts.Goals as goal

pub returns : goal.returns
returns c =
    whole_is c.args.parts.items c.in_ok-whole.whole (record { groups = c.in_ok-groups.groups; drops = c.nine_counts-drops.result }) c.in_ok-whole.ensures (sym (ap length c.nine_counts-drops.ensures.same) ∙ c.nine_counts-drops.ensures.long) c.in_ok-groups.ensures c.nine_counts-drops.ensures.same
