use Rattle.std.proofs.Common.{◌∙◌, ap, map}
use Rattle.pcap_io.specs.View.{item_view}
use Rattle.group_merge.proofs.Viewed.{items_viewed}
use Rattle.work_core.proofs.sort.sort_items.Goals as goal

pub returns : goal.returns
returns c = ap (map item_view) c.in_ok-sort_items.ensures.order ∙ items_viewed c.args.list.now.items
