use Rattle.std.proofs.Common.{◌∷◌, [], Some, map, sym, append-nil, refl}
use Rattle.brick_base.specs.Flow.{flow_of}
use Rattle.pcap_io.specs.View.{item_view}
use Rattle.flow_work.proofs.Nodes.{list_went}
use Rattle.flow_work.proofs.Logs.{counts_none}
use Rattle.flow_work.proofs.Buffers.{recycled_none}
use Rattle.chain_nodes.specs.declared.leaf.LeafList.{LeafList}
use Rattle.chain_nodes.proofs.leaf.LeafListNode.end.Goals as goal

pub returns : goal.returns
returns c =
    let l = c.args.self.now in
    let d = c.args._desk.now in
    record {
      went = (record { lists = [] ∷ []; dropped = [] }, list_went (λ (l : LeafList). map item_view l.items.items) l l (flow_of c.args._class.now) [] (Some c.args._records) (sym (append-nil (map item_view l.items.items))), counts_none d.counts);
      recycled = recycled_none d.back d.out.spare;
      emptied = c.requires.rest;
      stays = λ count bytes free is was. was;
      same = refl;
      many = refl;
    }
