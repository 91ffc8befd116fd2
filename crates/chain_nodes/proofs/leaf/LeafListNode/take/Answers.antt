use Rattle.std.proofs.Common.{◌≡◌, ◌∷◌, ◌++◌, [], None, map, ap, sym, ◌∙◌, refl, subst, List, ℕ}
use Rattle.std.proofs.lemmas.List.{map-append}
use Rattle.std.proofs.lemmas.Result.{on_ok_weaker}
use Rattle.brick_base.specs.Flow.{flow_of}
use Rattle.pcap_io.specs.View.{item_view, own_item}
use Rattle.pcap_io.specs.declared.item.Item.{Item}
use Rattle.batch_ops.specs.Operator.{work_item}
use Rattle.packet_owner.specs.Packet.{packet_item}
use Rattle.flow_work.specs.Log.{CountsMore}
use Rattle.flow_work.proofs.Nodes.{list_went}
use Rattle.flow_work.proofs.Logs.{counts_none}
use Rattle.chain_nodes.specs.declared.leaf.LeafList.{LeafList}
use Rattle.chain_nodes.proofs.Desks.{same_emptied}
use Rattle.chain_nodes.proofs.leaf.LeafListNode.take.Goals as goal

pub returns : goal.returns
returns c =
    let l = c.args.self.now in
    let i : Item = own_item c.lend.result in
    record {
      went = on_ok_weaker _ (λ (more : c.push-pushed.new.self.items ≡ l.items.items ++ i ∷ []).
          let all : map item_view c.push-pushed.new.self.items ≡ map item_view l.items.items ++ packet_item c.args.packet ∷ [] =
          ap (map item_view) more ∙ (map-append item_view l.items.items (i ∷ []) ∙ ap (λ x. map item_view l.items.items ++ x ∷ []) c.lend.ensures) in (
            record { lists = (work_item c.args._class.now c.args.packet ∷ []) ∷ []; dropped = [] },
            list_went (λ (l : LeafList). map item_view l.items.items) l (record { items = c.push-pushed.new.self }) (flow_of c.args._class.now) (work_item c.args._class.now c.args.packet ∷ []) None all,
            subst (λ (counts : List ℕ). CountsMore c.args.desk.now.counts counts []) (sym c.put_back.ensures.counts) (counts_none c.args.desk.now.counts),
          )) c.push-pushed.ensures.ok;
      recycled = c.put_back.ensures.recycled;
      emptied = same_emptied c.args.desk.now.out c.put_back.new.self.out c.put_back.ensures.lists c.requires.rest;
      stays = λ count bytes free is was. was;
      same = refl;
      many = refl;
    }
