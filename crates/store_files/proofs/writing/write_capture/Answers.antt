use Rattle.std.proofs.Common.{◌≡◌, ◌≤◌, ◌++◌, length, drop, rules, arith, subst, refl}
use Rattle.std.specs.Prelude.{map}
use Rattle.brick_spec.specs.Item.{items_text}
use Rattle.pcap_io.specs.View.{item_view}
use Rattle.store_files.proofs.Pieces.{written_item, stopped_item, written_rest, stopped_rest, written_whole, whole_may}
use Rattle.store_files.proofs.writing.write_capture.Goals as goal

pub returns-in_err-put_item-clause-at_most : goal.returns-in_err-put_item-clause-at_most
returns-in_err-put_item-clause-at_most g c = λ tells.
    stopped_item _ _ _ c.args.items.now c.loop-item.item-index c.item-item.result _ _ _ c.loop-item-test.true c.item-item.is (c.loop-item.invariant.files tells) (c.put_item.ensures.grows tells)

pub loop-item-preserved : goal.loop-item-preserved
loop-item-preserved g c = record {
  files = λ tells.
      written_item _ _ _ _ c.args.items.now c.loop-item.item-index c.item-item.result _ _ _ c.loop-item-test.true c.item-item.is (c.loop-item.invariant.files tells) (c.in_ok-put_item.ensures.ok tells);
  counts = search rules;
  room = search rules;
}

pub returns-in_err-give_rest-clause-at_most : goal.returns-in_err-give_rest-clause-at_most
returns-in_err-give_rest-clause-at_most g c = λ tells.
    stopped_rest _ _ _ _ c.args.items.now c.loop-item.item-index _ _ _ c.loop-item-test.false (search rules) (c.loop-item.invariant.files tells) (c.give_rest.ensures.grows tells)

pub returns-clause-ok : goal.returns-clause-ok
returns-clause-ok g c = λ tells.
    written_whole _ _ _ _ (written_rest _ _ _ _ c.args.items.now c.loop-item.item-index _ _ _ c.loop-item-test.false (search rules) (c.loop-item.invariant.files tells) (c.in_ok-give_rest.ensures.ok tells))

pub returns-clause-at_most : goal.returns-clause-at_most
returns-clause-at_most g c = λ tells. whole_may c.args.name.now (items_text c.args.nano (map item_view c.args.items.now)) (g.S.Store.file c.args.store.now) (g.S.Store.file c.give_rest.new.store) (returns-clause-ok g c tells)
