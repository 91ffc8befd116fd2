use Rattle.std.proofs.Common.{◌<◌, ◌++◌, length, map, drop}
use Rattle.std.specs.Prelude.{IsTrue}
use Rattle.brick_spec.specs.Item.{items_text}
use Rattle.pcap_io.specs.View.{item_view}
use Rattle.store_files.proofs.Loops.{Written, Later}
use Rattle.store_files.proofs.Pieces.{records_of}
use Rattle.store_files.proofs.writing.write_capture.Given as goal

abbrev pub invariant-loop-item : goal.invariant-loop-item
invariant-loop-item g l = record {
  files : IsTrue g.S.Store.tells → Written l.name (items_text l.nano (map item_view l.items)) (l.waiting.items ++ records_of (drop l.item-index l.items)) (g.S.Store.file l.fn.store) (g.S.Store.file l.store);
  counts : Later l.account (g.S.Store.faults l.fn.store) (g.S.Store.faults l.store);
  room : length l.waiting.items < 1048576;
}
