use Rattle.stream_scan.proofs.Lasts.{last_parts}
use Rattle.stream_scan.proofs.search.last_of.Goals as goal

pub returns : goal.returns
returns c =
    last_parts c.args.most c.args.tail.now c.args.piece.now c.min-of_piece.result c.min-of_tail.result c.try_extend_from_slice-copied.new.self.items c.try_extend_from_slice-copied-2.new.self.items
    c.min-of_piece.ensures c.min-of_tail.ensures
    (rw c.new-kept.ensures at (rw c.unwrap.ensures at c.try_extend_from_slice-copied.ensures.ok))
    (rw c.unwrap-2.ensures at c.try_extend_from_slice-copied-2.ensures.ok)
