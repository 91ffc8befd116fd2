use Rattle.std.proofs.Common.{◌≡◌, length, rules}
use Rattle.store_files.proofs.Loops.{read_more}
use Rattle.store_files.proofs.reading.read_through.Goals as goal

pub loop-store-preserved : goal.loop-store-preserved
loop-store-preserved g c = record {
  files = λ tells.
      let at : c.len-in-loop-store.result ≡ length c.loop-store.bytes.items = search rules in
      rw c.in_ok-put_behind.ensures
      (read_more c.args.name.now c.loop-store.bytes.items c.read_at.new.into c.in_ok-count.count _ _ _
      (c.loop-store.invariant.files tells) c.in_ok-count.ensures.fits (rw at at (c.in_ok-count.ensures.reads tells)));
  counts = search rules;
  room = search rules;
}
