use Rattle.std.proofs.Common.{◌≡◌, rules, bytes_eq, string_bytes, false}
use Rattle.store_io.proofs.Held.{held_more}
use Rattle.store_io.proofs.memory.place_of.Goals as goal

pub loop-i-preserved : goal.loop-i-preserved
loop-i-preserved c =
    let differs : bytes_eq (string_bytes c.index-files-i.result.0) c.args.name.now ≡ false = search rules in
    held_more c.args.files.now c.args.name.now c.loop-i.i c.index-files-i.result c.loop-i-test.true c.index-files-i.is differs c.loop-i.invariant
