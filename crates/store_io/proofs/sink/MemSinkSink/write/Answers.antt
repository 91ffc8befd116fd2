use Rattle.std.proofs.Common.{◌≡◌, ◌++◌, ◌/◌, length, take, drop, sym, rules}
use Rattle.std.proofs.lemmas.List.{take-append-drop}
use Rattle.store_io.proofs.sink.MemSinkSink.write.Goals as goal

pub returns-then-begins_to_fail-clause-writes : goal.returns-then-begins_to_fail-clause-writes
returns-then-begins_to_fail-clause-writes c =
    let half = length c.args.bytes.now / 2 in
    let kept : c.extend_from_slice.new.self.items ≡ c.args.self.now.bytes.items ++ take half c.args.bytes.now = search rules in
    record {
      ok = tt;
      at_most = (take half c.args.bytes.now, (drop half c.args.bytes.now, sym (take-append-drop half c.args.bytes.now)), kept);
      no_memory = search rules;
    }
