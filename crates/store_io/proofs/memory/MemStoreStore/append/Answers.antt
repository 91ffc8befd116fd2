use Rattle.std.proofs.Common.{◌/◌, length, take, rules}
use Rattle.brick_spec.specs.Files.{Appends}
use Rattle.store_io.specs.Memory.{held}
use Rattle.store_io.proofs.Held.{all_appended, half_appended}
use Rattle.store_io.proofs.memory.MemStoreStore.append.Goals as goal

pub returns-then-begins_to_fail-clause-appends : goal.returns-then-begins_to_fail-clause-appends
returns-then-begins_to_fail-clause-appends c =
    let done : Appends c.args.name.now (take (length c.args.bytes.now / 2) c.args.bytes.now) (held c.args.self.now.files.items) (held c.add.new.files.items) = rw (← c.begins_to_fail.ensures.files) c.in_default.ensures.ok in
    record {
      ok = tt;
      at_most = half_appended c.args.name.now c.args.bytes.now (length c.args.bytes.now / 2) (held c.args.self.now.files.items) (held c.add.new.files.items) done;
      no_memory = search rules;
      others = rw (← c.begins_to_fail.ensures.files) c.in_default.ensures.others;
    }

pub returns-clause-appends : goal.returns-clause-appends
returns-clause-appends c =
    let done : Appends c.args.name.now c.args.bytes.now (held c.args.self.now.files.items) (held c.add-2.new.files.items) = rw (← c.begins_to_fail.ensures.files) c.in_ok-add.ensures.ok in
    record {
      ok = done;
      at_most = all_appended c.args.name.now c.args.bytes.now (held c.args.self.now.files.items) (held c.add-2.new.files.items) done;
      no_memory = search rules;
      others = rw (← c.begins_to_fail.ensures.files) c.in_ok-add.ensures.others;
    }
