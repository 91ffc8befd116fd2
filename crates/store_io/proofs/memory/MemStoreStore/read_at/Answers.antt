use Rattle.std.proofs.Common.{◌≡◌, Some, inl, inr, rules}
use Rattle.store_io.specs.Memory.{held, IsPlace}
use Rattle.store_io.proofs.Held.{held_place}
use Rattle.store_io.proofs.memory.MemStoreStore.read_at.Goals as goal

pub returns-in-Some-clause-reads : goal.returns-in-Some-clause-reads
returns-in-Some-clause-reads c =
    let place : IsPlace c.args.self.now.files.items c.args.name.now c.in-Some.i = rw (← c.begins_to_fail-fails.ensures.files, ← c.deref.ensures.value) c.in-Some.ensures.found in
    let has : held c.args.self.now.files.items c.args.name.now ≡ Some c.index.result.now.1.items = held_place _ _ _ c.index.result.now place (rw (← c.begins_to_fail-fails.ensures.files) c.index.ensures) in
    record {
      gives = rw (has, ← c.deref-in-Some.ensures.value) c.give.ensures.gives;
      held = search rules;
    }

pub returns-in-Some-clause-fails : goal.returns-in-Some-clause-fails
returns-in-Some-clause-fails c =
    let place : IsPlace c.args.self.now.files.items c.args.name.now c.in-Some.i = rw (← c.begins_to_fail-fails.ensures.files, ← c.deref.ensures.value) c.in-Some.ensures.found in
    let has : held c.args.self.now.files.items c.args.name.now ≡ Some c.index.result.now.1.items = held_place _ _ _ c.index.result.now place (rw (← c.begins_to_fail-fails.ensures.files) c.index.ensures) in
    record {
      only = search rules;
      each = elim [ inl listed ↦ search rules | inr missing ↦ cc ];
    }

pub returns-in-Some-clause-most : goal.returns-in-Some-clause-most
returns-in-Some-clause-most c =
    let place : IsPlace c.args.self.now.files.items c.args.name.now c.in-Some.i = rw (← c.begins_to_fail-fails.ensures.files, ← c.deref.ensures.value) c.in-Some.ensures.found in
    let has : held c.args.self.now.files.items c.args.name.now ≡ Some c.index.result.now.1.items = held_place _ _ _ c.index.result.now place (rw (← c.begins_to_fail-fails.ensures.files) c.index.ensures) in
    rw (has, ← c.deref-in-Some.ensures.value) c.give.ensures.most
