use Rattle.std.proofs.Common.{sym, ◌∙◌, ap, Some, List, ℕ}
use Rattle.store_io.specs.Memory.{IsPlace}
use Rattle.store_io.proofs.Held.{held_place}
use Rattle.store_io.proofs.memory.MemStore.file.Goals as goal

pub returns : goal.returns
returns c =
    let place : IsPlace c.args.self.now.files.items c.args.name.now c.in_ok-i.i = rw (← c.deref.ensures.value) c.in_ok-i.ensures.found in
    ap (λ (b : List ℕ). Some b) c.deref-2.ensures.value ∙ sym (held_place _ _ _ c.index.result.now place c.index.ensures)
