use Rattle.std.proofs.Common.{◌≡◌, None, Some, ◌∙◌, ap, List, ℕ}
use Rattle.store_io.specs.Memory.{held, IsPlace}
use Rattle.store_io.proofs.Held.{held_push, held_push_other, set_says, set_others}
use Rattle.store_io.proofs.memory.empty.Goals as goal

pub returns-in-Some-clause-ok : goal.returns-in-Some-clause-ok
returns-in-Some-clause-ok c =
    let place : IsPlace c.args.files.now.items c.args.name.now c.in-Some.i = rw (← c.deref.ensures.value) c.in-Some.ensures.found in
    set_says _ _ _ c.index_mut.result.now c.clear.new.self _ place c.index_mut.ensures.value c.clear.ensures.items

pub returns-in-Some-clause-others : goal.returns-in-Some-clause-others
returns-in-Some-clause-others c =
    let place : IsPlace c.args.files.now.items c.args.name.now c.in-Some.i = rw (← c.deref.ensures.value) c.in-Some.ensures.found in
    set_others _ _ _ c.index_mut.result.now c.clear.new.self place c.index_mut.ensures.value

pub returns-in_ok-push-in-None-clause-ok : goal.returns-in_ok-push-in-None-clause-ok
returns-in_ok-push-in-None-clause-ok c =
    let none : held c.args.files.now.items c.args.name.now ≡ None = rw (← c.deref.ensures.value) c.in-None.ensures.none in
    ap (λ (fs : List _). held fs c.args.name.now) c.in_ok-push-in-None.ensures.items
    ∙ held_push c.args.files.now.items _ _ none c.in_ok-from_str-in-None.ensures.ok
    ∙ ap (λ (b : List ℕ). Some b) c.new.ensures.items

pub returns-in_ok-push-in-None-clause-others : goal.returns-in_ok-push-in-None-clause-others
returns-in_ok-push-in-None-clause-others c = rw c.in_ok-push-in-None.ensures.items (held_push_other c.args.files.now.items _ _ c.in_ok-from_str-in-None.ensures.ok)
