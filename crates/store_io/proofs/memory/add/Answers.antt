use Rattle.std.proofs.Common.{◌≡◌, [], ◌++◌, None, Some, unwrap_or, ◌∙◌, ap, sym, List, ℕ}
use Rattle.std.proofs.lemmas.Result.{err_from_is_err_and}
use Rattle.store_io.specs.Memory.{held, IsPlace}
use Rattle.store_io.proofs.Held.{held_push, held_push_other, set_appends, set_others, set_same}
use Rattle.store_io.proofs.memory.add.Goals as goal

pub returns-in_err-extend_from_slice-in-Some-clause-others :
    goal.returns-in_err-extend_from_slice-in-Some-clause-others
returns-in_err-extend_from_slice-in-Some-clause-others c =
    let place : IsPlace c.args.files.now.items c.args.name.now c.in-Some.i = rw (← c.deref.ensures.value) c.in-Some.ensures.found in
    set_others _ _ _ c.index_mut.result.now c.extend_from_slice.new.self place c.index_mut.ensures.value

pub returns-in_err-extend_from_slice-in-Some-clause-err :
    goal.returns-in_err-extend_from_slice-in-Some-clause-err
returns-in_err-extend_from_slice-in-Some-clause-err c =
    let place : IsPlace c.args.files.now.items c.args.name.now c.in-Some.i = rw (← c.deref.ensures.value) c.in-Some.ensures.found in
    let p = err_from_is_err_and c.from_residual.result c.from_residual.ensures.1 in
    rw p.1 (set_same _ _ _ c.index_mut.result.now c.extend_from_slice.new.self place c.index_mut.ensures.value c.in_err-extend_from_slice-in-Some.ensures.items)

pub returns-in_ok-extend_from_slice-in-Some-clause-ok :
    goal.returns-in_ok-extend_from_slice-in-Some-clause-ok
returns-in_ok-extend_from_slice-in-Some-clause-ok c =
    let place : IsPlace c.args.files.now.items c.args.name.now c.in-Some.i = rw (← c.deref.ensures.value) c.in-Some.ensures.found in
    set_appends _ _ _ c.index_mut.result.now c.extend_from_slice.new.self _ place c.index_mut.ensures.value c.in_ok-extend_from_slice-in-Some.ensures.items

pub returns-in_ok-extend_from_slice-in-Some-clause-others :
    goal.returns-in_ok-extend_from_slice-in-Some-clause-others
returns-in_ok-extend_from_slice-in-Some-clause-others c =
    let place : IsPlace c.args.files.now.items c.args.name.now c.in-Some.i = rw (← c.deref.ensures.value) c.in-Some.ensures.found in
    set_others _ _ _ c.index_mut.result.now c.extend_from_slice.new.self place c.index_mut.ensures.value

pub returns-in_ok-push-in-None-clause-ok : goal.returns-in_ok-push-in-None-clause-ok
returns-in_ok-push-in-None-clause-ok c =
    let none : held c.args.files.now.items c.args.name.now ≡ None = rw (← c.deref.ensures.value) c.in-None.ensures.none in
    ap (λ (fs : List _). held fs c.args.name.now) c.in_ok-push-in-None.ensures.items
    ∙ held_push c.args.files.now.items _ _ none c.in_ok-from_str-in-None.ensures.ok
    ∙ ap (λ (b : List ℕ). Some b) c.in_ok-from_slice-in-None.ensures.items
    ∙ ap (λ (o : _). Some (unwrap_or o [] ++ c.args.bytes.now)) (sym none)

pub returns-in_ok-push-in-None-clause-others : goal.returns-in_ok-push-in-None-clause-others
returns-in_ok-push-in-None-clause-others c = rw c.in_ok-push-in-None.ensures.items (held_push_other c.args.files.now.items _ _ c.in_ok-from_str-in-None.ensures.ok)
