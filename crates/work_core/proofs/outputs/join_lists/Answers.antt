use Rattle.std.proofs.Common.{◌+◌, ◌≡◌, ◌<◌, ◌∙◌, [], List, ℕ, map, length, ap, sym, subst, IfOk, Result, Ok, Err, zero, suc, refl}
use Rattle.std.specs.List.{AllByRecursion}
use Rattle.std.proofs.lemmas.List.{length-map}
use Rattle.std.specs.Global.{Vec}
use Rattle.brick_base.specs.declared.memory.NoMemory.{NoMemory}
use Rattle.brick_spec.specs.GroupOutput.{in_key_order}
use Rattle.flow_spec.specs.Answer.{output_lists}
use Rattle.std.specs.List.{range_with_len}
use Rattle.pcap_io.specs.declared.item.Item.{Item}
use Rattle.work_core.specs.Result.{items_view}
use Rattle.work_core.specs.Outputs.{item_lists, shared_out}
use Rattle.work_core.proofs.Shares.{outputs_are}
use Rattle.work_core.proofs.outputs.join_lists.Goals as goal

long_numbers : (k m : ℕ) → length (map (λ o. let none : List Item = [] in none) (range_with_len k m)) ≡ m
long_numbers k zero = refl
long_numbers k (suc m) = ap suc (long_numbers (k + 1) m)

pub share_out-requires-clause-within : goal.share_out-requires-clause-within
share_out-requires-clause-within c =
    let many : length c.in_ok-lists.lists.items ≡ c.args.many = sym (length-map c.in_ok-lists.lists.items (λ (v : Vec Item). v.items)) ∙ (ap length c.in_ok-lists.ensures ∙ long_numbers 0 c.args.many) in
    subst (λ (n : ℕ). AllByRecursion (λ o. o < n) c.args.outputs.now) (sym many) c.requires.within

sorted : (r : Result (Vec (List Item)) NoMemory) (ls : List (List Item)) (wanted : List (List _)) → map (λ items. in_key_order (items_view items)) ls ≡ wanted → IfOk r (λ all. map items_view all.items ≡ map (λ items. in_key_order (items_view items)) ls) → IfOk r (λ all. map items_view all.items ≡ wanted)
sorted (Ok all) ls wanted e h = h ∙ e
sorted (Err x) ls wanted e h = tt

pub returns : goal.returns
returns c =
    sorted c.sort_each.result (item_lists c.in_ok-lists-2.lists.items) (output_lists c.args.many c.args.outputs.now (map items_view c.args.groups.items))
    (outputs_are c.args.many c.args.outputs.now c.args.groups.items (item_lists c.in_ok-lists-2.lists.items) (c.in_ok-lists-2.ensures ∙ ap (λ ls. shared_out c.args.outputs.now c.args.groups.items ls) c.in_ok-lists.ensures)) c.sort_each.ensures
