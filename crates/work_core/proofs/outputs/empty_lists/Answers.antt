use Rattle.std.proofs.Common.{◌∙◌, ◌++◌, ◌∷◌, [], List, ap, sym, ℕ}
use Rattle.std.proofs.lemmas.List.{map-append}
use Rattle.std.specs.Global.{Vec}
use Rattle.pcap_io.specs.declared.item.Item.{Item}
use Rattle.work_core.specs.Outputs.{item_lists}
use Rattle.work_core.proofs.Shares.{numbers_more}
use Rattle.work_core.proofs.outputs.empty_lists.Goals as goal

pub each-preserved : goal.each-preserved
each-preserved c =
    ap item_lists c.in_ok-push.ensures.items ∙ (map-append (λ (v : Vec Item). v.items) c.each.lists.items (c.new.result ∷ []) ∙ (ap (λ xs. item_lists c.each.lists.items ++ xs ∷ []) c.new.ensures.items
    ∙ (ap (λ (ls : List (List Item)). ls ++ [] ∷ []) c.each.invariant ∙ sym (numbers_more (λ (o : ℕ). let none : List Item = [] in none) 0 c.each.done))))
