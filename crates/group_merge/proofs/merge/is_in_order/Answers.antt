use Rattle.std.proofs.Common.{rules, ◌≡◌, List, Bool, true, false, not, refl}
use Rattle.std.specs.List.{IsAllAdjacentAnswer}
use Rattle.std.specs.List.Sorted.{IsSortedBy}
use Rattle.std.proofs.lemmas.List.Sorted.{answers_always}
use Rattle.pcap_io.specs.declared.item.Item.{Item}
use Rattle.group_merge.specs.Keyed.{comes_before}
use Rattle.group_merge.proofs.merge.is_in_order.Goals as goal

before_none : (b : Bool) → true ≡ not b → b ≡ false
before_none true h = h
before_none false h = refl

other : false ≡ true → ⊥
other e = cc

rises : (xs : List Item) (r : Bool) → IsAllAdjacentAnswer (λ x y b. b ≡ not (comes_before y x)) xs r → r ≡ true → IsSortedBy comes_before xs
rises xs true h e = λ k d low high. before_none _ (h k d high)
rises xs false h e = absurd (other e)

pub returns : goal.returns
returns c =
    rises c.args.list.now c.is_sorted_by.result
    (c.is_sorted_by.ensures.cases (λ (x : Item) (y : Item). not (comes_before y x)) (answers_always _ _ _ (λ f a r g h. search rules)))
