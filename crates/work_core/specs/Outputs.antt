-- Lists joined to those of outputs.
use Rattle.chain_spec.specs.ChainSet.{Leaf, Group, leaves_in}
use Rattle.std.specs.Prelude.{ℕ, zero, suc, List, [], ◌∷◌, ◌++◌, map}
use Rattle.std.specs.Global.{Vec}
use Rattle.pcap_io.specs.declared.item.Item.{Item}

abbrev pub item_lists : List (Vec Item) → List (List Item)
item_lists vs = map (λ (v : Vec Item). v.items) vs

-- these behind those of the list at place o
abbrev pub grown : {X : Type 0} → ℕ → List X → List (List X) → List (List X)
grown o xs [] = []
grown zero xs (l ∷ ls) = (l ++ xs) ∷ ls
grown (suc o) xs (l ∷ ls) = l ∷ grown o xs ls

-- each of them behind those of the list at its place
abbrev pub shared_out : {X : Type 0} → List ℕ → List (List X) → List (List X) → List (List X)
shared_out [] gs ls = ls
shared_out (o ∷ os) [] ls = ls
shared_out (o ∷ os) (g ∷ gs) ls = shared_out os gs (grown o g ls)

-- the places of the outputs of groups in a group
abbrev pub places_of : List Leaf → List ℕ
places_of leaves = map (λ l. l.output) leaves

-- those of a group's leaf groups
abbrev pub group_outputs : Group → List ℕ
group_outputs g = places_of (leaves_in g g.below)
