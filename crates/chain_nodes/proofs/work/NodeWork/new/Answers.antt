use Rattle.std.proofs.Common.{◌≡◌, ◌∷◌, [], ap, map, refl, List, ℕ}
use Rattle.std.specs.List.{AllByRecursion}
use Rattle.brick_base.specs.Flow.{flow_of}
use Rattle.chain_nodes.proofs.News.{new_begins, zero_at}
use Rattle.chain_nodes.proofs.work.NodeWork.new.Goals as goal

abbrev zeros : List ℕ
zeros = 0 ∷ 0 ∷ 0 ∷ 0 ∷ 0 ∷ 0 ∷ 0 ∷ 0 ∷ 0 ∷ []

all_zero : AllByRecursion (λ (x : ℕ). x ≡ 0) zeros
all_zero = (refl, (refl, (refl, (refl, (refl, (refl, (refl, (refl, (refl, tt)))))))))

pub returns-clause-begins : goal.returns-clause-begins
returns-clause-begins g c =
    let n = g.N.Node in
    new_begins n.stands n.makes n.results n.serves _ c.requires.new (ap (map flow_of) c.new-4.ensures.items) (λ k l. zero_at zeros k all_zero)
