-- A row without stages.
use Rattle.std.proofs.Common.{◌≡◌, List, [], ◌∷◌, ◌++◌, None, Some, ℕ, Option, refl, ap, sym, subst, ◌∙◌, append-nil}
use Rattle.std.proofs.lemmas.List.Sorted.{IsPermutation-refl, IsPermutation-append_left}
use Rattle.std.specs.List.Sorted.{IsPermutation}
use Rattle.brick_spec.specs.Flow.{Flow}
use Rattle.brick_spec.specs.FlowStage.{FlowItem, Drop, FlowInput, FlowOutput, both}
use Rattle.batch_ops.specs.Operator.{Extends}
use Rattle.batch_ops.specs.Stage.{RowStands}

pub passes_all : {P : Type 0} (p : P) (flow : Flow) (xs : List FlowItem) (ended : Option ℕ) → Extends (λ (p : P) flow came left. RowStands [] came left) p p flow xs ended (record { passed = xs; dropped = [] })
passes_all p flow xs ended came left still (e, o) = (ap (λ t. t ++ xs) e, subst (λ (ds : List Drop). IsPermutation ds []) (sym (append-nil left.dropped)) o)
