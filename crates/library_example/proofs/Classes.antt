-- There is a class for each record.
use Rattle.std.proofs.Common.{◌≡◌, suc, List, [], ◌∷◌, map, length, Option, refl, ap, sym, ◌∙◌}
use Rattle.std.proofs.lemmas.List.{length-map}
use Rattle.std.proofs.lemmas.List.FromFn.{length-range_with_len}
use Rattle.std.specs.List.{range_with_len}
use Rattle.brick_base.specs.Flow.{class_view}
use Rattle.brick_base.specs.declared.flow.Class.{Class}
use Rattle.brick_spec.specs.Capture.{Contents, Entry}
use Rattle.brick_spec.specs.FlowClass.{class_at, classes_of, NatPlan}

pub many_classes : (nat : Option NatPlan) (c : Contents) (classes : List Class) → map class_view classes ≡ classes_of nat (map (λ (e : Entry). e.frame) c.entries) → length classes ≡ length c.entries
many_classes nat c classes e =
    let frames = map (λ (e : Entry). e.frame) c.entries in
    let one = sym (length-map classes class_view) ∙ (ap length e ∙ length-map (range_with_len 0 (length frames)) (class_at nat frames)) in
    one ∙ (length-range_with_len 0 (length frames) ∙ length-map c.entries (λ (e : Entry). e.frame))
