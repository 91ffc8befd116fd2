use Rattle.std.proofs.Common.{◌∙◌, ap, sym}
use Rattle.lpm_fw.specs.Parts.{list_at, rows_in}
use Rattle.lpm_fw.proofs.Places.{rows_at, list_of}
use Rattle.lpm_fw.proofs.parts.Parts.get.Goals as goal

pub returns-in-Some : goal.returns-in-Some
returns-in-Some c =
    c.deref.ensures.value
    ∙ list_of c.self.inside.lists.items c.in-Some.n c.index.result.now (c.self.invariant.within c.args.part c.in-Some.n c.in-Some.is) c.index.ensures
    ∙ ap (list_at c.self.inside.lists.items) (sym c.in-Some.is)
    ∙ sym (rows_at c.self.inside.places c.self.inside.lists.items c.args.part)
    ∙ ap (λ inside. rows_in inside c.args.part) c.self.view_is
