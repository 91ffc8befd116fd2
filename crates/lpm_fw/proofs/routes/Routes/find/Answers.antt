-- what is looked up is the chosen row
use Rattle.std.proofs.Common.{◌≡◌, ◌∙◌, ℕ, ◌<◌, List, Option, length, map, sym, subst, IfSome}
use Rattle.brick_spec.specs.Route as spec
use Rattle.lpm_fw.specs.declared.routes.Route.{Route}
use Rattle.lpm_fw.specs.RouteView.{route_view}
use Rattle.lpm_fw.specs.Scan.{AreRows}
use Rattle.lpm_fw.specs.Cells.{Finds}
use Rattle.lpm_fw.proofs.Choice.{chosen_longest, longest_within}
use Rattle.lpm_fw.proofs.routes.Routes.find.Goals as goal

found : (rows of_table of_cells : List Route) (addr : ℕ) (best : Option ℕ) → of_table ≡ rows → of_cells ≡ of_table → AreRows of_table → Finds of_cells addr best
    → (best ≡ spec.route_of (map route_view rows) addr) × IfSome best (λ row. row < length rows)
found rows of_table of_cells addr best e d are finds =
    let here : Finds rows addr best = subst (λ (xs : List Route). Finds xs addr best) (d ∙ e) finds in (
      chosen_longest rows addr best (subst (λ (xs : List Route). spec.AreRight (map route_view xs)) e are.right) here,
      longest_within rows addr best here,
    )

pub returns-else-is_empty-clause-route : goal.returns-else-is_empty-clause-route
returns-else-is_empty-clause-route c =
    (found c.args.self.now c.self.inside.rows.items c.deref-else-is_empty.result.now c.args.addr c.look_up.result c.self.view_is c.deref-else-is_empty.ensures.value c.self.invariant.are c.look_up.ensures).0

pub returns-else-is_empty-clause-there : goal.returns-else-is_empty-clause-there
returns-else-is_empty-clause-there c =
    (found c.args.self.now c.self.inside.rows.items c.deref-else-is_empty.result.now c.args.addr c.look_up.result c.self.view_is c.deref-else-is_empty.ensures.value c.self.invariant.are c.look_up.ensures).1
