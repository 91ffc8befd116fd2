use Rattle.std.proofs.Common.{◌≡◌, ◌∙◌, List, Ok, map, ap, sym}
use Rattle.brick_spec.specs.Route.{first_fault}
use Rattle.lpm_fw.specs.RouteView.{route_view}
use Rattle.lpm_fw.specs.declared.routes.Route.{Route}
use Rattle.stage_text.proofs.Rows.{no_first_fault, rows_sound, route_fails}
use Rattle.stage_text.proofs.routes.table_of.Goals as goal

pub returns-in-Ok-clause-value : goal.returns-in-Ok-clause-value
returns-in-Ok-clause-value c =
    rows_sound c.args.place (map route_view c.args.rows.items) c.in-Ok.ensures.right ∙ ap (λ (rows : List Route). Ok (map route_view rows)) (sym c.in-Ok.ensures.ok)

pub returns-in-Ok-clause-right : goal.returns-in-Ok-clause-right
returns-in-Ok-clause-right c =
    ap (λ (rows : List Route). first_fault (map route_view rows)) c.in-Ok.ensures.ok ∙ no_first_fault (map route_view c.args.rows.items) c.in-Ok.ensures.right

pub returns-in-Err : goal.returns-in-Err
returns-in-Err c = record { value = route_fails c.args.place (map route_view c.args.rows.items) c.in-Err.fault c.in-Err.ensures.fault; right = tt; same = tt }
