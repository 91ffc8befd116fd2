use Rattle.std.proofs.Common.{◌≡◌, length, refl, sym, ap, ◌∙◌, subst}
use Rattle.work_crew.specs.Rows.{Each, HasPlaces, IsTurned}
use Rattle.work_crew.proofs.Members.{take_front}
use Rattle.work_crew.proofs.Setting.{rows_full, rows_many, is_out}
use Rattle.work_crew.proofs.crew.set_out.Goals as goal

pub turn_round-requires-clause-rows : goal.turn_round-requires-clause-rows
turn_round-requires-clause-rows g c =
    subst (Each (HasPlaces (length c.args.sides.now) 0)) (sym c.deref_mut.ensures.value)
    (rows_full c.args.lanes.items c.args.works.items c.requires.count c.split.new.crew c.split.ensures.crew (length c.args.sides.now) c.requires.seats c.requires.works)

pub returns-clause-out : goal.returns-clause-out
returns-clause-out g c =
    let e = c.turn_round.ensures in
    let v = c.deref_mut.ensures.value in
    let many : length c.deref_mut.result.now ≡ length c.args.lanes.items = ap length v ∙ rows_many c.args.lanes.items c.args.works.items c.requires.count c.split.new.crew c.split.ensures.crew in
    is_out c.args.lanes.items c.args.works.items c.requires.count c.split.new.crew c.split.ensures.crew _ c.turn_round.new.rows c.turn_round.new.columns refl refl
    (take_front c.split.new.crew.rows.len c.turn_round.new.rows _ (e.rows_count ∙ (ap length v ∙ sym c.split.new.crew.rows.ok.0))) (e.rows_count ∙ ap length v)
    (subst (λ n. Each (HasPlaces 0 n) c.turn_round.new.rows) (sym e.columns_count) e.rows)
    (subst (λ n. Each (HasPlaces n n) c.turn_round.new.columns) many e.columns)
    (subst (λ l. IsTurned l c.turn_round.new.columns) v e.turned)
