use Rattle.std.proofs.Common.{ℕ, ◌<◌, List, map, length, refl, ap, arith, Option, Some, None}
use Rattle.std.specs.Option.{IsNone, IfNone}
use Rattle.std.proofs.lemmas.List.{length-map}
use Rattle.lane_core.specs.Seats.{AllRose}
use Rattle.lane_table.specs.Seats.{capped}
use Rattle.lane_table.proofs.Finds.{all_rose}
use Rattle.lane_table.proofs.kit.TableKitLaneKit.claim.Goals as goal

if_none : {X : Type 0} (o : Option X) (P : Type 0) → (IsNone o → P) → IfNone o P
if_none None P f = f refl
if_none (Some x) P f = tt

pub returns-clause-all_taken : goal.returns-clause-all_taken
returns-clause-all_taken g c = let s = c.args.seat.now in let l = c.args.lane.now in let before : List ℕ = s.seat.me.0.found in let now : List ℕ = c.claim.new.seat.seat.me.0.found in
    let n = s.counts.0 in let p = s.counts.1 in let t = ap (λ t. t.slots) c.requires.own.table in let z = l.sized.1 in let m = length-map before capped in
    if_none c.claim.result ((0 < length (map capped before)) × AllRose (map capped before) (map capped now)) (λ none_. (omega arith, all_rose before now (λ i lt. c.claim.ensures.exactly.0 none_ i (omega arith))))
