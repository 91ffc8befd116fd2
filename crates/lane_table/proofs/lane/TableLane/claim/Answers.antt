use Rattle.std.proofs.Common.{◌≡◌, ℕ, ◌+◌, ◌-◌, ◌^◌, true, cond, List, [], ◌∷◌, ◌++◌, map, length, arith, sym, ap, ◌∙◌, refl, length-append}
use Rattle.std.specs.Prelude.{min}
use Rattle.std.specs.Result.{is_ok}
use Rattle.lane_spec.specs.Counts.{times, total}
use Rattle.lane_spec.specs.Pairs.{Pair}
use Rattle.lane_core.specs.View.{pairs_in}
use Rattle.lane_core.proofs.Counting.{all_below}
use Rattle.lane_core.proofs.Views.{times_last_else}
use Rattle.lane_table.specs.Rule.{mark_at}
use Rattle.lane_table.specs.Seats.{capped}
use Rattle.lane_table.proofs.Finds.{none_fell, rose_first}
use Rattle.lane_table.proofs.lane.TableLane.claim.Goals as goal

pub invariant_of-seat-clause-below : goal.invariant_of-seat-clause-below
invariant_of-seat-clause-below c = let v = c.in-Some.ensures.view in let o = c.args.seat.now in let i : ℕ = c.in-Some.b.slot in let s = ap (λ t. t.slots) c.in-Some.ensures.same.0 in
    let l = c.args.self.now.sized.1 in let w = ap (λ t. t.slots) c.requires.own.table in let lt = c.in-Some.ensures.tried.0 in
    λ j le. ap (λ m. times j m.0.held) v ∙ times_last_else i j o.seat.me.0.held (λ e. absurd (omega arith)) ∙ o.below j (omega arith)

pub invariant_of-seat-clause-marks : goal.invariant_of-seat-clause-marks
invariant_of-seat-clause-marks c = let v = c.in-Some.ensures.view in let o = c.args.seat.now in λ w lt. ap (λ m. mark_at m.0.ends w) v ∙ o.marks w lt

pub invariant_of-seat-clause-claims : goal.invariant_of-seat-clause-claims
invariant_of-seat-clause-claims c = let v = c.in-Some.ensures.view in let o = c.args.seat.now in let i : ℕ = c.in-Some.b.slot in let f : List Pair → ℕ = λ pairs. length pairs in
    let a = ap (λ m. length m.0.claimed) v in let b = ap (λ m. total f m.0.sent) v in let d = ap (λ m. length m.0.held) v in
    let la = length-append o.seat.me.0.claimed (i ∷ []) in let lh = length-append o.seat.me.0.held (i ∷ []) in let q = o.claims in omega arith

pub returns-in-Some-clause-given : goal.returns-in-Some-clause-given
returns-in-Some-clause-given c = let o = c.args.seat.now in let t = c.in-Some.ensures.tried.1 in let xs : List ℕ = o.held.items in
    let ok : true ≡ is_ok c.push-pushed.result = c.if-prove.ensures.value in let slot : ℕ = c.in-Some.b.slot in
    let items : c.push-pushed.new.self.items ≡ xs ++ c.slot.result ∷ [] = c.push-pushed.ensures.items ∙ ap (λ b. cond b (xs ++ c.slot.result ∷ []) xs) (sym ok) in
    let held : c.push-pushed.new.self.items ≡ xs ++ slot ∷ [] = items ∙ (λ j. xs ++ c.slot.ensures j ∷ []) in record {
      same = λ j. record { sent = pairs_in o.sent.items; held = held j; missed = o.missed; finished = o.finished; finds = map capped c.try_all.new.seat.me.0.found };
      finds = none_fell o.seat.me.0.found c.try_all.new.seat.me.0.found t.count t.later;
    }

pub returns-in-None-clause-missed : goal.returns-in-None-clause-missed
returns-in-None-clause-missed c = let o = c.args.seat.now in let t = c.in-None.ensures.tried in let f = c.try_all.new.seat.me.0.found in
    let missed : c.saturating_add-seat.result ≡ min (o.missed + 1) (2 ^ 64 - 1) = c.saturating_add-seat.ensures in record {
      same = λ j. record { sent = pairs_in o.sent.items; held = o.held.items; missed = missed j; finished = o.finished; finds = map capped f };
      finds = rose_first o.seat.me.0.found f f c.args.self.now.buffers refl t.count (λ j lt. t.rose j (omega arith) lt) t.above;
    }

pub returns-in-None-clause-all_given : goal.returns-in-None-clause-all_given
returns-in-None-clause-all_given c = let s = c.args.seat.now in let t = c.in-None.ensures.tried in let f : List Pair → ℕ = λ pairs. length pairs in
    let a = all_below c.args.self.now.buffers s.seat.me.0.claimed (λ i lt. t.given i (omega arith) lt) in let b = s.claims in let d = ap (total f) s.logs in let e = ap (λ (l : List ℕ). length l) s.list in omega arith
