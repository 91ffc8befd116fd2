use Rattle.std.proofs.Common.{◌≡◌, ℕ, List, [], length, replicate, sym, ap, ◌∙◌, arith}
use Rattle.std.proofs.lemmas.List.{length-replicate}
use Rattle.lane_spec.specs.Counts.{times, total}
use Rattle.lane_spec.specs.Pairs.{Pair}
use Rattle.lane_table.specs.declared.view.LaneKey.{LaneKey}
use Rattle.lane_table.specs.Rule.{mark_at}
use Rattle.lane_table.proofs.Seats.{no_mark}
use Rattle.lane_table.proofs.Starts.{none_sent}
use Rattle.lane_table.proofs.lane.TableLane.seat_ingest.Goals as goal

pub invariant_of-result : goal.invariant_of-result
invariant_of-result c = let l = c.args.self.now in let z : LaneKey = l.table.shared.key in let q = c.requires.seat.1 in let e = c.in_ok-held.ensures in let f : List Pair → ℕ = λ pairs. length pairs in
    let many : length c.args.shares.now ≡ z.workers = ap (λ (xs : List ℕ). length xs) c.requires.shares ∙ l.shares ∙ sym l.key.2 in let count = c.in_ok-sent.ensures.count in
    let found = ap (λ m. length m.0.found) q ∙ length-replicate z.buffers 0 in let t = ap (λ t. t.slots) c.requires.seat.0 in let a = l.key.0 in let b = l.sized.1 in let d = l.small.0 in
    let lp = ap (λ m. length m.0.ends) q ∙ length-replicate z.workers _ in let lr = ap (λ m. length m.0.received) q ∙ length-replicate z.workers [] in let le = ap (λ m. length m.0.ended) q ∙ length-replicate z.workers _ in record {
      role = ap (λ m. m.0.roles) q;
      rest = (ap (λ m. m.1) q, ap (λ m. m.0.out) q);
      counts = (omega arith, omega arith);
      logs = c.in_ok-sent.ensures.empty ∙ ap (λ (n : ℕ). let r : List (List Pair) = replicate n [] in r) many ∙ sym (ap (λ m. m.0.sent) q);
      long = (omega arith, omega arith, omega arith);
      marks = λ w lt. ap (λ m. mark_at m.0.ends w) q ∙ no_mark z.workers w;
      list = e.items ∙ sym (ap (λ m. m.0.held) q);
      below = λ i _. ap (λ m. times i m.0.held) q;
      room = let x = e.exact in let y = e.capacity in omega arith;
      claims = let x = ap (λ m. length m.0.claimed) q in let y = ap (λ m. total f m.0.sent) q ∙ none_sent z.workers in let h = ap (λ m. length m.0.held) q in omega arith;
    }
