use Rattle.std.proofs.Common.{◌≡◌, ℕ, ◌+◌, ◌≤◌, List, [], ◌∷◌, ◌++◌, length, true, sym, ap, ◌∙◌, subst, arith, append_assoc, length-append}
use Rattle.crossbeam_queue.specs.Passes.{view}
use Rattle.lane_spec.specs.Counts.{times}
use Rattle.lane_queue.specs.declared.pool_rule.PoolView.{PoolView}
use Rattle.lane_queue.specs.PoolRule.{pool_view, slots_in}
use Rattle.lane_queue.proofs.PoolKeeps.{wholes}
use Rattle.lane_queue.proofs.Sums.{home_once, not_all}
use Rattle.lane_queue.proofs.shut.emptied.Goals as goal

pub unreachable-requires : goal.unreachable-requires
unreachable-requires g c = let v = c.loop-done.invariant in let none = c.in-None.ensures.given.1 in let n = v.count in let lt = c.loop-done-test.true in
    not_all c.args.buffers c.loop-done.home.items (view c.args.pass.now).put (view c.args.pass.now).taken (omega arith)
    (λ i. subst (λ (u : PoolView). times i u.put ≤ times i u.taken) v.knows (none i)) c.requires.left

pub loop-done-preserved : goal.loop-done-preserved
loop-done-preserved g c = let v = c.loop-done.invariant in let t = c.in-Some.ensures.given in let same = c.in-Some.ensures.same in let slot : ℕ = c.in-Some.b.slot in let w = view c.args.pass.now in
    let home : List ℕ = c.loop-done.home.items in let items : c.add_slot.new.list.items ≡ home ++ slot ∷ [] = c.add_slot.ensures.items ∙ ap (λ (k : ℕ). home ++ k ∷ []) c.slot.ensures in record {
      pass = (same.0 ∙ v.pass.0, same.2 ∙ v.pass.1);
      knows = t.view ∙ ap (λ (u : PoolView). pool_view u.parts u.takes u.put (u.taken ++ slot ∷ []) u.size) v.knows
          ∙ (λ j. pool_view 1024 true w.put ((append_assoc w.taken home (slot ∷ []) ∙ ap (λ (l : List ℕ). w.taken ++ l) (sym items)) j) w.size);
      count = ap (λ (l : List ℕ). length l) items ∙ length-append home (slot ∷ []) ∙ (let n = v.count in omega arith);
      room = let a = v.room in let b = c.add_slot.ensures.room in omega arith;
    }

pub learn_as-requires-clause-rule : goal.learn_as-requires-clause-rule
learn_as-requires-clause-rule g c = wholes _ _ (ap (λ (u : PoolView). u.parts) c.loop-done.invariant.knows)

pub returns : goal.returns
returns g c = let v = c.loop-done.invariant in let rest = c.learn_as.ensures.rule in let t = c.loop-done-test.false in let le = c.loop-done.auto in let n = v.count in
    home_once c.args.buffers c.loop-done.home.items (slots_in rest.0) (view c.args.pass.now).put (view c.args.pass.now).taken (omega arith)
    (λ i. subst (λ (u : PoolView). times i u.taken + times i (slots_in rest.0) ≡ times i u.put) v.knows (rest.1 i)) c.requires.left
