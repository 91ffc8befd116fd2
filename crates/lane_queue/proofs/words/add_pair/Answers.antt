use Rattle.std.proofs.Common.{ℕ, List, [], ◌∷◌, ◌++◌, set, arith, ap, ◌∙◌}
use Rattle.lane_spec.specs.Pairs.{Pair}
use Rattle.lane_core.specs.Log.{LogModel}
use Rattle.lane_core.specs.View.{pairs_in}
use Rattle.lane_queue.proofs.Lists.{log_is, pairs_set, rooms_set}
use Rattle.lane_queue.proofs.words.add_pair.Goals as goal

pub returns-clause-pairs : goal.returns-clause-pairs
returns-clause-pairs c = let l : List LogModel = c.args.logs.now.items in let w : ℕ = c.args.w in let more : List Pair = (c.args.slot, c.args.number) ∷ [] in
    pairs_set l w c.add.new.self ∙ ap (set (pairs_in l) w)
    (c.add.ensures.pairs ∙ ap (λ (m : LogModel). m.pairs ++ more) c.index_mut.ensures.value ∙ ap (λ (p : List Pair). p ++ more) (log_is l w c.index_mut.result.now c.requires.there))

pub returns-clause-rooms : goal.returns-clause-rooms
returns-clause-rooms c = let l : List LogModel = c.args.logs.now.items in let w : ℕ = c.args.w in λ x.
    rooms_set l w c.add.new.self c.index_mut.result.now c.requires.there (let v = ap (λ (m : LogModel). m.room) c.index_mut.ensures.value in let r = c.add.ensures.room in omega arith) x
