-- One walk more.
use Rattle.std.proofs.Common.{arith, length}
use Rattle.std.proofs.lemmas.Grind.{common_steps}
use Rattle.lb_maglev.proofs.WalkLemmas.{new_walk, walks_push}
use Rattle.lb_maglev.proofs.turns.new_walks.Goals as goal

pub loop-name-preserved : goal.loop-name-preserved
loop-name-preserved c = record {
  long = grind (arith, common_steps);
  walks = λ places.
      walks_push places c.args.names.now c.loop-name.walks.items c.push.new.self.items c.in_ok-new.field-0 (c.loop-name.invariant.walks places) c.in_ok-push.ensures.items
      (new_walk places c.args.names.now c.name-item.result c.loop-name.name-index (length c.loop-name.walks.items) c.in_ok-new.field-0 c.name-item.is c.loop-name-test.true c.loop-name.invariant.long c.in_ok-new.ensures);
}
