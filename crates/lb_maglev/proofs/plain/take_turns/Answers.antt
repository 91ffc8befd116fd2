-- A turn more.
use Rattle.std.proofs.Common.{ap, ◌∙◌, length}
use Rattle.lb_maglev.proofs.TurnLemmas.{length-turns, turns_step}
use Rattle.lb_maglev.proofs.plain.take_turns.Goals as goal

pub take_turn-requires : goal.take_turn-requires
take_turn-requires c = ap length c.loop-k.invariant ∙ length-turns c.args.names.now c.loop-k.k

pub loop-k-preserved : goal.loop-k-preserved
loop-k-preserved c =
    turns_step c.args.names.now c.index-names-backend.result c.loop-k.k c.loop-k.places c.take_turn.new.places
    c.loop-k.invariant c.requires.some c.index-names-backend.is c.in_ok-take_turn.ensures
