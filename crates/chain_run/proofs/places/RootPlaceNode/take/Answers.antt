use Rattle.chain_run.specs.declared.places.RootPlace.{RootPlace}
use Rattle.chain_run.proofs.Inside.{took_inside}
use Rattle.chain_run.proofs.places.RootPlaceNode.take.Goals as goal

pub returns : goal.returns
returns g c = took_inside (λ (t : RootPlace _). t.place) _ _ _ _ c.args.self.now (record { place = c.take.new.self }) _ _ _ c.args.desk.now c.take.new.desk _ c.take.result c.take.ensures
