use Rattle.std.proofs.Common.{false, refl, Ok, Err}
use Rattle.stage_path.proofs.Directs.{path_treats}
use Rattle.stage_path.proofs.path.PathOptionThenReadRowDirect.treat.Goals as goal

-- whether the operator failed does not matter, where there is none
pub returns-in-Ok : goal.returns-in-Ok
returns-in-Ok g c =
    path_treats g.S.TreatRead.kind (record { stands = _; ready = _; failed = λ _. false; spares = _; least_room = _; row = _ }) (λ p. p.before.stages.items) (λ p. p.behind) (λ p. p.failed) c.args.self.now _ c.args.class.now c.args.packet
    (Ok c.in-Ok.packet) c.in-Ok.ensures.treats c.requires.direct refl c.requires.ready c.if-self.false c.if-self.false

pub returns-in-Err : goal.returns-in-Err
returns-in-Err g c =
    path_treats g.S.TreatRead.kind (record { stands = _; ready = _; failed = λ _. false; spares = _; least_room = _; row = _ }) (λ p. p.before.stages.items) (λ p. p.behind) (λ p. p.failed) c.args.self.now _ c.args.class.now c.args.packet
    (Err c.in-Err.dropped) c.in-Err.ensures.treats c.requires.direct refl c.requires.ready c.if-self.false c.in-Err.ensures.lost
