use Rattle.brick_spec.specs.Stage.{ttl_stage}
use Rattle.brick_base.specs.declared.drops.Reason.TheVariants.{Ttl}
use Rattle.map_filter.proofs.Steps.{keeps, rejects}
use Rattle.map_filter.proofs.edits.TtlStageTreatRead.treat_read.Goals as goal

pub returns-then-lower_ttl-clause-treats : goal.returns-then-lower_ttl-clause-treats
returns-then-lower_ttl-clause-treats c = keeps (λ _. ttl_stage) c.args.self.now c.args.«_class».now c.args.packet.now.packet c.lower_ttl.new.packet (c.lower_ttl.ensures.lowered c.if-lower_ttl.true)

pub returns-clause-treats : goal.returns-clause-treats
returns-clause-treats c = rejects (λ _. ttl_stage) c.args.self.now c.args.«_class».now c.args.packet.now.packet c.lower_ttl.new.packet Ttl (c.lower_ttl.ensures.low c.if-lower_ttl.false)
