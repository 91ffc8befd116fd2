use Rattle.std.proofs.Common.{◌∷◌, [], None, refl}
use Rattle.brick_base.specs.Flow.{flow_of}
use Rattle.batch_ops.specs.Operator.{work_item}
use Rattle.chain_nodes.proofs.NoRows.{passes_all}
use Rattle.chain_nodes.proofs.none.NoStagesDirect.treat.Goals as goal

pub returns : goal.returns
returns c = record {
  kept = refl;
  goes = λ kept. passes_all c.args.self.now (flow_of c.args.«_class».now) (work_item c.args.«_class».now c.args.packet ∷ []) None;
  others = λ other came left differs was. was;
  lost = refl;
  stays_failed = λ never. cc;
  same_spares = refl;
  same_room = refl;
  same_row = refl;
  stays_ready = tt;
}
