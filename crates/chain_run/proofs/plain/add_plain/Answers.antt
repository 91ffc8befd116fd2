use Rattle.std.specs.Prelude.{option_map, IsTrue}
use Rattle.chain_spec.specs.ChainSet.{is_stage_right}
use Rattle.chain_run.specs.Plain.{IsPlain}
use Rattle.chain_run.proofs.Grown.{all_at}
use Rattle.flow_key.specs.View.{plan_view}
use Rattle.chain_types.specs.StageView.{stage_view}
use Rattle.chain_run.proofs.Plains.{adds_none, adds_next}
use Rattle.chain_run.proofs.plain.add_plain.Goals as goal

pub loop-stage-init : goal.loop-stage-init
loop-stage-init c = adds_none (option_map plan_view c.args.nat.now) c.args.plain.now.items

pub loop-stage-preserved : goal.loop-stage-preserved
loop-stage-preserved c =
    adds_next stage_view (option_map plan_view c.args.nat.now) c.args.stages.now c.loop-stage.stage-index c.stage-item.result c.args.plain.now.items c.loop-stage.plain.items _ c.in_ok-one.one c.loop-stage-test.true c.stage-item.is c.in_ok-push.ensures.items
    c.loop-stage.invariant c.in_ok-one.ensures

pub plain_of-requires-clause-right : goal.plain_of-requires-clause-right
plain_of-requires-clause-right c =
    (all_at stage_view (λ s. IsTrue (is_stage_right s) × IsPlain (option_map plan_view c.args.nat.now) s) c.args.stages.now c.loop-stage.stage-index c.stage-item.result c.loop-stage-test.true c.stage-item.is c.requires).0

pub plain_of-requires-clause-plain : goal.plain_of-requires-clause-plain
plain_of-requires-clause-plain c =
    (all_at stage_view (λ s. IsTrue (is_stage_right s) × IsPlain (option_map plan_view c.args.nat.now) s) c.args.stages.now c.loop-stage.stage-index c.stage-item.result c.loop-stage-test.true c.stage-item.is c.requires).1
