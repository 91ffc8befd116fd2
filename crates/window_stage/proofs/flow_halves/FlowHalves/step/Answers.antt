use Rattle.std.proofs.Common.{refl}
use Rattle.window_stage.proofs.Halves.{forward_steps, reversed_steps}
use Rattle.window_stage.proofs.flow_halves.FlowHalves.step.Goals as goal

pub returns-in-Forward : goal.returns-in-Forward
returns-in-Forward c = forward_steps c.args.self.now _ c.args.dir c.args.p c.args.out.now c.step.new.out c.step.result c.in-Forward.is refl c.step.ensures

pub returns-in-Reversed : goal.returns-in-Reversed
returns-in-Reversed c =
    reversed_steps c.args.self.now _ c.args.dir c.args.p c.args.out.now c.step-in-Reversed.new.out c.step-in-Reversed.result c.in-Reversed.is refl c.step-in-Reversed.ensures
