use Rattle.lpm_fw.proofs.Opened.{forward_kept}
use Rattle.lpm_fw.proofs.inspection.inspect.Goals as goal

pub returns-in-Forward-clause-kept : goal.returns-in-Forward-clause-kept
returns-in-Forward-clause-kept c =
    forward_kept c.args.established c.args.rules.now c.args.flows.now c.inspect_forward.new.flows c.args.class.now c.args.t.now c.inspect_forward.result
    c.in-Forward.is c.inspect_forward.ensures.verdict c.inspect_forward.ensures.ok
