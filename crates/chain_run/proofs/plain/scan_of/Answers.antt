use Rattle.chain_run.proofs.Scanned.{scan_ranges}
use Rattle.chain_run.proofs.plain.scan_of.Goals as goal

pub new-requires-clause-text : goal.new-requires-clause-text
new-requires-clause-text c = let r = scan_ranges c.args.text.now c.args.reach c.requires in (r.0, r.1)

pub new-requires-clause-reach : goal.new-requires-clause-reach
new-requires-clause-reach c = let r = scan_ranges c.args.text.now c.args.reach c.requires in (r.2, r.3)
