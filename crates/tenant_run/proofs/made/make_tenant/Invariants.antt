use Rattle.chain_types.specs.View.{chain_view}
use Rattle.tenant_run.specs.Taken.{HasTaken}
use Rattle.tenant_run.proofs.made.make_tenant.Given as goal

abbrev pub invariant-loop-k : goal.invariant-loop-k
invariant-loop-k g l = let w = g.W.ChainWork in HasTaken w.follows w.ready w.stands w.ended w.broken (chain_view l.chain) l.capture l.k l.classifier l.turns l.counts
