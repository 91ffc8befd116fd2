-- A flow that has the key is the one that a search finds.
use Rattle.tcp_udp.specs.View.{tuple_view}
use Rattle.brick_base.specs.Flow.{dir_view}
use Rattle.flow_key.proofs.Views.{recent_found}
use Rattle.flow_key.proofs.search.find_recent.Goals as goal

pub returns-clause-found : goal.returns-clause-found
returns-clause-found c some =
    recent_found c.args.flows.now c.in_ok-number.field-0.now c.in_ok-flow.flow.now c.in_ok-first.first.now (tuple_view c.args.tuple.now) (dir_view c.in_ok-dir.dir)
    c.requires c.in_ok-flow.ensures.lookup.1 c.in_ok-flow.ensures.lookup.3.0 c.in_ok-first.ensures.value (c.in_ok-dir.ensures.key some) c.in_ok-dir.ensures.dir
