-- The key's flow is the new one.
use Rattle.std.proofs.Common.{ap}
use Rattle.std.specs.Option.{option_map}
use Rattle.tcp_udp.specs.View.{tuple_view}
use Rattle.flow_key.proofs.More.{key_put}
use Rattle.flow_key.proofs.classifier.put_key.Goals as goal

pub returns-in_ok-insert-clause-keys : goal.returns-in_ok-insert-clause-keys
returns-in_ok-insert-clause-keys c =
    key_put c.args.keys.now c.insert.new.self (option_map tuple_view c.args.tuple.now) (tuple_view c.in-Some.tuple) c.key_of.result c.args.number
    (ap (option_map tuple_view) c.in-Some.is) c.key_of.ensures c.in_ok-insert.ensures.updates.0
