use Rattle.std.proofs.Common.{◌<◌, arith}
use Rattle.nat_port.proofs.Records.{one_came, records_came}
use Rattle.nat_port.proofs.tests.classified.Goals as goal

pub loop-k-preserved : goal.loop-k-preserved
loop-k-preserved c =
    let a = c.loop-k.invariant in
    one_came c.loop-k.classifier c.classify.new.self c.loop-k.k _ a (c.in_ok-classify.ensures.known a.plan a.frames a.known)

pub classify-requires : goal.classify-requires
classify-requires c =
    let came = records_came c.loop-k.classifier c.loop-k.k c.loop-k.invariant in
    let below = c.loop-k-test.true in
    omega arith
