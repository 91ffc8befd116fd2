use Rattle.std.proofs.Common.{length, ap, arith}
use Rattle.work_parts.proofs.tests.FixedWorkChainWork.turn.Goals as goal

pub push-requires : goal.push-requires
push-requires c =
    let v = c.each.invariant in
    let taken = ap length c.in-Some.ensures in
    let all = v.1 in
    let most = v.2 in
    omega (arith, taken, all, most)
