use Rattle.std.proofs.Common.{arith}
use Rattle.packet_owner.proofs.Layers.{back, nested_before}
use Rattle.packet_owner.proofs.packet.Packet.deparse.Goals as goal

pub invariant_of-result : goal.invariant_of-result
invariant_of-result g c =
    let b = c.self.inside.block.value in
    let sound = c.self.invariant in
    let there = sound.2 in
    let one_less = c.requires in
    (sound.0, sound.1, omega arith, nested_before g.O.Proto.DEPTH g.P.Proto.DEPTH b.places b.len c.requires sound.2 sound.3)

pub returns : goal.returns
returns g c = back g.O.Proto.DEPTH g.P.Proto.DEPTH c.self.inside.block.value c.args.self c.self.view_is c.requires c.self.invariant.2
