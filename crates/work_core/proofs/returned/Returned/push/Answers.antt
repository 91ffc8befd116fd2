use Rattle.std.proofs.Common.{ap, ◌∙◌, ◌+◌, ◌∷◌, ◌++◌, [], arith, length-take, take}
use Rattle.work_core.proofs.Places.{put, put_full}
use Rattle.work_core.proofs.returned.Returned.push.Goals as goal

pub invariant_of-self : goal.invariant_of-self
invariant_of-self c =
    let room = c.make_room-front.ensures in
    let end = c.make_room-front.result.1 in
    let many = length-take end c.make_room-front.new.buffers in (
      omega (arith, room.within),
      omega (arith, room.within),
      c.put_at.ensures.long ∙ room.long,
      put_full (take c.self.inside.end c.self.inside.buffers) (take end c.make_room-front.new.buffers) (take (end + 1) c.put_at.new.buffers) c.self.inside.front c.make_room-front.result.0 c.args.buffer
          c.self.invariant.3 (omega (arith, many, room.within, room.long)) room.items c.put_at.ensures.items,
    )

pub returns : goal.returns
returns c =
    let room = c.make_room-front.ensures in
    let end = c.make_room-front.result.1 in
    let many = length-take end c.make_room-front.new.buffers in
    put (take c.self.inside.end c.self.inside.buffers) (take end c.make_room-front.new.buffers) (take (end + 1) c.put_at.new.buffers) c.self.inside.front c.make_room-front.result.0 c.args.buffer
    c.self.invariant.3 (omega (arith, many, room.within, room.long)) room.items c.put_at.ensures.items
    ∙ ap (λ ws. ws ++ c.args.buffer ∷ []) c.self.view_is
