use Rattle.std.proofs.Common.{rules, ◌≡◌, ap, length, refl, arith}
use Rattle.pcap_io.proofs.Builders.{items_stay, items_more, within_more}
use Rattle.pcap_io.proofs.builder.ItemsBuilder.push.Goals as goal

pub returns-in_err-push-clause-err : goal.returns-in_err-push-clause-err
returns-in_err-push-clause-err c =
    let stay = items_stay c.self.inside.bytes.items c.args.item.frame.now c.self.inside.heads.items c.self.invariant in
    rw (c.in_ok-extend_from_slice.ensures.items, c.in_err-push.ensures.items, c.make_first_room.ensures.bytes, c.make_first_room.ensures.heads, ← c.self.view_is, stay) (search rules)

pub invariant_of-self-2 : goal.invariant_of-self-2
invariant_of-self-2 c =
    let start : c.len.result ≡ length c.self.inside.bytes.items = let same = ap length c.make_first_room.ensures.bytes in omega arith in
    rw (c.in_ok-extend_from_slice.ensures.items, c.in_ok-push.ensures.items, c.make_first_room.ensures.bytes, c.make_first_room.ensures.heads) (within_more c.self.inside.bytes.items c.args.item.frame.now c.self.inside.heads.items _ c.self.invariant start refl)

pub returns-clause-ok : goal.returns-clause-ok
returns-clause-ok c =
    let start : c.len.result ≡ length c.self.inside.bytes.items = let same = ap length c.make_first_room.ensures.bytes in omega arith in
    rw (c.in_ok-extend_from_slice.ensures.items, c.in_ok-push.ensures.items, c.make_first_room.ensures.bytes, c.make_first_room.ensures.heads, ← c.self.view_is) (items_more c.self.inside.bytes.items c.args.item.frame.now c.self.inside.heads.items _ c.self.invariant start refl)
