use Rattle.std.proofs.Common.{◌∙◌, ap, sym, slice_range, Some}
use Rattle.packetize.specs.View.{said_at}
use Rattle.packet_owner.specs.Packet.{packet_item}
use Rattle.packet_owner.proofs.Raw.{raw_payload}
use Rattle.packetize.proofs.TcpPlaces.{template_placed}
use Rattle.packetize.proofs.templates.Template.at.Goals as goal

pub returns : goal.returns
returns c =
    let whole = c.payload.ensures.value ∙ raw_payload c.args.p.now c.payload.ensures.layers in
    let places = c.args.places.now in
    template_placed (packet_item c.args.p.now) places c.requires.places c.requires.tcp
    ∙ (λ k. Some (said_at (slice_range (sym whole k) 0 14) (slice_range (sym whole k) places.ip4 places.header) (slice_range (sym whole k) places.header places.payload) (sym c.times.ensures k).0 (sym c.times.ensures k).1))
    ∙ ap Some (sym c.read_headers.ensures)
