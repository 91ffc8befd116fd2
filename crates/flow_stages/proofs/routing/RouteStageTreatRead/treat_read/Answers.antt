use Rattle.std.proofs.Common.{◌≡◌, ◌<◌, length, map, sym, ap, subst, refl, ◌∙◌, Some}
use Rattle.std.specs.Arc.{arc_value}
use Rattle.std.specs.List.{slice_get}
use Rattle.brick_spec.specs.Route.{route_of}
use Rattle.brick_spec.specs.Tuple.{tuple_of}
use Rattle.brick_base.specs.declared.drops.Reason.TheVariants.{Ttl, NoRoute}
use Rattle.flow_spec.specs.Routing.{route_stage}
use Rattle.packet_owner.specs.Packet.{PacketModel, packet_item}
use Rattle.tcp_udp.specs.View.{tuple_view}
use Rattle.lpm_fw.specs.RouteView.{route_view}
use Rattle.lpm_fw.specs.declared.routes.Route.{Route}
use Rattle.map_filter.proofs.Steps.{keeps, rejects}
use Rattle.flow_stages.specs.declared.routing.RouteStage.{RouteStage}
use Rattle.flow_stages.proofs.Forwarding.{treats_same, routes_none, routed_read, expired_read}
use Rattle.flow_stages.proofs.routing.RouteStageTreatRead.treat_read.Goals as goal

pub returns-in_default-clause-treats : goal.returns-in_default-clause-treats
returns-in_default-clause-treats c =
    let s = c.args.self.now in
    let q = c.five_tuple-tuple.new.self.packet in
    let has = ap (λ (x : PacketModel). tuple_of x.frame) c.five_tuple-tuple.ensures.packet ∙ c.five_tuple-tuple.ensures.value in
    let rows : c.deref.result.now ≡ arc_value s.routes = c.deref.ensures in
    treats_same _ s s c.args.«_class».now c.args.packet.now.packet q _ c.five_tuple-tuple.ensures.packet
    (rejects (λ (s : RouteStage). route_stage s.mac (map route_view (arc_value s.routes))) s c.args.«_class».now q q NoRoute
    (routes_none s.mac (map route_view (arc_value s.routes)) (packet_item q) (tuple_view c.five_tuple-tuple.result) has (c.in_default.ensures.route ∙ ap (λ rs. route_of (map route_view rs) c.five_tuple-tuple.result.dst) rows), refl))

pub returns-then-lower_ttl-clause-treats : goal.returns-then-lower_ttl-clause-treats
returns-then-lower_ttl-clause-treats c =
    let s = c.args.self.now in
    let q = c.five_tuple-tuple.new.self.packet in
    let has = ap (λ (x : PacketModel). tuple_of x.frame) c.five_tuple-tuple.ensures.packet ∙ c.five_tuple-tuple.ensures.value in
    let rows : c.deref.result.now ≡ arc_value s.routes = c.deref.ensures in
    let rows' : c.deref-2.result.now ≡ arc_value s.routes = c.deref-2.ensures in
    treats_same _ s s c.args.«_class».now c.args.packet.now.packet q _ c.five_tuple-tuple.ensures.packet
    (keeps (λ (s : RouteStage). route_stage s.mac (map route_view (arc_value s.routes))) s c.args.«_class».now q c.send_to.new.packet
    (routed_read s.mac (arc_value s.routes) q c.lower_ttl.new.packet c.send_from.new.packet c.send_to.new.packet (tuple_view c.five_tuple-tuple.result) c.in-Some.row c.via-via.result has
    (sym c.in-Some.is ∙ c.find.ensures.route ∙ ap (λ rs. route_of (map route_view rs) c.five_tuple-tuple.result.dst) rows)
    (subst (λ rs. c.in-Some.row < length rs) rows c.in-Some.ensures.there)
    (subst (λ rs. (row : Route) → slice_get rs c.in-Some.row ≡ Some row → c.via-via.result ≡ row.via) rows' c.via-via.ensures)
    (c.lower_ttl.ensures.lowered c.if-lower_ttl.true) c.send_from.ensures.edited c.send_to.ensures.edited))

pub returns-clause-treats : goal.returns-clause-treats
returns-clause-treats c =
    let s = c.args.self.now in
    let q = c.five_tuple-tuple.new.self.packet in
    let has = ap (λ (x : PacketModel). tuple_of x.frame) c.five_tuple-tuple.ensures.packet ∙ c.five_tuple-tuple.ensures.value in
    let rows : c.deref.result.now ≡ arc_value s.routes = c.deref.ensures in
    let rows' : c.deref-2.result.now ≡ arc_value s.routes = c.deref-2.ensures in
    treats_same _ s s c.args.«_class».now c.args.packet.now.packet q _ c.five_tuple-tuple.ensures.packet
    (rejects (λ (s : RouteStage). route_stage s.mac (map route_view (arc_value s.routes))) s c.args.«_class».now q c.lower_ttl.new.packet Ttl
    (expired_read s.mac (arc_value s.routes) q c.lower_ttl.new.packet (tuple_view c.five_tuple-tuple.result) c.in-Some.row c.via-via.result has
    (sym c.in-Some.is ∙ c.find.ensures.route ∙ ap (λ rs. route_of (map route_view rs) c.five_tuple-tuple.result.dst) rows)
    (subst (λ rs. c.in-Some.row < length rs) rows c.in-Some.ensures.there)
    (subst (λ rs. (row : Route) → slice_get rs c.in-Some.row ≡ Some row → c.via-via.result ≡ row.via) rows' c.via-via.ensures)
    (c.lower_ttl.ensures.low c.if-lower_ttl.false)))
