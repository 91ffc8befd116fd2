-- Packets that are forwarded.
use Rattle.std.proofs.Common.{◌≡◌, ℕ, ◌<◌, List, map, length, get_or, Option, Some, None, ap, sym, subst, ◌∙◌}
use Rattle.std.specs.Prelude.{option_and_then, Ok, Err}
use Rattle.std.specs.List.{slice_get}
use Rattle.std.proofs.lemmas.Option.{slice_get-get_or}
use Rattle.brick_spec.specs.Edit.{with_ethernet_destination, with_ethernet_source}
use Rattle.brick_spec.specs.Item.{Item}
use Rattle.brick_spec.specs.Route as spec
use Rattle.brick_spec.specs.Stage.{NoRoute, Ttl, on_tuple, ttl_stage}
use Rattle.brick_spec.specs.Tuple.{Tuple, tuple_of}
use Rattle.brick_spec.proofs.Positions.{get_mapped}
use Rattle.brick_base.specs.declared.flow.Class.{Class}
use Rattle.packet_owner.specs.Packet.{PacketModel, packet_item, with_frame}
use Rattle.batch_ops.specs.Outlet.{keyed}
use Rattle.batch_ops.specs.Treat.{Kind, Treated, Treats}
use Rattle.lpm_fw.specs.RouteView.{route_view}
use Rattle.lpm_fw.specs.declared.routes.Route.{Route}
use Rattle.map_filter.specs.Handled.{Keeps, Rejects}
use Rattle.flow_spec.specs.Routing.{row_for, forwarded, routed_by, route_stage}

-- a packet that is this one
pub treats_same : {S : Type 0} (k : Kind S) (s s' : S) (class : Class) (p q : PacketModel) (r : Treated) → q ≡ p → Treats k s s' class q r → Treats k s s' class p r
treats_same k s s' class p q r same was = subst (λ (x : PacketModel). Treats k s s' class x r) same was

-- ADDRESSES

-- a packet that goes on between two Ethernet addresses
pub goes_on : (mac via : List ℕ) (p q s r : PacketModel) → Keeps ttl_stage p q → s ≡ with_frame q (with_ethernet_source q.frame mac) → r ≡ with_frame s (with_ethernet_destination s.frame via)
    → Keeps (λ i. forwarded mac via (ttl_stage i)) p r
goes_on mac via p q s r kept from to = (
  ap (forwarded mac via) kept.0 ∙ (ap (λ (x : PacketModel). Ok (packet_item (with_frame x (with_ethernet_destination x.frame via)))) (sym from) ∙ ap (λ (x : PacketModel). Ok (packet_item x)) (sym to)),
  ap keyed to ∙ (ap keyed from ∙ kept.1),
)

-- ROWS

-- the row of a table that was found
row_is : (rows : List Route) (address k : ℕ) (via : List ℕ) → Some k ≡ spec.route_of (map route_view rows) address → k < length rows → ((row : Route) → slice_get rows k ≡ Some row → via ≡ row.via)
    → (row : spec.Route) × (row_for (map route_view rows) address ≡ Some row) × (row.via ≡ via)
row_is rows address k via found below leads =
    let none : Route = record { to = 0; bits = 0; via = via } in
    let at = slice_get-get_or rows k none below in
    let row = get_or rows k none in
    (route_view row, ap (option_and_then (slice_get (map route_view rows))) (sym found) ∙ get_mapped route_view rows k row at, sym (leads row at))

routed_at : (mac : List ℕ) (i : Item) (o : Option spec.Route) (row : spec.Route) (via : List ℕ) → o ≡ Some row → row.via ≡ via → routed_by mac i o ≡ forwarded mac via (ttl_stage i)
routed_at mac i o row via e v = ap (routed_by mac i) e ∙ ap (λ (m : List ℕ). forwarded mac m (ttl_stage i)) v

-- what the stage does by the row that was found
pub routes_by : (mac : List ℕ) (rows : List Route) (i : Item) (t : Tuple) (k : ℕ) (via : List ℕ) → tuple_of i.frame ≡ Some t → Some k ≡ spec.route_of (map route_view rows) t.dst → k < length rows
    → ((row : Route) → slice_get rows k ≡ Some row → via ≡ row.via) → route_stage mac (map route_view rows) i ≡ forwarded mac via (ttl_stage i)
routes_by mac rows i t k via has found below leads =
    let r = row_is rows t.dst k via found below leads in
    ap (on_tuple i (λ t. routed_by mac i (row_for (map route_view rows) t.dst))) has ∙ routed_at mac i (row_for (map route_view rows) t.dst) r.0 via r.1 r.2

-- and without one
pub routes_none : (mac : List ℕ) (rows : List spec.Route) (i : Item) (t : Tuple) → tuple_of i.frame ≡ Some t → None ≡ spec.route_of rows t.dst → route_stage mac rows i ≡ Err NoRoute
routes_none mac rows i t has found =
    ap (on_tuple i (λ t. routed_by mac i (row_for rows t.dst))) has ∙ ap (λ (o : Option ℕ). routed_by mac i (option_and_then (slice_get rows) o)) (sym found)

-- the packet forwarded by the row that was found
pub routed_read : (mac : List ℕ) (rows : List Route) (q q₁ q₂ q₃ : PacketModel) (t : Tuple) (k : ℕ) (via : List ℕ) → tuple_of q.frame ≡ Some t → Some k ≡ spec.route_of (map route_view rows) t.dst → k < length rows → ((row : Route) → slice_get rows k ≡ Some row → via ≡ row.via)
    → Keeps ttl_stage q q₁ → q₂ ≡ with_frame q₁ (with_ethernet_source q₁.frame mac) → q₃ ≡ with_frame q₂ (with_ethernet_destination q₂.frame via) → Keeps (route_stage mac (map route_view rows)) q q₃
routed_read mac rows q q₁ q₂ q₃ t k via has found below leads lowered from to =
    let on = goes_on mac via q q₁ q₂ q₃ lowered from to in
    (routes_by mac rows (packet_item q) t k via has found below leads ∙ on.0, on.1)

pub expired_read : (mac : List ℕ) (rows : List Route) (q q₁ : PacketModel) (t : Tuple) (k : ℕ) (via : List ℕ) → tuple_of q.frame ≡ Some t → Some k ≡ spec.route_of (map route_view rows) t.dst → k < length rows → ((row : Route) → slice_get rows k ≡ Some row → via ≡ row.via)
    → Rejects ttl_stage Ttl q q₁ → Rejects (route_stage mac (map route_view rows)) Ttl q q₁
expired_read mac rows q q₁ t k via has found below leads low = (routes_by mac rows (packet_item q) t k via has found below leads ∙ ap (forwarded mac via) low.0, low.1)
