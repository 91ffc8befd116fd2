-- Packets that are closed again, after stages have treated them with their layers read.
use Rattle.std.proofs.Common.{◌≡◌, ℕ, ◌≤◌, List, [], ◌∷◌, drop, length, Ok, Err, Option, Some, refl, ap, sym, subst, ◌∙◌, arith}
use Rattle.std.specs.Prelude.{Result, ⊤, option_map}
use Rattle.brick_spec.specs.Layer.{Layer, header_in, payload_in, ip4_layer}
use Rattle.brick_spec.specs.Tuple.{tuple_in, tuple_of}
use Rattle.tcp_udp.specs.View.{tuple_view}
use Rattle.tcp_udp.specs.declared.tuple.Tuple.{Tuple as Seen}
use Rattle.brick_base.specs.declared.drops.Reason.{Reason}
use Rattle.brick_base.specs.declared.flow.Class.{Class}
use Rattle.eth_ip.proofs.FrameLayers.{ip4_layer_says}
use Rattle.packet_owner.specs.Packet.{PacketModel, innermost, here_of, header_of, payload_of}
use Rattle.batch_ops.specs.Treat.{Kind, Treated, Treats, RowTreats}
use Rattle.read_row.specs.Datagram.{ReadsIp4}
use Rattle.read_row.specs.Read.{IsRead, treated}
use Rattle.read_row.proofs.Datagrams.{header_size, header_read}

-- the packet with no layer read, of which this one was read
abbrev pub shut : PacketModel → PacketModel
shut q = record q { layers = [] }

unfoldable pub reads : (q : PacketModel) → IsRead q → ReadsIp4 (shut q) q
reads q is =
    let says = ip4_layer_says q.frame is.layer is.is in
    let size = header_size q.frame is.layer says in
    let s = says.start in
    let m = says.middle in
    let o = says.long in
    record { none = refl; ethernet = is.ethernet; layer = is.layer; is = is.is; read = λ i. record q { layers = is.layers i }; long = omega arith; even = omega arith }

pub read_now : (p q : PacketModel) → ReadsIp4 p q → IsRead q
read_now p q h = record {
  ethernet = h.ethernet;
  layer = h.layer;
  layers = ap (λ (x : PacketModel). x.layers) h.read ∙ ap (λ ls. h.layer ∷ h.ethernet ∷ ls) h.none;
  is = ap (λ (x : PacketModel). ip4_layer x.frame) h.read ∙ h.is;
}

pub long_header : (q : PacketModel) → IsRead q → 20 ≤ length (header_of q)
long_header q is = let r = reads q is in subst (λ h. 20 ≤ length h) (sym (header_read (shut q) q r)) r.long

-- the five-tuple by the layer that was read is that of the frame
pub tuple_read : (q : PacketModel) (header payload : List ℕ) (t : Seen) → IsRead q → header ≡ header_of q → payload ≡ payload_of q
    → ((frame : List ℕ) (l : Layer) → header ≡ header_in frame l → payload ≡ payload_in frame l → tuple_view t ≡ tuple_in frame l) → tuple_of q.frame ≡ Some (tuple_view t)
tuple_read q header payload t is h p given =
    let here : here_of q ≡ is.layer = ap (λ ls. innermost ls (length q.frame)) is.layers in
    let made = given q.frame is.layer (h ∙ ap (header_in q.frame) here) (p ∙ ap (payload_in q.frame) here) in
    ap (option_map (tuple_in q.frame)) is.is ∙ ap Some (sym made)

-- what became of a packet, with its layers closed
closed : Treated → Treated
closed (Ok q) = Ok (record q { layers = drop 2 q.layers })
closed (Err d) = Err (record { reason = d.reason; packet = record d.packet { layers = drop 2 d.packet.layers } })

-- a stage that was given a packet whose layers were read
pub closed_treats : {S : Type 0} (k : Kind S) (s s' : S) (class : Class) (p q q' r : PacketModel) (o : Result ⊤ (Option Reason)) (t : Treated)
    → ReadsIp4 p q → r ≡ record q' { layers = drop 2 q'.layers } → t ≡ treated o r → Treats k s s' class q (treated o q') → Treats k s s' class p t
unfolding closed
closed_treats k s s' class p q q' r o t h e is was =
    subst (λ (x : Treated). Treats k s s' class p x) (sym (is ∙ ap (treated o) e)) (at o (subst (λ (x : PacketModel). Treats k s s' class x (treated o q')) h.read was)) where
      at : (o : Result ⊤ (Option Reason)) → Treats k s s' class (record p { layers = h.layer ∷ h.ethernet ∷ p.layers }) (treated o q') → Treats k s s' class p (treated o (record q' { layers = drop 2 q'.layers }))
      at (Ok done) t = record { kept = t.kept; on_item = t.on_item; fits = t.fits; others = t.others; same = t.same; lost = t.lost; stays_failed = λ gone. ap closed (t.stays_failed gone) }
      at (Err reason) t = record { kept = t.kept; on_item = t.on_item; fits = t.fits; others = t.others; same = t.same; lost = t.lost; stays_failed = λ gone. ap closed (t.stays_failed gone) }

-- one that was given a packet without an IPv4 layer
pub other_treats : {S : Type 0} (k : Kind S) (s s' : S) (class : Class) (p q : PacketModel) (o : Result ⊤ (Option Reason)) (t : Treated) → q ≡ p → t ≡ treated o q → Treats k s s' class q (treated o q) → Treats k s s' class p t
other_treats k s s' class p q o t same is was = subst (λ (x : Treated). Treats k s s' class p x) (sym is) (subst (λ (x : PacketModel). Treats k s s' class x (treated o q)) same was)

-- the same of a row
pub closed_row : {S : Type 0} (k : Kind S) (ss ss' : List S) (class : Class) (p q q' r : PacketModel) (o : Result ⊤ (Option Reason)) (t : Treated)
    → ReadsIp4 p q → r ≡ record q' { layers = drop 2 q'.layers } → t ≡ treated o r → RowTreats k ss ss' class q (treated o q') → RowTreats k ss ss' class p t
closed_row k ss ss' class p q q' r o t h e is was =
    subst (λ (x : Treated). RowTreats k ss ss' class p x) (sym (is ∙ ap (treated o) e)) (at o (subst (λ (x : PacketModel). RowTreats k ss ss' class x (treated o q')) h.read was)) where
      at : (o : Result ⊤ (Option Reason)) → RowTreats k ss ss' class (record p { layers = h.layer ∷ h.ethernet ∷ p.layers }) (treated o q') → RowTreats k ss ss' class p (treated o (record q' { layers = drop 2 q'.layers }))
      at (Ok done) t = record { kept = t.kept; goes = t.goes; others = t.others; same = t.same }
      at (Err reason) t = record { kept = t.kept; goes = t.goes; others = t.others; same = t.same }

pub other_row : {S : Type 0} (k : Kind S) (ss ss' : List S) (class : Class) (p q : PacketModel) (o : Result ⊤ (Option Reason)) (t : Treated) → q ≡ p → t ≡ treated o q → RowTreats k ss ss' class q (treated o q) → RowTreats k ss ss' class p t
other_row k ss ss' class p q o t same is was = subst (λ (x : Treated). RowTreats k ss ss' class p x) (sym is) (subst (λ (x : PacketModel). RowTreats k ss ss' class x (treated o q)) same was)
