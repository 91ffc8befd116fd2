-- The layers of a packet that is read up to its IPv4 layer.
use Rattle.std.proofs.Common.{◌≡◌, ℕ, ◌+◌, ◌-◌, List, [], ◌∷◌, ◌++◌, length, take, drop, Option, Some, None, refl, ap, sym, ◌∙◌, arith, length-take-le, length-drop, length-append}
use Rattle.std.specs.Prelude.{option_map, option_and_then}
use Rattle.std.proofs.lemmas.List.{take_all, drop-drop}
use Rattle.brick_spec.specs.Edit.{with_header}
use Rattle.brick_spec.specs.Layer.{Layer, header_in, payload_in, ethernet_length, ethernet_layer, ip4_length, ip4_extent, ip4_layer_in, ip4_layer}
use Rattle.eth_ip.proofs.FrameLayers.{HasIp4Layer, ip4_layer_says}
use Rattle.packet_owner.specs.Packet.{PacketModel, here_of, header_of, payload_of, innermost, next_layer, parsed, overwritten, with_bytes}
use Rattle.packet_owner.proofs.Raw.{no_layers, raw_payload, raw_ethernet}
use Rattle.read_row.specs.Datagram.{ReadsIp4}

-- what mapping gives at a value comes from one
mapped_from : (o : Option Layer) (f : Layer → PacketModel) (q : PacketModel) → option_map f o ≡ Some q → (l : Layer) × (o ≡ Some l) × (q ≡ f l)
mapped_from None f q h = cc
mapped_from (Some l) f q h = (l, refl, cc)

-- the Ethernet layer that was read is the frame's
ethernet_read : (p q : PacketModel) → length p.layers ≡ 0 → parsed (λ _ rest. ethernet_length rest) (λ _ room. room) p ≡ Some q
    → (e : Layer) × (ethernet_layer p.frame ≡ Some e) × (q ≡ record p { layers = e ∷ p.layers })
ethernet_read p q none h =
    let from = mapped_from (next_layer (λ _ rest. ethernet_length rest) (λ _ room. room) p.frame (here_of p)) (λ l. record p { layers = l ∷ p.layers }) q h in
    let here : here_of p ≡ innermost [] (length p.frame) = ap (λ ls. innermost ls (length p.frame)) (no_layers p.layers none) in
    (from.0, sym (raw_ethernet p.frame) ∙ (ap (next_layer (λ _ rest. ethernet_length rest) (λ _ room. room) p.frame) (sym here) ∙ from.1), from.2)

-- a frame without the Ethernet layer has no IPv4 layer
pub without_ethernet : (p : PacketModel) → length p.layers ≡ 0 → ethernet_length (payload_of p) ≡ None → ip4_layer p.frame ≡ None
without_ethernet p none h =
    let no : ethernet_length p.frame ≡ None = ap ethernet_length (sym (raw_payload p none)) ∙ h in
    ap (λ (o : Option ℕ). option_and_then (ip4_layer_in p.frame) (option_map (λ n. record { start = 0; middle = n; end = length p.frame }) o)) no

-- nor has one whose Ethernet layer has none behind it
pub without_ip4 : (p q : PacketModel) → length p.layers ≡ 0 → parsed (λ _ rest. ethernet_length rest) (λ _ room. room) p ≡ Some q → ip4_length (header_of q) (payload_of q) ≡ None → ip4_layer p.frame ≡ None
without_ip4 p q none h absent =
    let e = ethernet_read p q none h in
    let outer : Layer = e.0 in
    let no : ip4_length (header_in p.frame outer) (payload_in p.frame outer) ≡ None = ap (λ (x : PacketModel). ip4_length (header_of x) (payload_of x)) (sym e.2) ∙ absent in
    ap (option_and_then (ip4_layer_in p.frame)) e.1
    ∙ ap (λ (o : Option ℕ). option_map (λ n. record { start = outer.middle; middle = outer.middle + n; end = outer.middle + ip4_extent (take n (payload_in p.frame outer)) (length (payload_in p.frame outer)) }) o) no

pub header_size : (frame : List ℕ) (l : Layer) → HasIp4Layer frame l → length (header_in frame l) ≡ l.middle - l.start
header_size frame l says =
    let s = says.start in let m = says.there in let o = says.long in let e = length-drop l.start frame in
    length-take-le (l.middle - l.start) (drop l.start frame) (omega arith)

-- a packet of which both layers were read
pub both_read : (p q r : PacketModel) → length p.layers ≡ 0 → parsed (λ _ rest. ethernet_length rest) (λ _ room. room) p ≡ Some q → parsed ip4_length ip4_extent q ≡ Some r → ReadsIp4 p r
both_read p q r none h k =
    let e = ethernet_read p q none h in
    let outer : Layer = e.0 in
    let from = mapped_from (next_layer ip4_length ip4_extent q.frame (here_of q)) (λ l. record q { layers = l ∷ q.layers }) r k in
    let l : Layer = from.0 in
    let inner : ip4_layer_in p.frame outer ≡ Some l = ap (λ (x : PacketModel). next_layer ip4_length ip4_extent x.frame (here_of x)) (sym e.2) ∙ from.1 in
    let is : ip4_layer p.frame ≡ Some l = ap (option_and_then (ip4_layer_in p.frame)) e.1 ∙ inner in
    let says = ip4_layer_says p.frame l is in
    let size = header_size p.frame l says in
    let s = says.start in
    let m = says.middle in
    let o = says.long in
    record {
      none = no_layers p.layers none;
      ethernet = outer;
      layer = l;
      is = is;
      read = from.2 ∙ ap (λ (x : PacketModel). record x { layers = l ∷ x.layers }) e.2;
      long = omega arith;
      even = omega arith;
    }

-- a header of the same length, written over the old one
overwritten_header : (frame ws : List ℕ) (l : Layer) → HasIp4Layer frame l → length ws ≡ length (header_in frame l) → overwritten frame l.start ws ≡ with_header frame l ws
overwritten_header frame ws l says same =
    let s = says.start in
    let m = says.there in
    let o = says.long in
    let size = header_size frame l says in
    let rest : drop (length ws) (drop l.start frame) ≡ drop l.middle frame = drop_twice (length ws) l.start l.middle frame (omega arith) in
    let whole : take l.start frame ++ (ws ++ drop (length ws) (drop l.start frame)) ≡ with_header frame l ws = ap (λ t. take l.start frame ++ (ws ++ t)) rest in
    let front = length-take-le l.start frame (omega arith) in
    let back = length-drop l.middle frame in
    let e₁ = length-append (take l.start frame) (ws ++ drop l.middle frame) in
    let e₂ = length-append ws (drop l.middle frame) in
    ap (take (length frame)) whole ∙ take_all (length frame) (with_header frame l ws) (omega arith) where
      drop_twice : (n m k : ℕ) (xs : List ℕ) → k ≡ m + n → drop n (drop m xs) ≡ drop k xs
      drop_twice n m k xs e = drop-drop n m xs ∙ ap (λ j. drop j xs) (sym e)

-- CLOSED AGAIN

-- the header that was read
pub header_read : (p q : PacketModel) → (reads : ReadsIp4 p q) → header_of q ≡ header_in p.frame reads.layer
header_read p q reads = ap header_of reads.read

-- a packet that was only read
pub closed : (p q r : PacketModel) → ReadsIp4 p q → r ≡ record q { layers = drop 2 q.layers } → r ≡ p
closed p q r reads e = e ∙ ap (λ (x : PacketModel). record x { layers = drop 2 x.layers }) reads.read

-- a packet whose header was written over
pub closed_edited : (p q q' r : PacketModel) (ws : List ℕ) → (reads : ReadsIp4 p q) → length ws ≡ length (header_of q) → q' ≡ with_bytes q (here_of q).start ws → r ≡ record q' { layers = drop 2 q'.layers }
    → r ≡ record p { frame = with_header p.frame reads.layer ws }
closed_edited p q q' r ws reads long e close =
    let says = ip4_layer_says p.frame reads.layer reads.is in
    close ∙ (ap (λ (x : PacketModel). record x { layers = drop 2 x.layers }) e
    ∙ (ap (λ (x : PacketModel). let y : PacketModel = with_bytes x (here_of x).start ws in record y { layers = drop 2 y.layers }) reads.read
    ∙ ap (λ (f : List ℕ). record p { frame = f }) (overwritten_header p.frame ws reads.layer says (long ∙ ap length (header_read p q reads)))))
