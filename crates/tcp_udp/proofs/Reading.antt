-- What the readers of a frame find.
use Rattle.std.proofs.Common.{◌≡◌, ℕ, ◌+◌, ◌-◌, ◌/◌, ◌%◌, ◌<◌, ◌≤◌, ◌^◌, List, length, take, drop, Bool, true, false, Option, Some, None, if◌then◌else◌, is_some, min, nat_lt, nat_le, nat_eq, ◌||◌, refl, ap, sym, ◌∙◌, arith, length-take, length-take-le, length-drop}
use Rattle.std.specs.Prelude.{option_map, option_and_then, ◌&&◌, not}
use Rattle.std.proofs.lemmas.Bool.{or_left, or_right, lt-ltb, le-ltb, eq-eqb, ne_eqb, leb-true}
use Rattle.std.specs.Option.{option_or}
use Rattle.std.proofs.lemmas.Bool.Decides.{nat_tests}
use Rattle.std.proofs.lemmas.List.{drop-drop}
use Rattle.brick_spec.specs.Header.{word_at}
use Rattle.brick_spec.specs.Layer.{Layer, header_in, payload_in, segment_in, ethernet_length, ethernet_layer, ip4_length, ip4_extent, ip4_total, ip4_layer_in, ip4_layer, tcp_header_bytes, has_tcp, tcp_length, tcp_layer_in, udp_total, has_udp, udp_length, udp_layer_in, source_port, destination_port}
use Rattle.brick_spec.specs.Tuple.{ports_at, transport_layer_in}
use Rattle.brick_spec.specs.Transport.{is_tcp_right, is_udp_right, is_cut, is_too_long, is_unchecked, tcp_ok_at, udp_ok_at, transport_ok_in, transport_ok}
use Rattle.eth_ip.specs.LayerLaws.{some_if, ip4_length_says, ip4_length_even, word_at-take}
use Rattle.eth_ip.proofs.FrameLayers.{ethernet_at, ethernet_payload, extent_is}
use Rattle.tcp_udp.specs.Datagrams.{IsDatagram}
use Rattle.tcp_udp.specs.LayerLaws.{has_udp_says}
use Rattle.tcp_udp.proofs.Segments.{whole_payload, inner_word, tcp_at, tcp_there, tcp_absent, udp_at, udp_there, udp_segment, tcp_ports, udp_ports}

lt_same : (a b c d : ℕ) → c ≡ a + 14 → d ≡ 14 + b → nat_lt a b ≡ nat_lt c d
lt_same a b c d e f = grind (arith, nat_tests)

-- the flag above the fragment offset and the offset are 0 where the two together are
pub whole_test : (word : ℕ) → nat_eq (word % 16384) 0 ≡ (nat_eq (word % 8192) 0 && not (nat_eq (word / 8192 % 2) 1))
whole_test word = grind (arith, nat_tests)

-- the datagram that is read in steps
pub datagram_read : (frame outer rest : List ℕ) (s n end total : ℕ) → ethernet_length frame ≡ Some s → outer ≡ take s frame → rest ≡ drop s frame → ip4_length outer rest ≡ Some n
    → end ≡ ip4_extent (take n rest) (length rest) → total ≡ ip4_total (take n rest) → total < 2 ^ 16
    → IsDatagram frame (take n rest) (take (end - n) (drop n rest)) (nat_lt (length rest) total)
datagram_read frame outer rest s n end total he ho hr hn hend ht small =
    let fourteen = some_if (nat_le 14 (length frame)) 14 s he in
    let s_is = fourteen.1 in
    let enough : 14 ≤ length frame = leb-true 14 (length frame) fourteen.0 in
    let outer_is : outer ≡ take 14 frame = ho ∙ ap (λ k. take k frame) (sym s_is) in
    let rest_is : rest ≡ payload_in frame (ethernet_at frame) = hr ∙ (ap (λ k. drop k frame) (sym s_is) ∙ sym (ethernet_payload frame)) in
    let inner : ip4_length (take 14 frame) (payload_in frame (ethernet_at frame)) ≡ Some n = (λ i. ip4_length (sym outer_is i) (sym rest_is i)) ∙ hn in
    let place : ℕ → Layer = λ m. record { start = 14; middle = 14 + m; end = 14 + ip4_extent (take m (payload_in frame (ethernet_at frame))) (length (payload_in frame (ethernet_at frame))) } in
    let ethernet : ethernet_layer frame ≡ Some (ethernet_at frame) = ap (λ b. option_map (λ m. record { start = 0; middle = m; end = length frame }) (if b then Some 14 else None)) fourteen.0 in
    let given = ip4_length_says outer rest n hn in
    let n_is = given.1 in
    let long = given.0.long in
    let there = given.0.there in
    let there' : n ≤ length rest = omega arith in
    let fits = given.0.total in
    let end_is : end ≡ min (ip4_total rest) (length rest) = hend ∙ extent_is rest n (omega arith) (omega arith) (omega arith) in
    let behind : rest ≡ drop 14 frame = rest_is ∙ ethernet_payload frame in
    let room : length rest ≡ length frame - 14 = ap length behind ∙ length-drop 14 frame in
    let size : n ≡ 14 + n - 14 = omega arith in
    let header : take n rest ≡ header_in frame (place n) = ap (take n) behind ∙ ap (λ k. take k (drop 14 frame)) size in
    let extent : end ≡ ip4_extent (take n (payload_in frame (ethernet_at frame))) (length (payload_in frame (ethernet_at frame))) = hend ∙ ap (λ xs. ip4_extent (take n xs) (length xs)) rest_is in
    let room' : end - n ≡ (place n).end - (place n).middle = omega (arith, extent) in
    let payload : take (end - n) (drop n rest) ≡ payload_in frame (place n) = (λ i. take (room' i) ((ap (drop n) behind ∙ drop-drop n 14 frame) i)) in
    let word : ip4_total (take n rest) ≡ ip4_total rest = word_at-take rest n 2 (omega arith) in
    let cut : length (take n rest) ≡ n = length-take-le n rest there' in
    let short = length-take (end - n) (drop n rest) in
    record {
      layer = place n;
      is = ap (option_and_then (ip4_layer_in frame)) ethernet ∙ ap (option_map place) inner;
      header_is = header;
      payload_is = payload;
      cut_is = lt_same (length rest) total (length frame) (14 + ip4_total (header_in frame (place n))) (omega arith) (ap (λ k. 14 + k) (sym (ht ∙ ap ip4_total header)));
      long = omega arith;
      fits = omega arith;
      even = let e = ip4_length_even outer rest n hn in omega arith;
      starts = refl;
      middle = omega arith;
      end = let behind_header = length-drop n rest in omega (arith, extent, short, behind_header, end_is);
      within = let behind_header = length-drop n rest in omega (arith, short, behind_header, room);
    }

some_test : (b : Bool) (n : ℕ) → is_some (if b then Some n else None) ≡ b
some_test true n = refl
some_test false n = refl

-- the ports that are read, where there is a length of TCP, or none of TCP and one of UDP
pub ports_by_tcp : (frame header payload : List ℕ) (l : Layer) (o : Option ℕ) (source destination : ℕ) → header ≡ header_in frame l → payload ≡ payload_in frame l
    → o ≡ tcp_length header payload → is_some o ≡ true → source ≡ source_port payload → destination ≡ destination_port payload
    → Some (source, destination) ≡ option_map (ports_at frame) (transport_layer_in frame l)
ports_by_tcp frame header payload l o source destination h p e there s d =
    let has : has_tcp (header_in frame l) (payload_in frame l) ≡ true = (λ i. has_tcp (sym h i) (sym p i)) ∙ (sym (some_test (has_tcp header payload) (tcp_header_bytes payload)) ∙ (ap is_some (sym e) ∙ there)) in
    let source_is = s ∙ ap source_port p in
    let destination_is = d ∙ ap destination_port p in
    (λ i. Some (source_is i, destination_is i)) ∙ sym (tcp_ports frame l has)

pub ports_by_udp : (frame header payload : List ℕ) (l : Layer) (o q : Option ℕ) (source destination : ℕ) → header ≡ header_in frame l → payload ≡ payload_in frame l
    → o ≡ tcp_length header payload → is_some o ≡ false → q ≡ udp_length header payload → is_some q ≡ true → source ≡ source_port payload → destination ≡ destination_port payload
    → Some (source, destination) ≡ option_map (ports_at frame) (transport_layer_in frame l)
ports_by_udp frame header payload l o q source destination h p e absent f there s d =
    let without : has_tcp (header_in frame l) (payload_in frame l) ≡ false = (λ i. has_tcp (sym h i) (sym p i)) ∙ (sym (some_test (has_tcp header payload) (tcp_header_bytes payload)) ∙ (ap is_some (sym e) ∙ absent)) in
    let has : has_udp (header_in frame l) (payload_in frame l) ≡ true = (λ i. has_udp (sym h i) (sym p i)) ∙ (sym (some_test (has_udp header payload) 8) ∙ (ap is_some (sym f) ∙ there)) in
    let source_is = s ∙ ap source_port p in
    let destination_is = d ∙ ap destination_port p in
    (λ i. Some (source_is i, destination_is i)) ∙ sym (udp_ports frame l without has)

-- WHETHER THE CHECKSUM IS RIGHT

no_answer : (f g : Layer → Option Bool) → ((t : Layer) → f t ≡ None) → ((t : Layer) → g t ≡ None) → (a b : Option Layer) → option_or (option_and_then f a) (option_and_then g b) ≡ None
no_answer f g p q None None = refl
no_answer f g p q None (Some t) = q t
no_answer f g p q (Some t) None = ap (λ (o : Option Bool). option_or o None) (p t)
no_answer f g p q (Some t) (Some u) = ap (λ (o : Option Bool). option_or o (g u)) (p t) ∙ q u

-- the frame is cut
pub cut_answer : (frame : List ℕ) (l : Layer) → is_cut frame l ≡ true → transport_ok_in frame l ≡ None
cut_answer frame l h =
    no_answer (tcp_ok_at frame l) (udp_ok_at frame l)
    (λ t. ap (λ b. if b then None else Some (is_tcp_right (header_in frame l) (segment_in frame t))) h)
    (λ t. ap (λ b. if b || (is_too_long frame l t || is_unchecked frame t) then None else Some (is_udp_right (header_in frame l) (segment_in frame t))) h)
    (tcp_layer_in frame l) (udp_layer_in frame l)

-- there is TCP
pub tcp_answer : (frame : List ℕ) (l : Layer) → is_cut frame l ≡ false → has_tcp (header_in frame l) (payload_in frame l) ≡ true
    → transport_ok_in frame l ≡ Some (is_tcp_right (header_in frame l) (payload_in frame l))
tcp_answer frame l whole h =
    let rest = option_and_then (udp_ok_at frame l) (udp_layer_in frame l) in
    ap (λ (o : Option Layer). option_or (option_and_then (tcp_ok_at frame l) o) rest) (tcp_there frame l h)
    ∙ (ap (λ b. option_or (if b then None else Some (is_tcp_right (header_in frame l) (segment_in frame (tcp_at frame l)))) rest) whole
    ∙ ap (λ xs. Some (is_tcp_right (header_in frame l) xs)) (whole_payload frame l))

-- there is UDP
pub udp_answer : (frame : List ℕ) (l : Layer) → has_tcp (header_in frame l) (payload_in frame l) ≡ false → has_udp (header_in frame l) (payload_in frame l) ≡ true
    → transport_ok_in frame l ≡ udp_ok_at frame l (udp_at frame l)
udp_answer frame l absent h =
    ap (λ (o : Option Layer). option_or (option_and_then (tcp_ok_at frame l) o) (option_and_then (udp_ok_at frame l) (udp_layer_in frame l))) (tcp_absent frame l absent)
    ∙ ap (λ (o : Option Layer). option_and_then (udp_ok_at frame l) o) (udp_there frame l h)

-- the UDP length and the checksum field, in the payload
pub too_long_is : (frame : List ℕ) (l : Layer) → 8 ≤ length (payload_in frame l) → is_too_long frame l (udp_at frame l) ≡ nat_lt (length (payload_in frame l)) (udp_total (payload_in frame l))
too_long_is frame l long = ap (λ n. nat_lt (length (payload_in frame l)) n) (inner_word frame l 8 4 (omega arith) (omega arith))

pub unchecked_is : (frame : List ℕ) (l : Layer) → 8 ≤ length (payload_in frame l) → is_unchecked frame (udp_at frame l) ≡ nat_eq (word_at (payload_in frame l) 6) 0
unchecked_is frame l long = ap (λ n. nat_eq n 0) (inner_word frame l 8 6 (omega arith) (omega arith))

-- there is UDP, and its length is within the payload and its field is not 0
pub udp_checked : (frame : List ℕ) (l : Layer) → is_cut frame l ≡ false → has_tcp (header_in frame l) (payload_in frame l) ≡ false → has_udp (header_in frame l) (payload_in frame l) ≡ true
    → nat_lt (length (payload_in frame l)) (udp_total (payload_in frame l)) ≡ false → nat_eq (word_at (payload_in frame l) 6) 0 ≡ false
    → transport_ok_in frame l ≡ Some (is_udp_right (header_in frame l) (take (udp_total (payload_in frame l)) (payload_in frame l)))
udp_checked frame l whole absent h short field =
    let least = (has_udp_says (header_in frame l) (payload_in frame l) h).least in
    let within : udp_total (payload_in frame l) ≤ length (payload_in frame l) = grind (arith, nat_tests) in
    udp_answer frame l absent h
    ∙ ((λ i. if whole i || ((too_long_is frame l least ∙ short) i || (unchecked_is frame l least ∙ field) i) then None else Some (is_udp_right (header_in frame l) (segment_in frame (udp_at frame l))))
    ∙ ap (λ xs. Some (is_udp_right (header_in frame l) xs)) (udp_segment frame l h within))

-- there is UDP, and its length is past the payload or its field is 0
pub udp_unchecked : (frame : List ℕ) (l : Layer) → has_tcp (header_in frame l) (payload_in frame l) ≡ false → has_udp (header_in frame l) (payload_in frame l) ≡ true
    → (nat_lt (length (payload_in frame l)) (udp_total (payload_in frame l)) || nat_eq (word_at (payload_in frame l) 6) 0) ≡ true
    → transport_ok_in frame l ≡ None
udp_unchecked frame l absent h bad =
    let least = (has_udp_says (header_in frame l) (payload_in frame l) h).least in
    let test : (is_too_long frame l (udp_at frame l) || is_unchecked frame (udp_at frame l)) ≡ true = (λ i. too_long_is frame l least i || unchecked_is frame l least i) ∙ bad in
    udp_answer frame l absent h
    ∙ ap (λ b. if b then None else Some (is_udp_right (header_in frame l) (segment_in frame (udp_at frame l)))) (or_right (is_cut frame l) (is_too_long frame l (udp_at frame l) || is_unchecked frame (udp_at frame l)) test)

-- with the IPv4 layer of the frame
pub answer_in : (frame : List ℕ) (l : Layer) → ip4_layer frame ≡ Some l → transport_ok frame ≡ transport_ok_in frame l
answer_in frame l h = ap (option_and_then (transport_ok_in frame)) h

-- BY THE DATAGRAM THAT WAS READ

-- the tests of the two layers, by the lengths that were given
tcp_test : (frame header payload : List ℕ) (cut b : Bool) (o : Option ℕ) (d : IsDatagram frame header payload cut) → o ≡ tcp_length header payload → is_some o ≡ b
    → has_tcp (header_in frame d.layer) (payload_in frame d.layer) ≡ b
tcp_test frame header payload cut b o d e h =
    (λ i. has_tcp (sym d.header_is i) (sym d.payload_is i)) ∙ (sym (some_test (has_tcp header payload) (tcp_header_bytes payload)) ∙ (ap is_some (sym e) ∙ h))

udp_test : (frame header payload : List ℕ) (cut : Bool) (o : Option ℕ) (n : ℕ) (d : IsDatagram frame header payload cut) → o ≡ udp_length header payload → o ≡ Some n
    → has_udp (header_in frame d.layer) (payload_in frame d.layer) ≡ true
udp_test frame header payload cut o n d e h =
    (λ i. has_udp (sym d.header_is i) (sym d.payload_is i)) ∙ (sym (some_test (has_udp header payload) 8) ∙ (ap is_some (sym e) ∙ ap is_some h))

pub cut_read : (frame header payload : List ℕ) (cut : Bool) → IsDatagram frame header payload cut → cut ≡ true → None ≡ transport_ok frame
cut_read frame header payload cut d h = sym (answer_in frame d.layer d.is ∙ cut_answer frame d.layer (sym d.cut_is ∙ h))

pub tcp_read : (frame header payload : List ℕ) (cut right : Bool) (o : Option ℕ) → IsDatagram frame header payload cut → cut ≡ false → o ≡ tcp_length header payload → is_some o ≡ true
    → right ≡ is_tcp_right header payload → Some right ≡ transport_ok frame
tcp_read frame header payload cut right o d h e there is =
    let has = tcp_test frame header payload cut true o d e there in
    let right_is : right ≡ is_tcp_right (header_in frame d.layer) (payload_in frame d.layer) = is ∙ (λ i. is_tcp_right (d.header_is i) (d.payload_is i)) in
    ap Some right_is ∙ sym (answer_in frame d.layer d.is ∙ tcp_answer frame d.layer (sym d.cut_is ∙ h) has)

-- what is known once UDP was found
record UdpRead (frame : List ℕ) (l : Layer) (len field : ℕ) : Type 0 where
  without : has_tcp (header_in frame l) (payload_in frame l) ≡ false
  has : has_udp (header_in frame l) (payload_in frame l) ≡ true
  len_is : len ≡ udp_total (payload_in frame l)
  field_is : field ≡ word_at (payload_in frame l) 6

udp_found : (frame header payload : List ℕ) (cut : Bool) (o q : Option ℕ) (n len field : ℕ) (d : IsDatagram frame header payload cut) → o ≡ tcp_length header payload → is_some o ≡ false
    → q ≡ udp_length header payload → q ≡ Some n → len ≡ udp_total payload → field ≡ word_at payload 6 → UdpRead frame d.layer len field
udp_found frame header payload cut o q n len field d e absent f there le fe = record {
  without = tcp_test frame header payload cut false o d e absent;
  has = udp_test frame header payload cut q n d f there;
  len_is = le ∙ ap udp_total d.payload_is;
  field_is = fe ∙ ap (λ xs. word_at xs 6) d.payload_is;
}

-- the UDP length goes past the payload
pub udp_long_read : (frame header payload : List ℕ) (cut : Bool) (o q : Option ℕ) (n len : ℕ) → IsDatagram frame header payload cut → o ≡ tcp_length header payload → is_some o ≡ false
    → q ≡ udp_length header payload → q ≡ Some n → len ≡ udp_total payload → length payload < len → None ≡ transport_ok frame
udp_long_read frame header payload cut o q n len d e absent f there le past =
    let u = udp_found frame header payload cut o q n len (word_at payload 6) d e absent f there le refl in
    let size = ap length d.payload_is in
    let l = u.len_is in
    let test = or_left (nat_lt (length (payload_in frame d.layer)) (udp_total (payload_in frame d.layer))) (nat_eq (word_at (payload_in frame d.layer) 6) 0)
    (lt-ltb (length (payload_in frame d.layer)) (udp_total (payload_in frame d.layer)) (omega arith)) in
    sym (answer_in frame d.layer d.is ∙ udp_unchecked frame d.layer u.without u.has test)

-- the field is 0
pub udp_plain_read : (frame header payload : List ℕ) (cut : Bool) (o q : Option ℕ) (n field : ℕ) → IsDatagram frame header payload cut → o ≡ tcp_length header payload → is_some o ≡ false
    → q ≡ udp_length header payload → q ≡ Some n → field ≡ word_at payload 6 → field ≡ 0 → None ≡ transport_ok frame
udp_plain_read frame header payload cut o q n field d e absent f there fe zero =
    let u = udp_found frame header payload cut o q n (udp_total payload) field d e absent f there refl fe in
    let test = or_right (nat_lt (length (payload_in frame d.layer)) (udp_total (payload_in frame d.layer))) (nat_eq (word_at (payload_in frame d.layer) 6) 0)
    (eq-eqb (word_at (payload_in frame d.layer) 6) 0 (sym u.field_is ∙ zero)) in
    sym (answer_in frame d.layer d.is ∙ udp_unchecked frame d.layer u.without u.has test)

pub udp_read : (frame header payload : List ℕ) (cut right : Bool) (o q : Option ℕ) (n len field : ℕ) → IsDatagram frame header payload cut → cut ≡ false → o ≡ tcp_length header payload → is_some o ≡ false
    → q ≡ udp_length header payload → q ≡ Some n → len ≡ udp_total payload → field ≡ word_at payload 6 → len ≤ length payload → (field ≡ 0 → ⊥)
    → right ≡ is_udp_right header (take len payload) → Some right ≡ transport_ok frame
udp_read frame header payload cut right o q n len field d h e absent f there le fe within checked is =
    let u = udp_found frame header payload cut o q n len field d e absent f there le fe in
    let size = ap length d.payload_is in
    let l = u.len_is in
    let whole = sym d.cut_is ∙ h in
    let short = le-ltb (length (payload_in frame d.layer)) (udp_total (payload_in frame d.layer)) (omega arith) in
    let plain = ne_eqb (word_at (payload_in frame d.layer) 6) 0 (λ z. checked (u.field_is ∙ z)) in
    let right_is : right ≡ is_udp_right (header_in frame d.layer) (take (udp_total (payload_in frame d.layer)) (payload_in frame d.layer)) = is ∙ (λ i. is_udp_right (d.header_is i) (take (l i) (d.payload_is i))) in
    ap Some right_is ∙ sym (answer_in frame d.layer d.is ∙ udp_checked frame d.layer whole u.without u.has short plain)
