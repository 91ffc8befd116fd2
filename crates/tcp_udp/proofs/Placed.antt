-- The places that are read.
use Rattle.std.proofs.Common.{◌≡◌, ℕ, ◌+◌, ◌-◌, ◌%◌, List, length, take, Bool, true, false, Option, Some, None, if◌then◌else◌, refl, ap, sym, subst, ◌∙◌, arith, length-take-le}
use Rattle.brick_spec.specs.Layer.{Layer, header_in, payload_in, ip4_layer, has_tcp, tcp_length, tcp_header_bytes, tcp_layer_in, has_udp, udp_length, udp_extent, udp_layer_in}
use Rattle.eth_ip.specs.LayerLaws.{some_if}
use Rattle.tcp_udp.specs.Datagrams.{IsDatagram}
use Rattle.tcp_udp.specs.LayerLaws.{has_tcp_says, has_udp_says, udp_extent_fits}
use Rattle.tcp_udp.specs.PlacesIn.{ArePlaces, HasNoPorts}
use Rattle.tcp_udp.specs.declared.places.Transport.TheVariants.{Tcp, Udp}
use Rattle.tcp_udp.proofs.Segments.{tcp_at, tcp_there, tcp_absent, udp_at, udp_there, udp_absent}

-- two layers are one
pub one_layer : (frame : List ℕ) (l m : Layer) → ip4_layer frame ≡ Some l → ip4_layer frame ≡ Some m → l ≡ m
one_layer frame l m h k = let both : Some l ≡ Some m = sym h ∙ k in cc

no_length : (b : Bool) (n : ℕ) → (if b then Some n else None) ≡ None → b ≡ false
no_length true n h = cc
no_length false n h = refl

-- a frame without IPv4
pub no_ip4 : (frame : List ℕ) → ip4_layer frame ≡ None → HasNoPorts frame
no_ip4 frame none l h = let both : ◌≡◌ {A = Option Layer} None (Some l) = sym none ∙ h in cc

-- a datagram without either
pub no_transport : (frame header payload : List ℕ) (cut : Bool) → IsDatagram frame header payload cut → tcp_length header payload ≡ None → udp_length header payload ≡ None → HasNoPorts frame
no_transport frame header payload cut d tcp udp l h =
    let without : has_tcp (header_in frame d.layer) (payload_in frame d.layer) ≡ false = (λ i. has_tcp (sym d.header_is i) (sym d.payload_is i)) ∙ no_length (has_tcp header payload) (tcp_header_bytes payload) tcp in
    let neither : has_udp (header_in frame d.layer) (payload_in frame d.layer) ≡ false = (λ i. has_udp (sym d.header_is i) (sym d.payload_is i)) ∙ no_length (has_udp header payload) 8 udp in
    subst (λ (m : Layer). (tcp_layer_in frame m ≡ None) × (udp_layer_in frame m ≡ None)) (one_layer frame d.layer l d.is h)
    (tcp_absent frame d.layer without, udp_absent frame d.layer neither)

pub tcp_placed : (frame header payload : List ℕ) (cut : Bool) (n : ℕ) → IsDatagram frame header payload cut → tcp_length header payload ≡ Some n
    → ArePlaces frame (record { transport = Tcp; ip4 = 14; header = 14 + length header; payload = 14 + length header + n; end = 14 + length header + length payload })
tcp_placed frame header payload cut n d h =
    let given = some_if (has_tcp header payload) (tcp_header_bytes payload) n h in
    let says = has_tcp_says header payload given.0 in
    let has : has_tcp (header_in frame d.layer) (payload_in frame d.layer) ≡ true = (λ i. has_tcp (sym d.header_is i) (sym d.payload_is i)) ∙ given.0 in
    let n_is : tcp_header_bytes (payload_in frame d.layer) ≡ n = ap tcp_header_bytes (sym d.payload_is) ∙ given.1 in
    let size : length (payload_in frame d.layer) ≡ length payload = ap length (sym d.payload_is) in
    let e = given.1 in
    let m = d.middle in
    let s = d.starts in
    let l = d.long in
    let t = says.there in
    let g = says.long in
    let w = d.within in
    let v = d.even in
    record {
      layer = d.layer;
      is = d.is;
      inner = tcp_at frame d.layer;
      has = tcp_there frame d.layer has;
      starts = s;
      middle = m;
      inner_starts = m;
      inner_middle = omega arith;
      inner_end = omega arith;
      long = omega arith;
      even = let same : 14 + length header - 14 ≡ length header = omega arith in ap (λ k. k % 2) same ∙ v;
      inner_long = omega arith;
      ends = omega arith;
      within = w;
    }

pub udp_placed : (frame header payload : List ℕ) (cut : Bool) (n end : ℕ) → IsDatagram frame header payload cut → tcp_length header payload ≡ None → udp_length header payload ≡ Some n
    → end ≡ udp_extent (take n payload) (length payload)
    → ArePlaces frame (record { transport = Udp; ip4 = 14; header = 14 + length header; payload = 14 + length header + n; end = 14 + length header + end })
udp_placed frame header payload cut n end d none h e =
    let given = some_if (has_udp header payload) 8 n h in
    let says = has_udp_says header payload given.0 in
    let without : has_tcp (header_in frame d.layer) (payload_in frame d.layer) ≡ false = (λ i. has_tcp (sym d.header_is i) (sym d.payload_is i)) ∙ no_length (has_tcp header payload) (tcp_header_bytes payload) none in
    let has : has_udp (header_in frame d.layer) (payload_in frame d.layer) ≡ true = (λ i. has_udp (sym d.header_is i) (sym d.payload_is i)) ∙ given.0 in
    let eight = given.1 in
    let there = says.least in
    let cut8 = length-take-le n payload (omega arith) in
    let fits = udp_extent_fits (take n payload) (length payload) (omega arith) in
    let f0 = fits.0 in
    let f1 = fits.1 in
    let end_is : udp_extent (take 8 (payload_in frame d.layer)) (length (payload_in frame d.layer)) ≡ end = (λ i. udp_extent (take (eight i) (sym d.payload_is i)) (length (sym d.payload_is i))) ∙ sym e in
    let m = d.middle in
    let s = d.starts in
    let l = d.long in
    let w = d.within in
    let v = d.even in
    record {
      layer = d.layer;
      is = d.is;
      inner = udp_at frame d.layer;
      has = (tcp_absent frame d.layer without, udp_there frame d.layer has);
      starts = s;
      middle = m;
      inner_starts = m;
      inner_middle = omega arith;
      inner_end = omega arith;
      long = omega arith;
      even = let same : 14 + length header - 14 ≡ length header = omega arith in ap (λ k. k % 2) same ∙ v;
      inner_long = omega arith;
      ends = omega arith;
      within = omega arith;
    }
