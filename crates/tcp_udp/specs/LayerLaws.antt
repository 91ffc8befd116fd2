-- What holds of the lengths and ends of the TCP and the UDP layer.
use Rattle.std.specs.Prelude.{ℕ, ◌≡◌, ◌*◌, ◌/◌, ◌≤◌, true, List, length, take, slice_index, Some, None, if◌then◌else◌}
use Rattle.std.proofs.Common.{arith, ap, ◌∙◌}
use Rattle.std.proofs.lemmas.Bool.{and_parts, and_from, leb-true, le-leb}
use Rattle.std.proofs.lemmas.List.{get_or-take, length-take-le}
use Rattle.brick_spec.specs.Layer.{carries, tcp_header_bytes, has_tcp, tcp_length, udp_total, has_udp, udp_length}
use Rattle.brick_spec.specs.Layer.{udp_extent}
use Rattle.brick_base.specs.Layering.{IsLengthWithin}
use Rattle.eth_ip.specs.LayerLaws.{word_at-take, some_if, within_if}

-- TCP

-- what the test of a header says
pub record HasTcp (outer rest : List ℕ) : Type 0 where
  pub carried : carries 6 outer ≡ true
  pub least : 20 ≤ length rest
  pub long : 20 ≤ tcp_header_bytes rest
  pub there : tcp_header_bytes rest ≤ length rest

pub has_tcp_says : (outer rest : List ℕ) → has_tcp outer rest ≡ true → HasTcp outer rest
has_tcp_says outer rest h =
    let h₁ = and_parts _ _ h in
    let h₂ = and_parts _ _ h₁.1 in
    let h₃ = and_parts _ _ h₂.1 in
    record { carried = h₁.0; least = leb-true _ _ h₂.0; long = leb-true _ _ h₃.0; there = leb-true _ _ h₃.1 }

pub has_tcp_given : (outer rest : List ℕ) → HasTcp outer rest → has_tcp outer rest ≡ true
has_tcp_given outer rest h =
    and_from _ _ h.carried (and_from _ _ (le-leb _ _ h.least) (and_from _ _ (le-leb _ _ h.long) (le-leb _ _ h.there)))

-- where a length is given, the layer is there, and the length is its header's
pub tcp_length_says : (outer rest : List ℕ) (n : ℕ) → tcp_length outer rest ≡ Some n
    → HasTcp outer rest × (tcp_header_bytes rest ≡ n)
tcp_length_says outer rest n h =
    let given = some_if (has_tcp outer rest) (tcp_header_bytes rest) n h in
    (has_tcp_says outer rest given.0, given.1)

pub tcp_length_fits : (outer rest : List ℕ) → IsLengthWithin 20 (tcp_length outer rest) (length rest)
tcp_length_fits outer rest = within_if (has_tcp outer rest) 20 (tcp_header_bytes rest) (length rest)
    (λ h. let says = has_tcp_says outer rest h in (says.long, says.there))

pub tcp_length-take : (outer rest : List ℕ) (n : ℕ) → tcp_length outer rest ≡ Some n
    → tcp_length outer (take n rest) ≡ Some n
tcp_length-take outer rest n h =
    let given = tcp_length_says outer rest n h in
    let says = given.0 in
    let n_is = given.1 in
    let l₁ = says.long in
    let l₂ = says.there in
    let offset : slice_index (take n rest) 12 ≡ slice_index rest 12 = get_or-take n rest 12 0 (omega arith) in
    let cut : length (take n rest) ≡ n = length-take-le n rest (omega arith) in
    let long : tcp_header_bytes (take n rest) ≡ tcp_header_bytes rest = ap (λ b. b / 16 * 4) offset in
    let test : has_tcp outer (take n rest) ≡ true = has_tcp_given outer (take n rest) (record {
      carried = says.carried;
      least = omega arith;
      long = omega arith;
      there = omega arith;
    }) in
    ap (λ b. if b then Some (tcp_header_bytes (take n rest)) else None) test ∙ ap Some (long ∙ n_is)

-- UDP

-- what the test of a header says
pub record HasUdp (outer rest : List ℕ) : Type 0 where
  pub carried : carries 17 outer ≡ true
  pub least : 8 ≤ length rest
  pub total : 8 ≤ udp_total rest

pub has_udp_says : (outer rest : List ℕ) → has_udp outer rest ≡ true → HasUdp outer rest
has_udp_says outer rest h =
    let h₁ = and_parts _ _ h in
    let h₂ = and_parts _ _ h₁.1 in
    record { carried = h₁.0; least = leb-true _ _ h₂.0; total = leb-true _ _ h₂.1 }

pub has_udp_given : (outer rest : List ℕ) → HasUdp outer rest → has_udp outer rest ≡ true
has_udp_given outer rest h = and_from _ _ h.carried (and_from _ _ (le-leb _ _ h.least) (le-leb _ _ h.total))

-- where a length is given, the layer is there, and the length is 8
pub udp_length_says : (outer rest : List ℕ) (n : ℕ) → udp_length outer rest ≡ Some n → HasUdp outer rest × (8 ≡ n)
udp_length_says outer rest n h =
    let given = some_if (has_udp outer rest) 8 n h in
    (has_udp_says outer rest given.0, given.1)

pub udp_length_fits : (outer rest : List ℕ) → IsLengthWithin 8 (udp_length outer rest) (length rest)
udp_length_fits outer rest = within_if (has_udp outer rest) 8 8 (length rest)
    (λ h. let l = (has_udp_says outer rest h).least in (omega arith, l))

pub udp_length-take : (outer rest : List ℕ) (n : ℕ) → udp_length outer rest ≡ Some n
    → udp_length outer (take n rest) ≡ Some n
udp_length-take outer rest n h =
    let given = udp_length_says outer rest n h in
    let says = given.0 in
    let n_is = given.1 in
    let l₁ = says.least in
    let l₂ = says.total in
    let total : udp_total (take n rest) ≡ udp_total rest = word_at-take rest n 4 (omega arith) in
    let cut : length (take n rest) ≡ n = length-take-le n rest (omega arith) in
    let test : has_udp outer (take n rest)
    ≡ true = has_udp_given outer (take n rest) (record {
      carried = says.carried;
      least = omega arith;
      total = omega arith;
    }) in
    ap (λ b. if b then Some 8 else None) test ∙ ap Some n_is

pub udp_extent_fits : (header : List ℕ) (room : ℕ) → length header ≤ room
    → (length header ≤ udp_extent header room) × (udp_extent header room ≤ room)
udp_extent_fits header room h = (omega arith, omega arith)
