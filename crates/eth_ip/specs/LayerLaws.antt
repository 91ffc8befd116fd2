-- What holds of the lengths and ends of the Ethernet and the IPv4 layer.
use Rattle.std.specs.Prelude.{ℕ, ◌≡◌, ◌+◌, ◌*◌, ◌/◌, ◌%◌, ◌≤◌, ◌<◌, nat_le, nat_eq, Bool, true, false, List, length}
use Rattle.std.specs.Prelude.{take, slice_index, Some, None, if◌then◌else◌, refl}
use Rattle.std.proofs.Common.{arith, ap, sym, ◌∙◌}
use Rattle.std.proofs.lemmas.Bool.{and_parts, and_from, leb-true, le-leb}
use Rattle.std.proofs.lemmas.Bool.Decides.{nat_tests}
use Rattle.std.proofs.lemmas.List.{get_or-take, get_or-drop, length-take-le}
use Rattle.brick_spec.specs.Header.{word_at}
use Rattle.brick_spec.specs.Layer.{ethernet_length, ethernet_type, ip4_version, ip4_header_bytes, ip4_total, has_ip4}
use Rattle.brick_spec.specs.Layer.{ip4_length, ip4_extent}
use Rattle.brick_base.specs.Layering.{IsLengthWithin}

-- a word of the first n bytes is a word of all of them
pub word_at-take : (bytes : List ℕ) (n at : ℕ) → at + 2 ≤ n → word_at (take n bytes) at ≡ word_at bytes at
word_at-take bytes n at h =
    let same = λ (k : ℕ) (low : at + k < n). get_or-drop at (take n bytes) k 0 ∙ (get_or-take n bytes (at
    + k) 0 low ∙ sym (get_or-drop at bytes k 0)) in
    let high = same 0 (omega arith) in
    let low = same 1 (omega arith) in
    λ i. high i * 256 + (low i * 1 + 0)

pub some_if : (b : Bool) (m n : ℕ) → (if b then Some m else None) ≡ Some n → (b ≡ true) × (m ≡ n)
some_if true m n h = (refl, cc)
some_if false m n h = cc

pub within_if : (b : Bool) (least m there : ℕ) → (b ≡ true → (least ≤ m) × (m ≤ there))
    → IsLengthWithin least (if b then Some m else None) there
within_if true least m there h = h refl
within_if false least m there h = tt

-- ETHERNET

pub ethernet_length_fits : (rest : List ℕ) → IsLengthWithin 14 (ethernet_length rest) (length rest)
ethernet_length_fits rest = within_if (nat_le 14 (length rest)) 14 14 (length rest) (λ h. grind (arith, nat_tests))

pub ethernet_length-take : (rest : List ℕ) (n : ℕ) → ethernet_length rest ≡ Some n
    → ethernet_length (take n rest) ≡ Some n
ethernet_length-take rest n h =
    let given = some_if (nat_le 14 (length rest)) 14 n h in
    let long : 14 ≤ length rest = leb-true 14 (length rest) given.0 in
    let e = given.1 in
    let cut : length (take n rest) ≡ n = length-take-le n rest (omega arith) in
    grind (arith, nat_tests)

-- IPV4

-- what the test of a header says
pub record HasIp4 (outer rest : List ℕ) : Type 0 where
  pub frame : nat_le 14 (length outer) ≡ true
  pub kind : nat_eq (ethernet_type outer) 0x0800 ≡ true
  pub least : 20 ≤ length rest
  pub version : nat_eq (ip4_version rest) 4 ≡ true
  pub long : 20 ≤ ip4_header_bytes rest
  pub there : ip4_header_bytes rest ≤ length rest
  pub total : ip4_header_bytes rest ≤ ip4_total rest

pub has_ip4_says : (outer rest : List ℕ) → has_ip4 outer rest ≡ true → HasIp4 outer rest
has_ip4_says outer rest h =
    let h₁ = and_parts _ _ h in
    let h₂ = and_parts _ _ h₁.1 in
    let h₃ = and_parts _ _ h₂.1 in
    let h₄ = and_parts _ _ h₃.1 in
    let h₅ = and_parts _ _ h₄.1 in
    let h₆ = and_parts _ _ h₅.1 in
    record {
      frame = h₁.0;
      kind = h₂.0;
      least = leb-true _ _ h₃.0;
      version = h₄.0;
      long = leb-true _ _ h₅.0;
      there = leb-true _ _ h₆.0;
      total = leb-true _ _ h₆.1;
    }

pub has_ip4_given : (outer rest : List ℕ) → HasIp4 outer rest → has_ip4 outer rest ≡ true
has_ip4_given outer rest h =
    and_from _ _ h.frame
    (and_from _ _ h.kind (and_from _ _ (le-leb _ _ h.least)
    (and_from _ _ h.version
    (and_from _ _ (le-leb _ _ h.long) (and_from _ _ (le-leb _ _ h.there) (le-leb _ _ h.total))))))

-- where a length is given, the layer is there, and the length is its header's
pub ip4_length_says : (outer rest : List ℕ) (n : ℕ) → ip4_length outer rest ≡ Some n
    → HasIp4 outer rest × (ip4_header_bytes rest ≡ n)
ip4_length_says outer rest n h =
    let given = some_if (has_ip4 outer rest) (ip4_header_bytes rest) n h in
    (has_ip4_says outer rest given.0, given.1)

pub ip4_length_fits : (outer rest : List ℕ) → IsLengthWithin 20 (ip4_length outer rest) (length rest)
ip4_length_fits outer rest = within_if (has_ip4 outer rest) 20 (ip4_header_bytes rest) (length rest)
    (λ h. let says = has_ip4_says outer rest h in (says.long, says.there))

pub ip4_length-take : (outer rest : List ℕ) (n : ℕ) → ip4_length outer rest ≡ Some n
    → ip4_length outer (take n rest) ≡ Some n
ip4_length-take outer rest n h =
    let given = ip4_length_says outer rest n h in
    let says = given.0 in
    let n_is = given.1 in
    let l₁ = says.long in
    let l₂ = says.there in
    let l₃ = says.total in
    let first : slice_index (take n rest) 0 ≡ slice_index rest 0 = get_or-take n rest 0 0 (omega arith) in
    let cut : length (take n rest) ≡ n = length-take-le n rest (omega arith) in
    let word : ip4_total (take n rest) ≡ ip4_total rest = word_at-take rest n 2 (omega arith) in
    let long : ip4_header_bytes (take n rest) ≡ ip4_header_bytes rest = ap (λ b. b % 16 * 4) first in
    let test : has_ip4 outer (take n rest) ≡ true = has_ip4_given outer (take n rest) (record {
      frame = says.frame;
      kind = says.kind;
      least = omega arith;
      version = ap (λ b. nat_eq (b / 16) 4) first ∙ says.version;
      long = omega arith;
      there = omega arith;
      total = omega arith;
    }) in
    ap (λ b. if b then Some (ip4_header_bytes (take n rest)) else None) test ∙ ap Some (long ∙ n_is)

pub ip4_extent_fits : (header : List ℕ) (room : ℕ) → length header ≤ room
    → (length header ≤ ip4_extent header room) × (ip4_extent header room ≤ room)
ip4_extent_fits header room h = (omega arith, omega arith)

-- a header has an even number of bytes, at least 20
pub ip4_length_even : (outer rest : List ℕ) (n : ℕ) → ip4_length outer rest ≡ Some n → n % 2 ≡ 0
ip4_length_even outer rest n h = let n_is = (ip4_length_says outer rest n h).1 in omega arith

pub ip4_length_least : (outer rest : List ℕ) (n : ℕ) → ip4_length outer rest ≡ Some n → 20 ≤ n
ip4_length_least outer rest n h =
    let given = ip4_length_says outer rest n h in
    let n_is = given.1 in
    let l = given.0.long in
    omega arith
