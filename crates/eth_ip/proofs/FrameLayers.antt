-- What a frame that has the IPv4 layer looks like, by its bytes.
use Rattle.std.proofs.Common.{◌≡◌, ℕ, ◌+◌, ◌-◌, ◌*◌, ◌/◌, ◌%◌, ◌≤◌, List, length, take, drop, slice_index, get_or, nat_le, Bool, true, false, Option, Some, None, if◌then◌else◌, min, refl, ap, sym, ◌∙◌, arith, length-take-le, length-drop}
use Rattle.std.specs.Prelude.{option_map, option_and_then}
use Rattle.std.proofs.lemmas.Bool.{eqb-true, eq-eqb, cond-true, le-leb}
use Rattle.std.proofs.lemmas.List.{take_all, get_or-drop}
use Rattle.brick_spec.specs.Header.{word_at}
use Rattle.brick_spec.specs.Layer.{Layer, payload_in, ethernet_layer, ip4_length, ip4_header_bytes, ip4_total, ip4_extent, ip4_layer_in, ip4_layer}
use Rattle.eth_ip.specs.LayerLaws.{ip4_length_says, has_ip4_given, word_at-take}

-- the Ethernet layer of a frame
abbrev pub ethernet_at : List ℕ → Layer
ethernet_at frame = record { start = 0; middle = 14; end = length frame }

-- a frame that has the IPv4 layer l, by its bytes
pub record HasIp4Layer (frame : List ℕ) (l : Layer) : Type 0 where
  pub kind : word_at frame 12 ≡ 0x0800
  pub version : slice_index frame 14 / 16 ≡ 4
  pub start : l.start ≡ 14
  pub middle : l.middle ≡ 14 + slice_index frame 14 % 16 * 4
  pub end : l.end ≡ min (14 + word_at frame 16) (length frame)
  pub long : 34 ≤ l.middle
  pub there : l.middle ≤ length frame
  pub total : l.middle ≤ 14 + word_at frame 16

-- a word and a byte behind a place
pub word_at-drop : (bytes : List ℕ) (n at : ℕ) → word_at (drop n bytes) at ≡ word_at bytes (n + at)
word_at-drop bytes n at =
    let same = λ (k : ℕ). get_or-drop at (drop n bytes) k 0 ∙ (get_or-drop n bytes (at + k) 0 ∙ (ap (λ j. get_or bytes j 0) (let e : n + (at + k) ≡ (n + at) + k = omega arith in e) ∙ sym (get_or-drop (n + at) bytes k 0))) in
    let high = same 0 in
    let low = same 1 in
    λ i. high i * 256 + (low i * 1 + 0)

-- the payload of the Ethernet layer is what stands behind its header
pub ethernet_payload : (frame : List ℕ) → payload_in frame (ethernet_at frame) ≡ drop 14 frame
ethernet_payload frame = take_all (length frame - 14) (drop 14 frame) (omega (arith, length-drop 14 frame))

ethernet_cases : (b : Bool) (frame : List ℕ) (f : Layer → Option Layer) (l : Layer)
    → option_and_then f (option_map (λ n. record { start = 0; middle = n; end = length frame }) (if b then Some 14 else None)) ≡ Some l → f (ethernet_at frame) ≡ Some l
ethernet_cases true frame f l h = h
ethernet_cases false frame f l h = cc

mapped_from : (o : Option ℕ) (f : ℕ → Layer) (l : Layer) → option_map f o ≡ Some l → (n : ℕ) × (o ≡ Some n) × (f n ≡ l)
mapped_from None f l h = cc
mapped_from (Some n) f l h = (n, refl, cc)

-- where the payload of an IPv4 header of n bytes at the start of rest ends
pub extent_is : (rest : List ℕ) (n : ℕ) → 20 ≤ n → n ≤ length rest → n ≤ ip4_total rest → ip4_extent (take n rest) (length rest) ≡ min (ip4_total rest) (length rest)
extent_is rest n least there total =
    let cut : length (take n rest) ≡ n = length-take-le n rest there in
    let word : ip4_total (take n rest) ≡ ip4_total rest = word_at-take rest n 2 (omega arith) in
    let given : (if nat_le 4 (length (take n rest)) then ip4_total (take n rest) else 0) ≡ ip4_total (take n rest) = cond-true _ _ 0 (le-leb 4 (length (take n rest)) (omega arith)) in
    omega arith

pub ip4_layer_says : (frame : List ℕ) (l : Layer) → ip4_layer frame ≡ Some l → HasIp4Layer frame l
ip4_layer_says frame l h =
    let rest = payload_in frame (ethernet_at frame) in
    let inner : ip4_layer_in frame (ethernet_at frame) ≡ Some l = ethernet_cases (nat_le 14 (length frame)) frame (ip4_layer_in frame) l h in
    let place : ℕ → Layer = λ n. record { start = 14; middle = 14 + n; end = 14 + ip4_extent (take n rest) (length rest) } in
    let from = mapped_from (ip4_length (take 14 frame) rest) place l inner in
    let n = from.0 in
    let given = ip4_length_says (take 14 frame) rest n from.1 in
    let says = given.0 in
    let n_is = given.1 in
    let behind = ethernet_payload frame in
    let first : slice_index rest 0 ≡ slice_index frame 14 = ap (λ xs. slice_index xs 0) behind ∙ get_or-drop 14 frame 0 0 in
    let total : ip4_total rest ≡ word_at frame 16 = ap ip4_total behind ∙ word_at-drop frame 14 2 in
    let room : length rest ≡ length frame - 14 = ap length behind ∙ length-drop 14 frame in
    let l₁ = says.least in
    let l₂ = says.long in
    let l₃ = says.there in
    let l₄ = says.total in
    let end = extent_is rest n (omega arith) (omega arith) (omega arith) in
    let start_is : 14 ≡ l.start = ap (λ (x : Layer). x.start) from.2 in
    let middle_is : 14 + n ≡ l.middle = ap (λ (x : Layer). x.middle) from.2 in
    let end_is : 14 + ip4_extent (take n rest) (length rest) ≡ l.end = ap (λ (x : Layer). x.end) from.2 in
    record {
      kind = sym (word_at-take frame 14 12 (omega arith)) ∙ eqb-true _ _ says.kind;
      version = ap (λ b. b / 16) (sym first) ∙ eqb-true _ _ says.version;
      start = sym start_is;
      middle = omega arith;
      end = omega arith;
      long = omega arith;
      there = omega arith;
      total = omega arith;
    }

pub ip4_layer_given : (frame : List ℕ) (l : Layer) → HasIp4Layer frame l → ip4_layer frame ≡ Some l
ip4_layer_given frame l h =
    let rest = payload_in frame (ethernet_at frame) in
    let n = ip4_header_bytes rest in
    let behind = ethernet_payload frame in
    let first : slice_index rest 0 ≡ slice_index frame 14 = ap (λ xs. slice_index xs 0) behind ∙ get_or-drop 14 frame 0 0 in
    let total : ip4_total rest ≡ word_at frame 16 = ap ip4_total behind ∙ word_at-drop frame 14 2 in
    let room : length rest ≡ length frame - 14 = ap length behind ∙ length-drop 14 frame in
    let h₁ = h.long in
    let h₂ = h.there in
    let h₃ = h.total in
    let h₄ = h.middle in
    let front : length (take 14 frame) ≡ 14 = length-take-le 14 frame (omega arith) in
    let test = has_ip4_given (take 14 frame) rest (record {
      frame = le-leb 14 (length (take 14 frame)) (omega arith);
      kind = eq-eqb _ _ (word_at-take frame 14 12 (omega arith) ∙ h.kind);
      least = omega arith;
      version = eq-eqb _ _ (ap (λ b. b / 16) first ∙ h.version);
      long = omega arith;
      there = omega arith;
      total = omega arith;
    }) in
    let place : ℕ → Layer = λ n. record { start = 14; middle = 14 + n; end = 14 + ip4_extent (take n rest) (length rest) } in
    let ethernet : ethernet_layer frame ≡ Some (ethernet_at frame) =
    ap (λ b. option_map (λ n. record { start = 0; middle = n; end = length frame }) (if b then Some 14 else None)) (le-leb 14 (length frame) (omega arith)) in
    let extent = extent_is rest n (omega arith) (omega arith) (omega arith) in
    let start : 14 ≡ l.start = sym h.start in
    let middle : 14 + n ≡ l.middle = omega arith in
    let end : 14 + ip4_extent (take n rest) (length rest) ≡ l.end = let e = h.end in omega arith in
    ap (option_and_then (ip4_layer_in frame)) ethernet
    ∙ (ap (λ b. option_map place (if b then Some n else None)) test
    ∙ (λ i. Some (record { start = start i; middle = middle i; end = end i })))

-- The IPv4 layer is there by six bytes and the frame's length.
pub ip4_layer-same : (frame frame' : List ℕ) (l : Layer) → length frame' ≡ length frame → ((k : ℕ) → 12 ≤ k → k ≤ 14 → slice_index frame' k ≡ slice_index frame k)
    → word_at frame' 16 ≡ word_at frame 16 → ip4_layer frame ≡ Some l → ip4_layer frame' ≡ Some l
ip4_layer-same frame frame' l len same total h =
    let says = ip4_layer_says frame l h in
    let s₁ = same 12 (omega arith) (omega arith) in
    let s₂ = same 13 (omega arith) (omega arith) in
    let s₃ = same 14 (omega arith) (omega arith) in
    let k = says.kind in
    let v = says.version in
    let m = says.middle in
    let e = says.end in
    let o = says.long in
    let t = says.there in
    let u = says.total in
    let a₁ = get_or-drop 12 frame 0 0 in
    let a₂ = get_or-drop 12 frame 1 0 in
    let b₁ = get_or-drop 12 frame' 0 0 in
    let b₂ = get_or-drop 12 frame' 1 0 in
    ip4_layer_given frame' l (record {
      kind = omega arith;
      version = omega arith;
      start = says.start;
      middle = omega arith;
      end = omega arith;
      long = o;
      there = omega arith;
      total = omega arith;
    })
