-- An IPv4 header with another address.
use Rattle.std.proofs.Common.{◌≡◌, ◌≢◌, ℕ, suc, ◌+◌, ◌*◌, ◌/◌, ◌%◌, ◌^◌, ◌<◌, ◌≤◌, List, length, slice_index, nat_le, nat_eq, not, ◌&&◌, ap, sym, ◌∙◌, arith}
use Rattle.std.proofs.lemmas.List.{get_or-drop}
use Rattle.brick_spec.specs.Bytes.{IsBytes}
use Rattle.brick_spec.specs.Checksum.{adjusted}
use Rattle.brick_spec.specs.Header.{word_at, with_word, high_word, low_word}
use Rattle.brick_spec.specs.Layer.{source_of, destination_of, carries}
use Rattle.brick_spec.specs.Edit.{ip4_edited, with_source, with_destination}
use Rattle.brick_spec.proofs.Words.{double, word_at-with_word, word_at-with_other, length-with_word}
use Rattle.tcp_udp.proofs.Edits.{byte-before}
use Rattle.tcp_udp.proofs.Right.{IsReaddressed, number-words, addresses-sum}

-- ONE WORD

pub length-ip4_edited : (h : List ℕ) (at w : ℕ) → 12 ≤ length h → at + 2 ≤ length h → length (ip4_edited h at w) ≡ length h
length-ip4_edited h at w long within =
    let kept = length-with_word h at w within in
    let kept' = length-with_word (with_word h at w) 10 (adjusted (word_at h 10) (word_at h at) w) (omega arith) in
    kept' ∙ kept

-- a byte before the word and the checksum
pub byte-edited : (h : List ℕ) (at w k : ℕ) → 12 ≤ length h → at + 2 ≤ length h → k < at → k < 10 → slice_index (ip4_edited h at w) k ≡ slice_index h k
byte-edited h at w k long within low low' =
    let kept = length-with_word h at w within in
    byte-before (with_word h at w) 10 (adjusted (word_at h 10) (word_at h at) w) k low' (omega arith) ∙ byte-before h at w k low (omega arith)

word-edited-same : (h : List ℕ) (k w : ℕ) → w < 2 ^ 16 → k ≢ 5 → 12 ≤ length h → double k + 2 ≤ length h → word_at (ip4_edited h (double k) w) (double k) ≡ w
word-edited-same h k w low other long within =
    let kept = length-with_word h (double k) w within in
    word_at-with_other 5 k (adjusted (word_at h 10) (word_at h (double k)) w) (with_word h (double k) w) (λ e. other (sym e)) (omega arith) (omega arith) ∙ word_at-with_word k w h low within

word-edited-other : (h : List ℕ) (k w i : ℕ) → k ≢ i → 5 ≢ i → 12 ≤ length h → double k + 2 ≤ length h → double i + 2 ≤ length h → word_at (ip4_edited h (double k) w) (double i) ≡ word_at h (double i)
word-edited-other h k w i other other' long within there =
    let kept = length-with_word h (double k) w within in
    word_at-with_other 5 i (adjusted (word_at h 10) (word_at h (double k)) w) (with_word h (double k) w) other' (omega arith) (omega arith) ∙ word_at-with_other k i w h other within there

-- TWO WORDS

-- the header with two words in a row edited, from twice k on
abbrev pub two_edited : List ℕ → ℕ → ℕ → ℕ → List ℕ
two_edited h k v w = ip4_edited (ip4_edited h (double k) v) (double (suc k)) w

-- the two words, the other words of the addresses, the bytes in front, and the length
pub record IsTwoEdited (h h' : List ℕ) (k v w : ℕ) : Type 0 where
  pub long : length h' ≡ length h
  pub bytes : (i : ℕ) → i < 10 → slice_index h' i ≡ slice_index h i
  pub first : word_at h' (double k) ≡ v
  pub second : word_at h' (double (suc k)) ≡ w
  pub others : (i : ℕ) → k ≢ i → suc k ≢ i → 5 ≢ i → double i + 2 ≤ length h → word_at h' (double i) ≡ word_at h (double i)

pub two_edited_is : (h : List ℕ) (k v w : ℕ) → v < 2 ^ 16 → w < 2 ^ 16 → 12 ≤ length h → 6 ≤ k → 10 ≤ double k → double (suc k) + 2 ≤ length h → IsTwoEdited h (two_edited h k v w) k v w
two_edited_is h k v w low low' long behind place within =
    let x = ip4_edited h (double k) v in
    let kept = length-ip4_edited h (double k) v long (omega arith) in
    record {
      long = length-ip4_edited x (double (suc k)) w (omega arith) (omega arith) ∙ kept;
      bytes = λ i small. byte-edited x (double (suc k)) w i (omega arith) (omega arith) (omega arith) small ∙ byte-edited h (double k) v i long (omega arith) (omega arith) small;
      first = word-edited-other x (suc k) w k (omega arith) (omega arith) (omega arith) (omega arith) (omega arith) ∙ word-edited-same h k v low (omega arith) long (omega arith);
      second = word-edited-same x (suc k) w low' (omega arith) (omega arith) (omega arith);
      others = λ i a b c there. word-edited-other x (suc k) w i b c (omega arith) (omega arith) (omega arith) ∙ word-edited-other h k v i a c long (omega arith) there;
    }

-- ADDRESSES

-- a word by its bytes
word_bytes : (h h' : List ℕ) (at : ℕ) → slice_index h' at ≡ slice_index h at → slice_index h' (at + 1) ≡ slice_index h (at + 1) → word_at h' at ≡ word_at h at
word_bytes h h' at a b =
    let plain : at + 0 ≡ at = omega arith in
    let high = get_or-drop at h' 0 0 ∙ (ap (slice_index h') plain ∙ (a ∙ (sym (ap (slice_index h) plain) ∙ sym (get_or-drop at h 0 0)))) in
    let low = get_or-drop at h' 1 0 ∙ (b ∙ sym (get_or-drop at h 1 0)) in
    λ i. high i * 256 + (low i * 1 + 0)

-- what of a header does not depend on its addresses
pub record IsSameButAddresses (h h' : List ℕ) : Type 0 where
  pub long : length h' ≡ length h
  pub first : slice_index h' 0 ≡ slice_index h 0
  pub total : word_at h' 2 ≡ word_at h 2
  pub carried : (protocol : ℕ) → carries protocol h' ≡ carries protocol h

same_but_addresses : (h h' : List ℕ) → length h' ≡ length h → ((i : ℕ) → i < 10 → slice_index h' i ≡ slice_index h i) → IsSameButAddresses h h'
same_but_addresses h h' long bytes =
    let fragment = word_bytes h h' 6 (bytes 6 (omega arith)) (bytes 7 (omega arith)) in
    let protocol_is = bytes 9 (omega arith) in
    record {
      long = long;
      first = bytes 0 (omega arith);
      total = word_bytes h h' 2 (bytes 2 (omega arith)) (bytes 3 (omega arith));
      carried = λ protocol i. nat_le 20 (long i) && (nat_eq (protocol_is i) protocol && (nat_eq (fragment i % 8192) 0 && not (nat_eq (fragment i / 8192 % 2) 1)));
    }

pub with_source_same : (h : List ℕ) (a : ℕ) → 20 ≤ length h → a < 2 ^ 32 → IsSameButAddresses h (with_source h a)
with_source_same h a long small =
    let is = two_edited_is h 6 (high_word a) (low_word a) (omega arith) (omega arith) (omega arith) (omega arith) (omega arith) (omega arith) in
    same_but_addresses h (with_source h a) is.long is.bytes

pub with_destination_same : (h : List ℕ) (a : ℕ) → 20 ≤ length h → a < 2 ^ 32 → IsSameButAddresses h (with_destination h a)
with_destination_same h a long small =
    let is = two_edited_is h 8 (high_word a) (low_word a) (omega arith) (omega arith) (omega arith) (omega arith) (omega arith) (omega arith) in
    same_but_addresses h (with_destination h a) is.long is.bytes

pub with_source_readdressed : (h : List ℕ) (a : ℕ) → IsBytes h → 20 ≤ length h → a < 2 ^ 32 → IsReaddressed h (with_source h a) (source_of h) a
with_source_readdressed h a fits long small =
    let is = two_edited_is h 6 (high_word a) (low_word a) (omega arith) (omega arith) (omega arith) (omega arith) (omega arith) (omega arith) in
    let len = is.long in
    let w₁ = is.first in
    let w₂ = is.second in
    let w₃ = is.others 8 (omega arith) (omega arith) (omega arith) (omega arith) in
    let w₄ = is.others 9 (omega arith) (omega arith) (omega arith) (omega arith) in
    let was = addresses-sum h long in
    let now = addresses-sum (with_source h a) (omega arith) in
    let old = number-words h 12 fits in
    let high = old.0 in
    let low = old.1 in
    record { outer = omega arith; protocol = is.bytes 9 (omega arith); sum = omega arith; least = omega arith; small = old.2 }

pub with_destination_readdressed : (h : List ℕ) (a : ℕ) → IsBytes h → 20 ≤ length h → a < 2 ^ 32 → IsReaddressed h (with_destination h a) (destination_of h) a
with_destination_readdressed h a fits long small =
    let is = two_edited_is h 8 (high_word a) (low_word a) (omega arith) (omega arith) (omega arith) (omega arith) (omega arith) (omega arith) in
    let len = is.long in
    let w₁ = is.first in
    let w₂ = is.second in
    let w₃ = is.others 6 (omega arith) (omega arith) (omega arith) (omega arith) in
    let w₄ = is.others 7 (omega arith) (omega arith) (omega arith) (omega arith) in
    let was = addresses-sum h long in
    let now = addresses-sum (with_destination h a) (omega arith) in
    let old = number-words h 16 fits in
    let high = old.0 in
    let low = old.1 in
    record { outer = omega arith; protocol = is.bytes 9 (omega arith); sum = omega arith; least = omega arith; small = old.2 }
