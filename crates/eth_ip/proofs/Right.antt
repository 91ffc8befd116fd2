-- The checksum of an IPv4 header, and what edits do to it.
use Rattle.std.proofs.Common.{◌≡◌, ◌≢◌, ℕ, zero, ◌+◌, ◌-◌, ◌*◌, ◌^◌, ◌<◌, ◌≤◌, List, length, take, drop, slice_index, Some, ap, sym, ◌∙◌, arith, length-take-le, length-drop}
use Rattle.std.proofs.lemmas.List.{get_or-take, get_or-drop}
use Rattle.brick_spec.specs.Bytes.{IsBytes}
use Rattle.brick_spec.specs.Checksum.{folded, sum_of_words, checksum_of, adjusted}
use Rattle.brick_spec.specs.Header.{word_at, with_word, high_word, low_word}
use Rattle.brick_spec.specs.Edit.{ip4_edited, ip4_checksum, IsIp4Right, protocol_of}
use Rattle.brick_spec.specs.Layer.{Layer, header_in, ip4_layer}
use Rattle.eth_ip.specs.RightLaws.{StaysRight}
use Rattle.eth_ip.proofs.FrameLayers.{ip4_layer_says}
use Rattle.brick_spec.proofs.ByteLists.{IsBytes-range, IsBytes-with_word}
use Rattle.brick_spec.proofs.Words.{double, word_small, sum-without, word_le_sum, word_at-with_word, with_word-again, word_at-with_other, length-with_word, sum-edited}
use Rattle.brick_spec.proofs.Checksums.{folded_le, folded_again, adjusted-sum}

-- the sums of the two parts around the checksum make the header's without it
pub checksum-apart : (h front back : List ℕ) → 12 ≤ length h → front ≡ take 10 h → back ≡ drop 12 h → adjusted (checksum_of front) 65535 (65535 - checksum_of back) ≡ ip4_checksum h
checksum-apart h front back long f b =
    let s₁ = sum_of_words front in
    let s₂ = sum_of_words back in
    let l₁ = folded_le s₁ in
    let l₂ = folded_le s₂ in
    let e₁ = ap sum_of_words f in
    let e₂ = ap sum_of_words b in
    let apart = sum-without 5 h long in
    let plain : (65535 - (65535 - folded s₁)) + (65535 - 65535) + (65535 - (65535 - folded s₂)) ≡ folded s₁ + folded s₂ = omega arith in
    let turned : s₁ + folded s₂ ≡ folded s₂ + s₁ = omega arith in
    let whole : s₂ + s₁ ≡ sum_of_words (with_word h 10 0) = omega arith in
    ap (λ n. 65535 - n) (ap folded plain ∙ (folded_again s₁ (folded s₂) ∙ (ap folded turned ∙ (folded_again s₂ s₁ ∙ ap folded whole))))

-- What the law asks of a header: it is bytes, it is long enough, and its version is 4.
pub record IsHeader (h : List ℕ) : Type 0 where
  pub fits : IsBytes h
  pub long : 20 ≤ length h
  pub version : 16384 ≤ word_at h 0

-- an edit of a word makes a header again, where its first word still has the version 4
header-edited : (k w : ℕ) (h : List ℕ) → double k + 2 ≤ length h → IsHeader h → 16384 ≤ word_at (with_word h (double k) w) 0 → IsHeader (ip4_edited h (double k) w)
header-edited k w h within is version =
    let x = with_word h (double k) w in
    let long = is.long in
    let new = adjusted (word_at h 10) (word_at h (double k)) w in
    let len : length x ≡ length h = length-with_word h (double k) w within in
    let len' : length (with_word x 10 new) ≡ length x = length-with_word x 10 new (omega arith) in
    let first : word_at (with_word x 10 new) 0 ≡ word_at x 0 = word_at-with_other 5 0 new x (omega arith) (omega arith) (omega arith) in
    record {
      fits = IsBytes-with_word x 10 new (IsBytes-with_word h (double k) w is.fits);
      long = omega arith;
      version = omega arith;
    }

-- after an edit of a word other than the checksum, a right checksum is right, where the first word still has the version 4
right-edited : (k w : ℕ) (h : List ℕ) → w < 2 ^ 16 → k ≢ 5 → double k + 2 ≤ length h → IsHeader h → 16384 ≤ word_at (with_word h (double k) w) 0 → IsIp4Right h → IsIp4Right (ip4_edited h (double k) w)
right-edited k w h low other within is version right =
    let x = with_word h (double k) w in
    let long = is.long in
    let len : length x ≡ length h = length-with_word h (double k) w within in
    let len' : length (with_word x 10 0) ≡ length x = length-with_word x 10 0 (omega arith) in
    let new = adjusted (word_at h 10) (word_at h (double k)) w in
    let sums = sum-edited 5 k w h low other (omega arith) within in
    let first : word_at (with_word x 10 0) 0 ≡ word_at x 0 = word_at-with_other 5 0 0 x (omega arith) (omega arith) (omega arith) in
    let least = word_le_sum 0 (with_word x 10 0) (omega arith) in
    let value : new ≡ 65535 - folded (sum_of_words (with_word x 10 0)) =
    adjusted-sum (sum_of_words (with_word h 10 0)) (sum_of_words (with_word x 10 0)) (word_at h 10) (word_at h (double k)) w (word_small h (double k) is.fits) sums.1 sums.0 (omega arith) right in
    word_at-with_word 5 new x (omega arith) (omega arith) ∙ (value ∙ ap checksum_of (sym (with_word-again 5 new 0 x (omega arith))))

-- a word behind the first leaves the version
version-kept : (k w : ℕ) (h : List ℕ) → zero ≢ k → double k + 2 ≤ length h → IsHeader h → 16384 ≤ word_at (with_word h (double k) w) 0
version-kept k w h other within is =
    let long = is.long in
    let v = is.version in
    let first : word_at (with_word h (double k) w) 0 ≡ word_at h 0 = word_at-with_other k 0 w h (λ e. other (sym e)) within (omega arith) in
    omega arith

-- two words in a row, neither the first nor the checksum
right-edited-twice : (j k v w : ℕ) (h : List ℕ) → v < 2 ^ 16 → w < 2 ^ 16 → 5 < j → 5 < k → double j + 2 ≤ length h → double k + 2 ≤ length h → IsHeader h → IsIp4Right h
    → IsIp4Right (ip4_edited (ip4_edited h (double j) v) (double k) w)
right-edited-twice j k v w h low low' jp kp inj ink is right =
    let kept = version-kept j v h (omega arith) inj is in
    let x = ip4_edited h (double j) v in
    let is' = header-edited j v h inj is kept in
    let len : length (with_word h (double j) v) ≡ length h = length-with_word h (double j) v inj in
    let long = is.long in
    let len' : length x ≡ length (with_word h (double j) v) = length-with_word (with_word h (double j) v) 10 _ (omega arith) in
    let within : double k + 2 ≤ length x = omega arith in
    right-edited k w x low' (omega arith) within is' (version-kept k w x (omega arith) within is') (right-edited j v h low (omega arith) inj is kept right)

pub stays_right : (h : List ℕ) → IsHeader h → IsIp4Right h → StaysRight h
stays_right h is right =
    let long = is.long in
    record {
      tos = λ v low.
          let b = is.version in
          let fit = is.fits 1 in
          let w = slice_index h 0 * 256 + v in
          let small = is.fits 0 in
          let set : word_at (with_word h 0 w) 0 ≡ w = word_at-with_word 0 w h (omega arith) (omega arith) in
          right-edited 0 w h (omega arith) (omega arith) (omega arith) is (omega arith) right;
      ttl = λ v low.
          let fit = is.fits 9 in
          let w = v * 256 + protocol_of h in
          right-edited 4 w h (omega arith) (omega arith) (omega arith) is (version-kept 4 w h (omega arith) (omega arith) is) right;
      source = λ v low. right-edited-twice 6 7 (high_word v) (low_word v) h (omega arith) (omega arith) (omega arith) (omega arith) (omega arith) (omega arith) is right;
      destination = λ v low. right-edited-twice 8 9 (high_word v) (low_word v) h (omega arith) (omega arith) (omega arith) (omega arith) (omega arith) (omega arith) is right;
      total = λ v low.
          let x = with_word h 2 v in
          let len : length x ≡ length h = length-with_word h 2 v (omega arith) in
          let new = ip4_checksum x in
          word_at-with_word 5 new x (omega arith) (omega arith) ∙ ap checksum_of (sym (with_word-again 5 new 0 x (omega arith)));
    }

-- the header of the IPv4 layer of a frame of bytes
pub layer_header : (frame : List ℕ) (l : Layer) → IsBytes frame → ip4_layer frame ≡ Some l → IsHeader (header_in frame l)
layer_header frame l fits h =
    let says = ip4_layer_says frame l h in
    let s = says.start in
    let v = says.version in
    let m = says.long in
    let t = says.there in
    let bytes = IsBytes-range frame l.start l.middle fits in
    let behind = length-drop l.start frame in
    let long : length (header_in frame l) ≡ l.middle - l.start = length-take-le (l.middle - l.start) (drop l.start frame) (omega arith) in
    let first : slice_index (header_in frame l) 0 ≡ slice_index frame 14 =
    get_or-take (l.middle - l.start) (drop l.start frame) 0 0 (omega arith) ∙ (get_or-drop l.start frame 0 0 ∙ ap (λ k. slice_index frame k) (omega arith)) in
    record { fits = bytes; long = omega arith; version = omega arith }
