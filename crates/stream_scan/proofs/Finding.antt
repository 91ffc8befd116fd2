-- How a search goes on: the needle is sought around the cut before a piece, and then in the piece.
use Rattle.std.proofs.Common.{◌≡◌, ℕ, ◌+◌, ◌-◌, ◌<◌, ◌≤◌, Bool, true, false, List, [], ◌++◌, Option, Some, None, length, take, drop, refl, sym, ◌∙◌, ap, subst, arith, length-drop, take-append-drop}
use Rattle.std.specs.Prelude.{is_some, option_map}
use Rattle.std.proofs.lemmas.List.{length-take}
use Rattle.memchr.specs.Find.{FindsNeedle}
use Rattle.flow_spec.specs.Scan.{first_occurrence}
use Rattle.stream_scan.specs.LastBytes.{last_bytes}
use Rattle.stream_scan.proofs.Occurrences.{Cut, first_finds, finds_one, found_stays, seam_found, piece_found}

module _ (needle : List ℕ) (some : 0 < length needle) (bytes piece : List ℕ) where
  pub stays : (found : Option ℕ) → found ≡ first_occurrence needle bytes → is_some found ≡ true → found ≡ first_occurrence needle (bytes ++ piece)
  stays None e h = cc
  stays (Some k) e h =
      let here : FindsNeedle bytes needle 0 (Some k) = subst (λ (r : Option ℕ). FindsNeedle bytes needle 0 r) (sym e) (first_finds needle some bytes) in
      finds_one needle some (bytes ++ piece) (Some k) (first_occurrence needle (bytes ++ piece)) (found_stays needle some bytes piece k here) (first_finds needle some (bytes ++ piece))

  -- the bytes in front of the last of them
  front : List ℕ
  front = take (length bytes - (length needle - 1)) bytes

  tail : List ℕ
  tail = last_bytes (length needle - 1) bytes

  head : List ℕ
  head = take (length needle - 1) piece

  back : List ℕ
  back = drop (length needle - 1) piece

  cut : Cut needle some bytes piece front tail head back
  unfolding front tail head back
  cut = record {
    before = take-append-drop (length bytes - (length needle - 1)) bytes;
    behind = take-append-drop (length needle - 1) piece;
    far = λ h. omega (arith, length-take (length bytes - (length needle - 1)) bytes, length-drop (length bytes - (length needle - 1)) bytes);
    near = λ h. omega (arith, length-take (length needle - 1) piece, length-drop (length needle - 1) piece);
    short = omega (arith, length-take (length needle - 1) piece);
  }

  front_long : length front ≡ length bytes - length tail
  unfolding front tail
  front_long = omega (arith, length-take (length bytes - (length needle - 1)) bytes, length-drop (length bytes - (length needle - 1)) bytes)

  none_here : (found : Option ℕ) → found ≡ first_occurrence needle bytes → is_some found ≡ false → FindsNeedle bytes needle 0 None
  none_here None e h = subst (λ (r : Option ℕ). FindsNeedle bytes needle 0 r) (sym e) (first_finds needle some bytes)
  none_here (Some k) e h = cc

  -- What the code has read: what was found and the tail, the seam, and the texts that it searched.
  pub record Read (found : Option ℕ) (kept seam text : List ℕ) : Type 0 where
    pub found_is : found ≡ first_occurrence needle bytes
    pub found_none : is_some found ≡ false
    pub kept_is : kept ≡ last_bytes (length needle - 1) bytes
    pub seam_is : seam ≡ kept ++ take (length needle - 1) piece
    pub text_is : text ≡ needle

  module _ (found : Option ℕ) (kept seam text : List ℕ) (r : Read found kept seam text) where
    same_seam : seam ≡ tail ++ head
    unfolding tail head
    same_seam = r.seam_is ∙ ap (λ (l : List ℕ). l ++ take (length needle - 1) piece) r.kept_is

    -- a search of the seam
    of_seam : (o : Option ℕ) → FindsNeedle seam text 0 o → FindsNeedle (tail ++ head) needle 0 o
    of_seam o h = subst (λ (l : List ℕ). FindsNeedle l needle 0 o) same_seam (subst (λ (l : List ℕ). FindsNeedle seam l 0 o) r.text_is h)

    kept_long : length kept ≡ length tail
    unfolding tail
    kept_long = ap length r.kept_is

    pub in_seam : (at : ℕ) → FindsNeedle seam text 0 (Some at) → Some (length bytes - length kept + at) ≡ first_occurrence needle (bytes ++ piece)
    in_seam at h =
        ap (λ (n : ℕ). Some (length bytes - n + at)) kept_long
        ∙ ap (λ (n : ℕ). Some (n + at)) (sym front_long)
        ∙ finds_one needle some (bytes ++ piece) (Some (length front + at)) (first_occurrence needle (bytes ++ piece))
        (seam_found needle some bytes piece front tail head back cut at (none_here found r.found_is r.found_none) (of_seam (Some at) h)) (first_finds needle some (bytes ++ piece))

    pub in_piece : (o : Option ℕ) → FindsNeedle seam text 0 None → FindsNeedle piece text 0 o → option_map (λ i. length bytes + i) o ≡ first_occurrence needle (bytes ++ piece)
    in_piece o none h =
        finds_one needle some (bytes ++ piece) (option_map (λ i. length bytes + i) o) (first_occurrence needle (bytes ++ piece))
        (piece_found needle some bytes piece front tail head back cut o (none_here found r.found_is r.found_none) (of_seam None none) (subst (λ (l : List ℕ). FindsNeedle piece l 0 o) r.text_is h))
        (first_finds needle some (bytes ++ piece))
