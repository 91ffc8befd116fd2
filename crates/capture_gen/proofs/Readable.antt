-- The generated capture as a text: what a record more is, and that it is read.
use Rattle.std.proofs.Common.{◌≡◌, ℕ, zero, suc, ◌+◌, ◌*◌, ◌<◌, ◌≤◌, false, List, [], ◌∷◌, ◌++◌, length, drop, map, ap, sym, ◌∙◌, subst, arith, append_assoc, length-drop, lit<}
use Rattle.std.specs.Prelude.{flat_map}
use Rattle.std.specs.List.{AllByRecursion, range_with_len}
use Rattle.std.proofs.lemmas.Grind.{flat_map-append}
use Rattle.std.proofs.lemmas.List.{append-nil}
use Rattle.std.proofs.lemmas.List.FromFn.{map-range_with_len_more}
use Rattle.std.proofs.lemmas.Nat.{mod_below}
use Rattle.brick_spec.specs.Bytes.{Little}
use Rattle.brick_spec.specs.Capture.{Entry, Fits, record_text, header_text, written_text, IsCapture, IsReadable}
use Rattle.run_spec.specs.Generated.{kind_at, host_at, tcp_before, frame_at, entry_at, generated_entries, generated_capture}
use Rattle.pcap_io.proofs.Captures.{written_is_capture}
use Rattle.pcap_io.proofs.Records.{length-record_text}
use Rattle.capture_gen.specs.Contents.{entry_of_frame, generated_contents}
use Rattle.capture_gen.specs.Sequence.{kind_of}
use Rattle.capture_gen.proofs.MadeFrames.{frame_short, frame_by_choice}

pub text_more : (first k : ℕ) (text more frame : List ℕ) → text ≡ written_text false (generated_entries first k) → frame ≡ frame_at first k
    → more ≡ text ++ record_text Little (entry_of_frame k frame) → more ≡ written_text false (generated_entries first (k + 1))
text_more first k text more frame is made put =
    let all : List Entry = generated_entries first k in
    let e : Entry = entry_at first k in
    let here : 0 + k ≡ k = omega arith in
    let entries : generated_entries first (k + 1) ≡ all ++ e ∷ [] = map-range_with_len_more (entry_at first) 0 k k here in
    let texts : flat_map (record_text Little) (all ++ e ∷ []) ≡ flat_map (record_text Little) all ++ record_text Little e =
    flat_map-append (record_text Little) all (e ∷ []) ∙ ap (λ (t : List ℕ). flat_map (record_text Little) all ++ t) (append-nil (record_text Little e)) in
    put ∙ (ap (λ (t : List ℕ). t ++ record_text Little (entry_of_frame k frame)) is
    ∙ (ap (λ (f : List ℕ). written_text false all ++ record_text Little (entry_of_frame k f)) made
    ∙ (append_assoc (header_text false) (flat_map (record_text Little) all) (record_text Little e)
    ∙ (ap (λ (t : List ℕ). header_text false ++ t) (sym texts) ∙ ap (written_text false) (sym entries)))))

pub frame_at_short : (first k : ℕ) → length (frame_at first k) ≤ 154
frame_at_short first k =
    subst (λ (f : List ℕ). length f ≤ 154) (frame_by_choice (kind_at first k) (host_at first k) (tcp_before first k) k)
    (frame_short (kind_of (kind_at first k)) (host_at first k) (tcp_before first k) k)

entry_fits : (first k : ℕ) → k < 20000 → Fits (entry_at first k)
entry_fits first k h =
    let short = frame_at_short first k in
    let low = mod_below k 1000 (lit< tt) in
    record { seconds = omega arith; fraction = omega arith; original = omega arith; short = omega arith }

entries_fit : (first a n : ℕ) → a + n ≤ 20000 → AllByRecursion Fits (map (entry_at first) (range_with_len a n))
entries_fit first a zero h = tt
entries_fit first a (suc n) h = (entry_fits first a (omega arith), entries_fit first (a + 1) n (omega arith))

texts_short : (first a n : ℕ) → length (flat_map (record_text Little) (map (entry_at first) (range_with_len a n))) ≤ n * 170
texts_short first a zero = omega arith
texts_short first a (suc n) =
    let rest : List ℕ = flat_map (record_text Little) (map (entry_at first) (range_with_len (a + 1) n)) in
    let more : length rest ≤ n * 170 = texts_short first (a + 1) n in
    let here : length (record_text Little (entry_at first a) ++ rest) ≡ 16 + length (frame_at first a) + length rest = length-record_text Little (entry_at first a) rest in
    omega (arith, more, here, frame_at_short first a)

-- The capture is read: it is whole, and short.
pub generated_readable : (first count : ℕ) → count ≤ 20000 → IsReadable (generated_capture first count) (generated_contents first count)
generated_readable first count h =
    let text : List ℕ = generated_capture first count in
    let is : IsCapture Little false (generated_entries first count) text = written_is_capture false (generated_entries first count) (entries_fit first 0 count (omega arith)) in
    let size : length (drop 24 text) ≤ count * 170 = subst (λ (t : List ℕ). length t ≤ count * 170) (sym is.records) (texts_short first 0 count) in
    record { short = omega (arith, size, length-drop 24 text); whole = (Little, is) }
