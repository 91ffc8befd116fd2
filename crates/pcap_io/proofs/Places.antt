-- What places of records say.
use Rattle.std.proofs.Common.{◌≡◌, ℕ, ◌+◌, List, [], ◌∷◌, ◌++◌, drop, refl, sym, ◌∙◌, ap, append_assoc}
use Rattle.std.specs.Prelude.{flat_map}
use Rattle.std.specs.List.{AllByRecursion}
use Rattle.std.proofs.lemmas.List.{drop-drop, get_or-drop, map-append, append-nil}
use Rattle.std.proofs.lemmas.Grind.{flat_map-append}
use Rattle.brick_spec.specs.Bytes.{Order, number_of_four, after_four, IsBytes}
use Rattle.brick_spec.specs.Capture.{Entry, Fits, record_text}
use Rattle.brick_spec.specs.CaptureFault.{captured_length}
use Rattle.pcap_io.specs.Reading.{body, front_entry, entries_at, IsRecord}
use Rattle.pcap_io.proofs.Records.{record_takes, record_fits}

pub captured_at : (o : Order) (bytes : List ℕ) → captured_length o bytes ≡ number_of_four o (drop 8 bytes)
unfolding after_four
captured_at o bytes = ap (number_of_four o) (drop-drop 4 4 bytes)

pub body_at : (bytes : List ℕ) → body bytes ≡ drop 16 bytes
unfolding after_four
body_at bytes = drop-drop 4 4 (drop 4 (drop 4 bytes)) ∙ drop-drop 8 4 (drop 4 bytes) ∙ drop-drop 12 4 bytes

-- the fields of a front record, by their places
pub record FieldsAt (o : Order) (bytes : List ℕ) : Type 0 where
  pub seconds : number_of_four o bytes ≡ number_of_four o (drop 0 bytes)
  pub fraction : number_of_four o (after_four bytes) ≡ number_of_four o (drop 4 bytes)
  pub captured : captured_length o bytes ≡ number_of_four o (drop 8 bytes)
  pub original : number_of_four o (after_four (after_four (after_four bytes))) ≡ number_of_four o (drop 12 bytes)
  pub body : body bytes ≡ drop 16 bytes

pub fields_at : (o : Order) (bytes : List ℕ) → FieldsAt o bytes
unfolding after_four
fields_at o bytes = record {
  seconds = ap (number_of_four o) refl;
  fraction = refl;
  captured = captured_at o bytes;
  original = ap (number_of_four o) (drop-drop 4 4 (drop 4 bytes) ∙ drop-drop 8 4 bytes);
  body = body_at bytes;
}

pub IsBytes-drop : (n : ℕ) (bytes : List ℕ) → IsBytes bytes → IsBytes (drop n bytes)
IsBytes-drop n bytes fits i = rw (get_or-drop n bytes i 0) (fits (n + i))

pub fit_more : (es : List Entry) (e : Entry) → AllByRecursion Fits es → Fits e → AllByRecursion Fits (es ++ e ∷ [])
fit_more [] e all one = (one, tt)
fit_more (d ∷ es) e all one = (all.0, fit_more es e all.1 one)

-- one more record is at its place
pub places_more : (o : Order) (records places : List ℕ) (at n : ℕ) → IsBytes records → records ≡ flat_map (record_text o) (entries_at o records places) ++ drop at records
    → IsRecord o (drop at records) → n ≡ 16 + captured_length o (drop at records)
    → records ≡ flat_map (record_text o) (entries_at o records (places ++ at ∷ [])) ++ drop (at + n) records
places_more o records places at n fits is whole size =
    let rest : List ℕ = drop at records in
    let e : Entry = front_entry o rest in
    let one : rest ≡ record_text o e ++ drop (captured_length o rest) (body rest) = record_takes o rest (IsBytes-drop at records fits) whole in
    let tail : drop (captured_length o rest) (body rest) ≡ drop (at + n) records = ap (drop (captured_length o rest)) (body_at rest) ∙ drop-drop (captured_length o rest) 16 rest ∙ drop-drop (16 + captured_length o rest) at records ∙ ap (λ (m : ℕ). drop (at + m) records) (sym size) in
    let grown : entries_at o records (places ++ at ∷ []) ≡ entries_at o records places ++ e ∷ [] = map-append (λ (p : ℕ). front_entry o (drop p records)) places (at ∷ []) in
    let text : flat_map (record_text o) (entries_at o records (places ++ at ∷ [])) ≡ flat_map (record_text o) (entries_at o records places) ++ (record_text o e ++ []) = ap (flat_map (record_text o)) grown ∙ flat_map-append (record_text o) (entries_at o records places) (e ∷ []) in
    is ∙ ap (λ (l : List ℕ). flat_map (record_text o) (entries_at o records places) ++ l) (one ∙ ap (λ (l : List ℕ). record_text o e ++ l) tail)
    ∙ sym (ap (λ (l : List ℕ). l ++ drop (at + n) records) (text ∙ ap (λ (l : List ℕ). flat_map (record_text o) (entries_at o records places) ++ l) (append-nil (record_text o e)))
    ∙ append_assoc (flat_map (record_text o) (entries_at o records places)) (record_text o e) (drop (at + n) records))

pub fits_more : (o : Order) (records places : List ℕ) (at : ℕ) → IsBytes records → AllByRecursion Fits (entries_at o records places) → IsRecord o (drop at records)
    → AllByRecursion Fits (entries_at o records (places ++ at ∷ []))
fits_more o records places at fits all whole =
    rw (map-append (λ (p : ℕ). front_entry o (drop p records)) places (at ∷ [])) (fit_more (entries_at o records places) _ all (record_fits o (drop at records) (IsBytes-drop at records fits) whole))
