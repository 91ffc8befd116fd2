-- Captures as wholes: what the first four bytes tell of one, and that its byte order, resolution and entries are unique.
use Rattle.std.proofs.Common.{◌≡◌, ℕ, zero, suc, ◌<◌, ◌≤◌, Bool, true, false, List, [], ◌∷◌, ◌++◌, Some, length, take, drop, slice_get, slice_index, refl, sym, ◌∙◌, ap, subst, arith}
use Rattle.std.specs.Prelude.{flat_map}
use Rattle.std.specs.List.{AllByRecursion}
use Rattle.std.proofs.lemmas.List.{append-nil, take-take, length-take, take_at, drop_at}
use Rattle.brick_spec.specs.Bytes.{Order, Little, two_bytes, four_bytes}
use Rattle.brick_spec.specs.Capture.{Entry, Fits, record_text, magic, IsHeader, IsCapture, Contents, IsReadable, header_text, written_text}
use Rattle.pcap_io.specs.Reading.{front_entry, entries_at}
use Rattle.pcap_io.proofs.Records.{texts_again, length-record_text}
use Rattle.pcap_io.proofs.Headers.{magic_unique}

-- the bytes begin with the magic number of their header
pub header_begins : (o : Order) (nano : Bool) (bytes : List ℕ) → IsHeader o nano (take 24 bytes) → take 4 bytes ≡ four_bytes o (magic nano)
header_begins o nano bytes h = sym (take-take 4 24 bytes (omega arith)) ∙ h.begins

-- and are no fewer than its bytes
pub header_size : (o : Order) (nano : Bool) (bytes : List ℕ) → IsHeader o nano (take 24 bytes) → 24 ≤ length bytes
header_size o nano bytes h = omega (arith, h.size, length-take 24 bytes)

-- the byte order, the resolution and the entries of a capture are unique
pub capture_unique : (o p : Order) (n m : Bool) (es fs : List Entry) (bytes : List ℕ) → IsCapture o n es bytes → IsCapture p m fs bytes → (o ≡ p) × (n ≡ m) × (es ≡ fs)
capture_unique o p n m es fs bytes a b =
    let same : (o ≡ p) × (n ≡ m) = magic_unique o p n m bytes (header_begins o n bytes a.header) (header_begins p m bytes b.header) in
    let text : flat_map (record_text o) fs ≡ drop 24 bytes = ap (λ (q : Order). flat_map (record_text q) fs) same.0 ∙ sym b.records in
    let more = texts_again o es fs [] a.fit b.fit (text ∙ a.records ∙ sym (append-nil _)) in
    (same.0, same.1, none more)
  where
    none : ((more : List Entry) × (fs ≡ es ++ more) × (flat_map (record_text o) more ≡ [])) → es ≡ fs
    none ([], e, t) = sym (append-nil es) ∙ sym e
    none (d ∷ more, e, t) = absurd (omega (arith, ap length t ∙ refl, length-record_text o d (flat_map (record_text o) more)))

-- what a capture that is read says is unique
pub readable_unique : (bytes : List ℕ) (c d : Contents) → IsReadable bytes c → IsReadable bytes d → c ≡ d
readable_unique bytes c d f g =
    let u = capture_unique f.whole.0 g.whole.0 c.nano d.nano c.entries d.entries bytes f.whole.1 g.whole.1 in
    λ i. record { nano = u.1 i; entries = u.2 i }

-- the entry of a number, by its place
pub entry_there : (o : Order) (records places : List ℕ) (k : ℕ) → k < length places → slice_get (entries_at o records places) k ≡ Some (front_entry o (drop (slice_index places k) records))
entry_there o records [] k h = absurd (omega arith)
entry_there o records (p ∷ places) zero h = refl
entry_there o records (p ∷ places) (suc k) h = entry_there o records places k (omega arith)

pub entries_count : (o : Order) (records places : List ℕ) → length (entries_at o records places) ≡ length places
entries_count o records [] = refl
entries_count o records (p ∷ places) = ap suc (entries_count o records places)

length-header_text : (nano : Bool) → length (header_text nano) ≡ 24
unfolding header_text four_bytes two_bytes
length-header_text true = refl
length-header_text false = refl

header_is : (nano : Bool) → IsHeader Little nano (header_text nano)
unfolding header_text four_bytes two_bytes
header_is true = record { size = refl; begins = refl; version = refl; link = refl }
header_is false = record { size = refl; begins = refl; version = refl; link = refl }

-- what is written is a capture of its entries
pub written_is_capture : (nano : Bool) (es : List Entry) → AllByRecursion Fits es → IsCapture Little nano es (written_text nano es)
written_is_capture nano es fit = record {
  header = subst (IsHeader Little nano) (sym (take_at (header_text nano) (flat_map (record_text Little) es) 24 (length-header_text nano))) (header_is nano);
  records = drop_at (header_text nano) (flat_map (record_text Little) es) 24 (length-header_text nano);
  fit = fit;
}
