-- Each list of bytes is a whole capture or has a fault, not both, and other two faults stand.
use Rattle.std.proofs.Common.{◌≡◌, ◌⊎◌, inl, inr, ℕ, zero, suc, ◌+◌, ◌-◌, ◌<◌, ◌≤◌, Bool, true, false, List, [], ◌∷◌, ◌++◌, length, take, drop, refl, sym, ◌∙◌, ap, subst, append_assoc, length-append, length-drop, length-take-le, arith}
use Rattle.std.specs.Prelude.{flat_map}
use Rattle.std.specs.List.{AllByRecursion}
use Rattle.std.proofs.lemmas.List.{take-take, drop-take, append-nil}
use Rattle.std.proofs.lemmas.Bool.{cases_eq, cases_lt}
use Rattle.brick_spec.specs.Bytes.{Order, Little, Big, two_bytes, four_bytes, number_of_four, IsBytes}
use Rattle.brick_spec.specs.Capture.{Entry, Fits, record_text, magic, IsHeader, IsCapture, Contents, IsWhole}
use Rattle.brick_spec.specs.CaptureFault.{CaptureFault, ShortHeader, Magic, Version, Link, CutRecord, LongRecord, HasMagic, Begins, captured_length, IsCut, Stands}
use Rattle.brick_spec.proofs.Numbers.{after_four_fits}
use Rattle.pcap_io.specs.Reading.{number_of_two, HasVersion, body, front_entry, IsRecord, IsLong, IsStuck}
use Rattle.pcap_io.proofs.Records.{record_takes, record_fits, length-record_text, stuck_again, no_capture}
use Rattle.pcap_io.proofs.Places.{IsBytes-drop}
use Rattle.pcap_io.proofs.Headers.{magic_unique, magic_small, two_small, first_four, number_at_first, version_bytes, version_numbers}
use Rattle.pcap_io.proofs.Captures.{header_begins, header_size}

-- THE HEADER'S FOUR CHECKS

version_place : (bytes : List ℕ) → take 4 (drop 4 (take 24 bytes)) ≡ take 4 (drop 4 bytes)
version_place bytes = ap (take 4) (drop-take 4 20 bytes) ∙ take-take 4 20 (drop 4 bytes) (omega arith)

link_place : (bytes : List ℕ) → drop 20 (take 24 bytes) ≡ take 4 (drop 20 bytes)
link_place bytes = drop-take 20 4 bytes

-- what a reader finds in a file header
record HeaderFound (o : Order) (nano : Bool) (bytes : List ℕ) : Type 0 where
  has : HasMagic o nano bytes
  version : take 4 (drop 4 bytes) ≡ two_bytes o 2 ++ two_bytes o 4
  link : number_of_four o (drop 20 bytes) ≡ 1

found : (o : Order) (nano : Bool) (bytes : List ℕ) → IsHeader o nano (take 24 bytes) → HeaderFound o nano bytes
found o nano bytes h = record {
  has = record { size = header_size o nano bytes h; begins = header_begins o nano bytes h };
  version = sym (version_place bytes) ∙ h.version;
  link = number_at_first o 1 (drop 20 bytes) (omega arith) (sym (link_place bytes) ∙ h.link);
}

header_of : (o : Order) (nano : Bool) (bytes : List ℕ) → IsBytes bytes → HeaderFound o nano bytes → IsHeader o nano (take 24 bytes)
header_of o nano bytes fits f = record {
  size = length-take-le 24 bytes f.has.size;
  begins = take-take 4 24 bytes (omega arith) ∙ f.has.begins;
  version = version_place bytes ∙ f.version;
  link = link_place bytes ∙ first_four o (drop 20 bytes) (IsBytes-drop 20 bytes fits) (omega (arith, length-drop 20 bytes, f.has.size)) ∙ ap (four_bytes o) f.link;
}

-- bytes whose first four read so have the magic number
pub has_magic : (o : Order) (nano : Bool) (bytes : List ℕ) → IsBytes bytes → 24 ≤ length bytes → number_of_four o bytes ≡ magic nano → HasMagic o nano bytes
has_magic o nano bytes fits long is = record { size = long; begins = first_four o bytes fits (omega arith) ∙ ap (four_bytes o) is }

pub magic_reads : (o : Order) (nano : Bool) (bytes : List ℕ) → HasMagic o nano bytes → number_of_four o bytes ≡ magic nano
magic_reads o nano bytes has = number_at_first o (magic nano) bytes (magic_small nano) has.begins

-- a number that is neither is no magic number
pub no_magic : (o : Order) (bytes : List ℕ) → ¬ (number_of_four o bytes ≡ magic false) → ¬ (number_of_four o bytes ≡ magic true) → (nano : Bool) → ¬ (HasMagic o nano bytes)
no_magic o bytes micro nanos true has = nanos (magic_reads o true bytes has)
no_magic o bytes micro nanos false has = micro (magic_reads o false bytes has)

-- none in either byte order is none
pub no_form : (bytes : List ℕ) → ((nano : Bool) → ¬ (HasMagic Little nano bytes)) → ((nano : Bool) → ¬ (HasMagic Big nano bytes)) → (o : Order) (nano : Bool) → ¬ (HasMagic o nano bytes)
no_form bytes little big Little = little
no_form bytes little big Big = big

-- the version that is read
version_is : (o : Order) (bytes : List ℕ) (major minor : ℕ) → IsBytes bytes → 24 ≤ length bytes → major ≡ number_of_two o (drop 4 bytes) → minor ≡ number_of_two o (drop 6 bytes)
    → take 4 (drop 4 bytes) ≡ two_bytes o major ++ two_bytes o minor
version_is o bytes major minor fits long a b =
    version_bytes o bytes fits (omega arith) ∙ ap (λ (n : ℕ). two_bytes o n ++ two_bytes o (number_of_two o (drop 6 bytes))) (sym a) ∙ ap (λ (n : ℕ). two_bytes o major ++ two_bytes o n) (sym b)

-- one that is not 2.4 is the fault
pub version_stands : (o : Order) (nano : Bool) (bytes : List ℕ) (major minor : ℕ) → IsBytes bytes → HasMagic o nano bytes → major ≡ number_of_two o (drop 4 bytes) → minor ≡ number_of_two o (drop 6 bytes)
    → ¬ ((major ≡ 2) × (minor ≡ 4)) → Stands bytes (Version major minor)
version_stands o nano bytes major minor fits has a b other = (
  o,
  nano,
  has,
  omega (arith, a, two_small o (drop 4 bytes) (IsBytes-drop 4 bytes fits)),
  omega (arith, b, two_small o (drop 6 bytes) (IsBytes-drop 6 bytes fits)),
  version_is o bytes major minor fits has.size a b,
  other,
)

pub version_there : (o : Order) (bytes : List ℕ) (major minor : ℕ) → IsBytes bytes → 24 ≤ length bytes → major ≡ number_of_two o (drop 4 bytes) → minor ≡ number_of_two o (drop 6 bytes)
    → major ≡ 2 → minor ≡ 4 → HasVersion o bytes
version_there o bytes major minor fits long a b two four = version_is o bytes 2 4 fits long (sym two ∙ a) (sym four ∙ b)

-- behind version 2.4 a link type of 1 makes a file header
pub header_stands : (o : Order) (nano : Bool) (bytes : List ℕ) → IsBytes bytes → HasMagic o nano bytes → HasVersion o bytes → number_of_four o (drop 20 bytes) ≡ 1 → IsHeader o nano (take 24 bytes)
header_stands o nano bytes fits has version link = header_of o nano bytes fits (record { has = has; version = version; link = link })

has_or_not : (o : Order) (nano : Bool) (bytes : List ℕ) → IsBytes bytes → 24 ≤ length bytes → HasMagic o nano bytes ⊎ (HasMagic o nano bytes → ⊥)
has_or_not o nano bytes fits long = by (cases_eq (number_of_four o bytes) (magic nano))
  where
    by : (number_of_four o bytes ≡ magic nano) ⊎ (number_of_four o bytes ≡ magic nano → ⊥) → HasMagic o nano bytes ⊎ (HasMagic o nano bytes → ⊥)
    by (inl fact) = inl (has_magic o nano bytes fits long fact)
    by (inr other) = inr (λ h. other (magic_reads o nano bytes h))

some_magic : (bytes : List ℕ) → IsBytes bytes → 24 ≤ length bytes → ((o : Order) × (nano : Bool) × HasMagic o nano bytes) ⊎ ((o : Order) (nano : Bool) → ¬ (HasMagic o nano bytes))
some_magic bytes fits long = first (has_or_not Little true bytes fits long)
  where
    none : ¬ (HasMagic Little true bytes) → ¬ (HasMagic Little false bytes) → ¬ (HasMagic Big true bytes) → ¬ (HasMagic Big false bytes) → (o : Order) (nano : Bool) → ¬ (HasMagic o nano bytes)
    none a b c d Little true = a
    none a b c d Little false = b
    none a b c d Big true = c
    none a b c d Big false = d

    fourth : ¬ (HasMagic Little true bytes) → ¬ (HasMagic Little false bytes) → ¬ (HasMagic Big true bytes) → HasMagic Big false bytes ⊎ (HasMagic Big false bytes → ⊥) → ((o : Order) × (nano : Bool) × HasMagic o nano bytes) ⊎ ((o : Order) (nano : Bool) → ¬ (HasMagic o nano bytes))
    fourth a b c (inl fact) = inl (Big, false, fact)
    fourth a b c (inr d) = inr (none a b c d)

    third : ¬ (HasMagic Little true bytes) → ¬ (HasMagic Little false bytes) → HasMagic Big true bytes ⊎ (HasMagic Big true bytes → ⊥) → ((o : Order) × (nano : Bool) × HasMagic o nano bytes) ⊎ ((o : Order) (nano : Bool) → ¬ (HasMagic o nano bytes))
    third a b (inl fact) = inl (Big, true, fact)
    third a b (inr c) = fourth a b c (has_or_not Big false bytes fits long)

    second : ¬ (HasMagic Little true bytes) → HasMagic Little false bytes ⊎ (HasMagic Little false bytes → ⊥) → ((o : Order) × (nano : Bool) × HasMagic o nano bytes) ⊎ ((o : Order) (nano : Bool) → ¬ (HasMagic o nano bytes))
    second a (inl fact) = inl (Little, false, fact)
    second a (inr b) = third a b (has_or_not Big true bytes fits long)

    first : HasMagic Little true bytes ⊎ (HasMagic Little true bytes → ⊥) → ((o : Order) × (nano : Bool) × HasMagic o nano bytes) ⊎ ((o : Order) (nano : Bool) → ¬ (HasMagic o nano bytes))
    first (inl fact) = inl (Little, true, fact)
    first (inr a) = second a (has_or_not Little false bytes fits long)

-- after the magic number, the version and the link type are right, or the first that is not is the fault
header_or_fault : (o : Order) (nano : Bool) (bytes : List ℕ) → IsBytes bytes → HasMagic o nano bytes → IsHeader o nano (take 24 bytes) ⊎ ((f : CaptureFault) × Stands bytes f)
header_or_fault o nano bytes fits has = by_major (cases_eq (number_of_two o (drop 4 bytes)) 2)
  where
    wrong : ¬ ((number_of_two o (drop 4 bytes) ≡ 2) × (number_of_two o (drop 6 bytes) ≡ 4)) → IsHeader o nano (take 24 bytes) ⊎ ((f : CaptureFault) × Stands bytes f)
    wrong other = inr (Version (number_of_two o (drop 4 bytes)) (number_of_two o (drop 6 bytes)), version_stands o nano bytes _ _ fits has refl refl other)

    by_link : HasVersion o bytes → (number_of_four o (drop 20 bytes) ≡ 1) ⊎ (number_of_four o (drop 20 bytes) ≡ 1 → ⊥) → IsHeader o nano (take 24 bytes) ⊎ ((f : CaptureFault) × Stands bytes f)
    by_link v (inl fact) = inl (header_stands o nano bytes fits has v fact)
    by_link v (inr other) = inr (Link (number_of_four o (drop 20 bytes)), (o, nano, has, v, refl, other))

    by_minor : number_of_two o (drop 4 bytes) ≡ 2 → (number_of_two o (drop 6 bytes) ≡ 4) ⊎ (number_of_two o (drop 6 bytes) ≡ 4 → ⊥) → IsHeader o nano (take 24 bytes) ⊎ ((f : CaptureFault) × Stands bytes f)
    by_minor a (inl b) = by_link (version_there o bytes _ _ fits has.size refl refl a b) (cases_eq (number_of_four o (drop 20 bytes)) 1)
    by_minor a (inr other) = wrong (λ p. other p.1)

    by_major : (number_of_two o (drop 4 bytes) ≡ 2) ⊎ (number_of_two o (drop 4 bytes) ≡ 2 → ⊥) → IsHeader o nano (take 24 bytes) ⊎ ((f : CaptureFault) × Stands bytes f)
    by_major (inl a) = by_minor a (cases_eq (number_of_two o (drop 6 bytes)) 4)
    by_major (inr other) = wrong (λ p. other p.0)

-- THE RECORDS

-- a whole record is at the front of bytes, or none
record_or_stuck : (o : Order) (bytes : List ℕ) → 0 < length bytes → IsRecord o bytes ⊎ IsStuck o bytes
record_or_stuck o bytes some = size (cases_lt (length bytes) 16)
  where
    there : 16 ≤ length bytes → captured_length o bytes ≤ 262144 → (length bytes < 16 + captured_length o bytes) ⊎ (16 + captured_length o bytes ≤ length bytes) → IsRecord o bytes ⊎ IsStuck o bytes
    there long short (inl cut) = inr (inl (some, inr (short, cut)))
    there long short (inr fact) = inl (record { long = long; short = short; there = fact })

    short : 16 ≤ length bytes → (262144 < captured_length o bytes) ⊎ (captured_length o bytes ≤ 262144) → IsRecord o bytes ⊎ IsStuck o bytes
    short long (inl other) = inr (inr (long, other))
    short long (inr fact) = there long fact (cases_lt (length bytes) (16 + captured_length o bytes))

    size : (length bytes < 16) ⊎ (16 ≤ length bytes) → IsRecord o bytes ⊎ IsStuck o bytes
    size (inl few) = inr (inl (some, inl few))
    size (inr long) = short long (cases_lt 262144 (captured_length o bytes))

-- the records of entries, and then a rest
record Parts (o : Order) (bytes : List ℕ) : Type 0 where
  first : List Entry
  rest : List ℕ
  fit : AllByRecursion Fits first
  text : bytes ≡ flat_map (record_text o) first ++ rest
  ends : (rest ≡ []) ⊎ IsStuck o rest

parts_more : (o : Order) (bytes tail : List ℕ) (e : Entry) → Fits e → bytes ≡ record_text o e ++ tail → Parts o tail → Parts o bytes
parts_more o bytes tail e fits is p = record {
  first = e ∷ p.first;
  rest = p.rest;
  fit = (fits, p.fit);
  text = is ∙ ap (λ (l : List ℕ). record_text o e ++ l) p.text ∙ sym (append_assoc (record_text o e) (flat_map (record_text o) p.first) p.rest);
  ends = p.ends;
}

body_fits : (bytes : List ℕ) → IsBytes bytes → IsBytes (body bytes)
body_fits bytes fits = after_four_fits _ (after_four_fits _ (after_four_fits _ (after_four_fits bytes fits)))

parts : (fuel : ℕ) (o : Order) (bytes : List ℕ) → IsBytes bytes → length bytes ≤ fuel → Parts o bytes
parts fuel o [] fits small = record { first = []; rest = []; fit = tt; text = refl; ends = inl refl }
parts zero o (x ∷ bytes) fits small = absurd (omega arith)
parts (suc fuel) o (x ∷ bytes) fits small = by (record_or_stuck o (x ∷ bytes) (omega arith)) (λ tail. parts fuel o tail)
  where
    by : IsRecord o (x ∷ bytes) ⊎ IsStuck o (x ∷ bytes) → ((tail : List ℕ) → IsBytes tail → length tail ≤ fuel → Parts o tail) → Parts o (x ∷ bytes)
    by (inr stuck) later = record { first = []; rest = x ∷ bytes; fit = tt; text = refl; ends = inr stuck }
    by (inl whole) later =
        let all : List ℕ = x ∷ bytes in
        let e : Entry = front_entry o all in
        let tail : List ℕ = drop (captured_length o all) (body all) in
        let is : all ≡ record_text o e ++ tail = record_takes o all fits whole in
        let size : length all ≡ 16 + length e.frame + length tail = ap length is ∙ length-record_text o e tail in
        let tail_fits : IsBytes tail = IsBytes-drop (captured_length o all) (body all) (body_fits all fits) in
        parts_more o all tail e (record_fits o all fits whole) is (later tail tail_fits (omega arith))

-- bytes with a header are whole, or the first record that is not is the fault
records_or_fault : (o : Order) (nano : Bool) (bytes : List ℕ) → IsHeader o nano (take 24 bytes) → Parts o (drop 24 bytes) → ((c : Contents) × IsWhole bytes c) ⊎ ((f : CaptureFault) × Stands bytes f)
records_or_fault o nano bytes h p = by p.ends
  where
    begins : Begins o nano p.first p.rest bytes
    begins = record { header = h; records = p.text; fit = p.fit }

    at : ℕ
    at = length bytes - length p.rest

    place : length bytes - length p.rest + length p.rest ≡ length bytes
    place = omega (arith, length-drop 24 bytes, ap length p.text, length-append (flat_map (record_text o) p.first) p.rest)

    by : (p.rest ≡ []) ⊎ IsStuck o p.rest → ((c : Contents) × IsWhole bytes c) ⊎ ((f : CaptureFault) × Stands bytes f)
    by (inl none) = inl (record { nano = nano; entries = p.first }, (o, record { header = h; records = p.text ∙ ap (λ (l : List ℕ). flat_map (record_text o) p.first ++ l) none ∙ append-nil _; fit = p.fit }))
    by (inr (inl cut)) = inr (CutRecord (length p.first) (length bytes - length p.rest), (o, nano, p.first, p.rest, begins, cut, refl, place))
    by (inr (inr long)) = inr (LongRecord (length p.first) (captured_length o p.rest), (o, nano, p.first, p.rest, begins, long.0, refl, long.1, refl))

pub whole_or_faulty : (bytes : List ℕ) → IsBytes bytes → ((c : Contents) × IsWhole bytes c) ⊎ ((f : CaptureFault) × Stands bytes f)
whole_or_faulty bytes fits = size (cases_lt (length bytes) 24)
  where
    header : (o : Order) (nano : Bool) → IsHeader o nano (take 24 bytes) ⊎ ((f : CaptureFault) × Stands bytes f) → ((c : Contents) × IsWhole bytes c) ⊎ ((f : CaptureFault) × Stands bytes f)
    header o nano (inl h) = records_or_fault o nano bytes h (parts (length (drop 24 bytes)) o (drop 24 bytes) (IsBytes-drop 24 bytes fits) (omega arith))
    header o nano (inr f) = inr f

    word : 24 ≤ length bytes → ((o : Order) × (nano : Bool) × HasMagic o nano bytes) ⊎ ((o : Order) (nano : Bool) → ¬ (HasMagic o nano bytes)) → ((c : Contents) × IsWhole bytes c) ⊎ ((f : CaptureFault) × Stands bytes f)
    word long (inl (o, nano, has)) = header o nano (header_or_fault o nano bytes fits has)
    word long (inr none) = inr (Magic (number_of_four Big bytes), (long, none, refl))

    size : (length bytes < 24) ⊎ (24 ≤ length bytes) → ((c : Contents) × IsWhole bytes c) ⊎ ((f : CaptureFault) × Stands bytes f)
    size (inl few) = inr (ShortHeader (length bytes), (few, refl))
    size (inr long) = word long (some_magic bytes fits long)

-- NOT BOTH

-- what a fault says of the header's checks: those before it hold, and it fails
same_order : (o p : Order) (n m : Bool) (bytes : List ℕ) → HasMagic o n bytes → HasMagic p m bytes → o ≡ p
same_order o p n m bytes a b = (magic_unique o p n m bytes a.begins b.begins).0

version_clash : (o p : Order) (n m : Bool) (major minor : ℕ) (bytes : List ℕ) → HasMagic o n bytes → major < 65536 → minor < 65536
    → take 4 (drop 4 bytes) ≡ two_bytes o major ++ two_bytes o minor → ¬ ((major ≡ 2) × (minor ≡ 4)) → HasMagic p m bytes → take 4 (drop 4 bytes) ≡ two_bytes p 2 ++ two_bytes p 4 → ⊥
version_clash o p n m major minor bytes has small1 small2 is other has2 is2 =
    let same : o ≡ p = same_order o p n m bytes has has2 in
    let a = version_numbers o major minor bytes small1 small2 is in
    let b = version_numbers o 2 4 bytes (omega arith) (omega arith) (is2 ∙ ap (λ (q : Order). two_bytes q 2 ++ two_bytes q 4) (sym same)) in
    other (sym a.0 ∙ b.0, sym a.1 ∙ b.1)

link_clash : (o p : Order) (n m : Bool) (word : ℕ) (bytes : List ℕ) → HasMagic o n bytes → word ≡ number_of_four o (drop 20 bytes) → ¬ (word ≡ 1) → HasMagic p m bytes → number_of_four p (drop 20 bytes) ≡ 1 → ⊥
link_clash o p n m word bytes has is other has2 is2 = other (is ∙ ap (λ (q : Order). number_of_four q (drop 20 bytes)) (same_order o p n m bytes has has2) ∙ is2)

begins_clash : (o p : Order) (n m : Bool) (first es : List Entry) (rest bytes : List ℕ) → Begins o n first rest bytes → IsStuck o rest → IsCapture p m es bytes → ⊥
begins_clash o p n m first es rest bytes b stuck whole =
    let same : p ≡ o = same_order p o m n bytes (found p m bytes whole.header).has (found o n bytes b.header).has in
    no_capture o first (drop 24 bytes) rest b.fit b.records stuck es whole.fit (whole.records ∙ ap (λ (q : Order). flat_map (record_text q) es) same)

pub whole_no_fault : (bytes : List ℕ) (c : Contents) (f : CaptureFault) → IsWhole bytes c → ¬ (Stands bytes f)
whole_no_fault bytes c (ShortHeader len) (p, whole) (few, is) = let h = (found p c.nano bytes whole.header).has.size in omega arith
whole_no_fault bytes c (Magic word) (p, whole) (long, none, is) = none p c.nano (found p c.nano bytes whole.header).has
whole_no_fault bytes c (Version major minor) (p, whole) (o, n, has, s, t, is, other) = let h = found p c.nano bytes whole.header in version_clash o p n c.nano major minor bytes has s t is other h.has h.version
whole_no_fault bytes c (Link word) (p, whole) (o, n, has, v, is, other) = let h = found p c.nano bytes whole.header in link_clash o p n c.nano word bytes has is other h.has h.link
whole_no_fault bytes c (CutRecord k at) (p, whole) (o, n, first, rest, b, cut, i, j) = begins_clash o p n c.nano first c.entries rest bytes b (inl cut) whole
whole_no_fault bytes c (LongRecord k len) (p, whole) (o, n, first, rest, b, there, is, long, i) = begins_clash o p n c.nano first c.entries rest bytes b (inr (there, subst (λ (l : ℕ). 262144 < l) is long)) whole

-- ONE FAULT

-- the first records of bytes and what is stuck behind them
begins_again : (o p : Order) (n m : Bool) (first second : List Entry) (rest rest2 bytes : List ℕ) → Begins o n first rest bytes → Begins p m second rest2 bytes → IsStuck o rest → IsStuck p rest2
    → (o ≡ p) × (first ≡ second) × (rest ≡ rest2)
begins_again o p n m first second rest rest2 bytes a b s t =
    let same : p ≡ o = same_order p o m n bytes (found p m bytes b.header).has (found o n bytes a.header).has in
    let stuck : IsStuck o rest2 = subst (λ (q : Order). IsStuck q rest2) same t in
    let text : flat_map (record_text o) first ++ rest ≡ flat_map (record_text o) second ++ rest2 = sym a.records ∙ b.records ∙ ap (λ (q : Order). flat_map (record_text q) second ++ rest2) same in
    let both = stuck_again o first second rest rest2 a.fit b.fit text s stuck in
    (sym same, both.0, both.1)

-- both of a kind
one_version : (o p : Order) (n m : Bool) (i j k l : ℕ) (bytes : List ℕ) → HasMagic o n bytes → HasMagic p m bytes → i < 65536 → j < 65536 → k < 65536 → l < 65536
    → take 4 (drop 4 bytes) ≡ two_bytes o i ++ two_bytes o j → take 4 (drop 4 bytes) ≡ two_bytes p k ++ two_bytes p l → (i ≡ k) × (j ≡ l)
one_version o p n m i j k l bytes a b si sj sk sl is is2 =
    let same : o ≡ p = same_order o p n m bytes a b in
    let x = version_numbers o i j bytes si sj is in
    let y = version_numbers o k l bytes sk sl (is2 ∙ ap (λ (q : Order). two_bytes q k ++ two_bytes q l) (sym same)) in
    (sym x.0 ∙ y.0, sym x.1 ∙ y.1)

one_cut : (k l at at2 : ℕ) (first second : List Entry) (rest rest2 bytes : List ℕ) → first ≡ second → rest ≡ rest2 → k ≡ length first → l ≡ length second
    → at + length rest ≡ length bytes → at2 + length rest2 ≡ length bytes → (k ≡ l) × (at ≡ at2)
one_cut k l at at2 first second rest rest2 bytes same tail a b i j = (a ∙ ap length same ∙ sym b, omega (arith, ap length tail))

-- no record is both cut and too long
cut_not_long : (o : Order) (rest : List ℕ) → IsCut o rest → IsLong o rest → ⊥
cut_not_long o rest (some, inl few) (there, long) = omega arith
cut_not_long o rest (some, inr (short, cut)) (there, long) = omega arith

long_of : (o : Order) (rest : List ℕ) (len : ℕ) → 16 ≤ length rest → len ≡ captured_length o rest → 262144 < len → IsLong o rest
long_of o rest len there is long = (there, subst (λ (l : ℕ). 262144 < l) is long)

cut_and_long : (o p : Order) (n m : Bool) (first second : List Entry) (rest rest2 bytes : List ℕ) → Begins o n first rest bytes → Begins p m second rest2 bytes → IsCut o rest → IsLong p rest2 → ⊥
cut_and_long o p n m first second rest rest2 bytes a b cut long =
    let same = begins_again o p n m first second rest rest2 bytes a b (inl cut) (inr long) in
    cut_not_long p rest2 (subst (IsCut p) same.2 (subst (λ (q : Order). IsCut q rest) same.0 cut)) long

-- what stands after the file header's checks
begun : (o : Order) (n : Bool) (first : List Entry) (rest bytes : List ℕ) → Begins o n first rest bytes → HeaderFound o n bytes
begun o n first rest bytes b = found o n bytes b.header

-- the place of a fault's check
abbrev rank : CaptureFault → ℕ
rank (ShortHeader len) = 0
rank (Magic word) = 1
rank (Version i j) = 2
rank (Link w) = 3
rank (CutRecord k at) = 4
rank (LongRecord l len) = 5

one_or_later : (bytes : List ℕ) (f g : CaptureFault) → rank f ≤ rank g → Stands bytes f → Stands bytes g → f ≡ g
one_or_later bytes (ShortHeader len) (ShortHeader len2) before (few, is) (few2, is2) = ap ShortHeader (is ∙ sym is2)
one_or_later bytes (ShortHeader len) (Magic word) before (few, is) (long, none, e) = absurd (omega arith)
one_or_later bytes (ShortHeader len) (Version i j) before (few, is) s = absurd (omega (arith, s.2.size))
one_or_later bytes (ShortHeader len) (Link word) before (few, is) s = absurd (omega (arith, s.2.size))
one_or_later bytes (ShortHeader len) (CutRecord k at) before (few, is) s = absurd (omega (arith, (begun s.0 s.1 s.2 s.3 bytes s.4).has.size))
one_or_later bytes (ShortHeader len) (LongRecord k l) before (few, is) s = absurd (omega (arith, (begun s.0 s.1 s.2 s.3 bytes s.4).has.size))
one_or_later bytes (Magic word) (Magic word2) before (long, none, is) (long2, none2, is2) = ap Magic (is ∙ sym is2)
one_or_later bytes (Magic word) (Version i j) before (long, none, is) s = absurd (none s.0 s.1 s.2)
one_or_later bytes (Magic word) (Link w) before (long, none, is) s = absurd (none s.0 s.1 s.2)
one_or_later bytes (Magic word) (CutRecord k at) before (long, none, is) s = absurd (none s.0 s.1 (begun s.0 s.1 s.2 s.3 bytes s.4).has)
one_or_later bytes (Magic word) (LongRecord k l) before (long, none, is) s = absurd (none s.0 s.1 (begun s.0 s.1 s.2 s.3 bytes s.4).has)
one_or_later bytes (Version i j) (Version k l) before (o, n, has, si, sj, is, other) (p, m, has2, sk, sl, is2, other2) =
    let e = one_version o p n m i j k l bytes has has2 si sj sk sl is is2 in λ x. Version (e.0 x) (e.1 x)
one_or_later bytes (Version i j) (Link w) before (o, n, has, si, sj, is, other) (p, m, has2, v, e, other2) = absurd (version_clash o p n m i j bytes has si sj is other has2 v)
one_or_later bytes (Version i j) (CutRecord k at) before (o, n, has, si, sj, is, other) s = let h = begun s.0 s.1 s.2 s.3 bytes s.4 in absurd (version_clash o s.0 n s.1 i j bytes has si sj is other h.has h.version)
one_or_later bytes (Version i j) (LongRecord k l) before (o, n, has, si, sj, is, other) s = let h = begun s.0 s.1 s.2 s.3 bytes s.4 in absurd (version_clash o s.0 n s.1 i j bytes has si sj is other h.has h.version)
one_or_later bytes (Link w) (Link w2) before (o, n, has, v, is, other) (p, m, has2, v2, is2, other2) = ap Link (is ∙ ap (λ (q : Order). number_of_four q (drop 20 bytes)) (same_order o p n m bytes has has2) ∙ sym is2)
one_or_later bytes (Link w) (CutRecord k at) before (o, n, has, v, is, other) s = let h = begun s.0 s.1 s.2 s.3 bytes s.4 in absurd (link_clash o s.0 n s.1 w bytes has is other h.has h.link)
one_or_later bytes (Link w) (LongRecord k l) before (o, n, has, v, is, other) s = let h = begun s.0 s.1 s.2 s.3 bytes s.4 in absurd (link_clash o s.0 n s.1 w bytes has is other h.has h.link)
one_or_later bytes (CutRecord k at) (CutRecord l at2) before (o, n, first, rest, a, cut, i, j) (p, m, second, rest2, b, cut2, i2, j2) =
    let same = begins_again o p n m first second rest rest2 bytes a b (inl cut) (inl cut2) in
    let e = one_cut k l at at2 first second rest rest2 bytes same.1 same.2 i i2 j j2 in
    λ x. CutRecord (e.0 x) (e.1 x)
one_or_later bytes (CutRecord k at) (LongRecord l len) before (o, n, first, rest, a, cut, i, j) (p, m, second, rest2, b, there, is, long, e) = absurd (cut_and_long o p n m first second rest rest2 bytes a b cut (long_of p rest2 len there is long))
one_or_later bytes (LongRecord k len) (LongRecord l len2) before (o, n, first, rest, a, there, is, long, i) (p, m, second, rest2, b, there2, is2, long2, i2) =
    let same = begins_again o p n m first second rest rest2 bytes a b (inr (long_of o rest len there is long)) (inr (long_of p rest2 len2 there2 is2 long2)) in
    let number : k ≡ l = i ∙ ap length same.1 ∙ sym i2 in
    let size : len ≡ len2 = is ∙ ap (λ (q : Order). captured_length q rest) same.0 ∙ ap (captured_length p) same.2 ∙ sym is2 in
    λ x. LongRecord (number x) (size x)
one_or_later bytes (Magic word) (ShortHeader len2) before a b = absurd (omega arith)
one_or_later bytes (Version i j) (ShortHeader len2) before a b = absurd (omega arith)
one_or_later bytes (Version i j) (Magic word2) before a b = absurd (omega arith)
one_or_later bytes (Link w) (ShortHeader len2) before a b = absurd (omega arith)
one_or_later bytes (Link w) (Magic word2) before a b = absurd (omega arith)
one_or_later bytes (Link w) (Version i2 j2) before a b = absurd (omega arith)
one_or_later bytes (CutRecord k at) (ShortHeader len2) before a b = absurd (omega arith)
one_or_later bytes (CutRecord k at) (Magic word2) before a b = absurd (omega arith)
one_or_later bytes (CutRecord k at) (Version i2 j2) before a b = absurd (omega arith)
one_or_later bytes (CutRecord k at) (Link w2) before a b = absurd (omega arith)
one_or_later bytes (LongRecord l len) (ShortHeader len2) before a b = absurd (omega arith)
one_or_later bytes (LongRecord l len) (Magic word2) before a b = absurd (omega arith)
one_or_later bytes (LongRecord l len) (Version i2 j2) before a b = absurd (omega arith)
one_or_later bytes (LongRecord l len) (Link w2) before a b = absurd (omega arith)
one_or_later bytes (LongRecord l len) (CutRecord k2 at2) before a b = absurd (omega arith)

pub one_fault : (bytes : List ℕ) (f g : CaptureFault) → Stands bytes f → Stands bytes g → f ≡ g
one_fault bytes f g a b = by (cases_lt (rank f) (rank g))
  where
    by : (rank f < rank g) ⊎ (rank g ≤ rank f) → f ≡ g
    by (inl less) = one_or_later bytes f g (omega arith) a b
    by (inr more) = sym (one_or_later bytes g f more b a)
