-- How the reader takes bytes apart: a record from the front, and the entries at given places.
use Rattle.std.specs.Prelude.{◌≡◌, ◌⊎◌, ℕ, ◌+◌, ◌<◌, ◌≤◌, List, ◌++◌, length, map, take, drop, All, flat_map}
use Rattle.std.specs.List.{AllByRecursion}
use Rattle.byteorder.specs.Endian.{little_number, big_number}
use Rattle.brick_spec.specs.Bytes.{Order, Little, Big, two_bytes, number_of_four, after_four}
use Rattle.brick_spec.specs.Capture.{Entry, Fits, record_text, longest_frame, longest_capture}
use Rattle.brick_spec.specs.CaptureFault.{captured_length, IsCut}

-- the number in the first two bytes
unfoldable pub number_of_two : Order → List ℕ → ℕ
number_of_two Little bytes = little_number 2 bytes
number_of_two Big bytes = big_number 2 bytes

-- a file header's version is 2.4
abbrev pub HasVersion : Order → List ℕ → Type 0
HasVersion o bytes = take 4 (drop 4 bytes) ≡ two_bytes o 2 ++ two_bytes o 4

-- what stands behind a record's four numbers
abbrev pub body : List ℕ → List ℕ
body bytes = after_four (after_four (after_four (after_four bytes)))

-- what the record at the front says
abbrev pub front_entry : Order → List ℕ → Entry
front_entry o bytes = record {
  seconds = number_of_four o bytes;
  fraction = number_of_four o (after_four bytes);
  original = number_of_four o (after_four (after_four (after_four bytes)));
  frame = take (captured_length o bytes) (body bytes);
}

-- a whole record is at the front
pub record IsRecord (o : Order) (bytes : List ℕ) : Type 0 where
  pub long : 16 ≤ length bytes
  pub short : captured_length o bytes ≤ longest_frame
  pub there : 16 + captured_length o bytes ≤ length bytes

-- the record at the front says that it is too long
abbrev pub IsLong : Order → List ℕ → Type 0
IsLong o bytes = (16 ≤ length bytes) × (longest_frame < captured_length o bytes)

-- bytes are left, and no whole record is at the front
abbrev pub IsStuck : Order → List ℕ → Type 0
IsStuck o bytes = IsCut o bytes ⊎ IsLong o bytes

-- the records are those of some entries, and then there is a rest
pub record IsAfter (o : Order) (first : List Entry) (rest records : List ℕ) : Type 0 where
  pub text : records ≡ flat_map (record_text o) first ++ rest
  pub fit : AllByRecursion Fits first

-- the entries at these places
abbrev pub entries_at : Order → List ℕ → List ℕ → List Entry
entries_at o records places = map (λ p. front_entry o (drop p records)) places

-- whole records are at these places, which are no more than a capture has bytes
pub record ArePlaces (o : Order) (records places : List ℕ) : Type 0 where
  pub whole : All (λ p. IsRecord o (drop p records)) places
  pub few : length places ≤ longest_capture
