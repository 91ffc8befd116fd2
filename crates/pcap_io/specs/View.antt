-- The crate's own types, as the definitions of the product name them.
use Rattle.std.specs.Prelude.{◌≡◌, ℕ, ◌+◌, List, length}
use Rattle.brick_spec.specs.Bytes as bytes
use Rattle.brick_spec.specs.Capture as spec
use Rattle.brick_spec.specs.CaptureFault as faults
use Rattle.brick_spec.specs.Item as items
use Rattle.pcap_io.specs.Reading as reading
use Rattle.pcap_io.specs.declared.entry.Entry.{Entry}
use Rattle.pcap_io.specs.declared.fault.CaptureFault.{CaptureFault}
use Rattle.pcap_io.specs.declared.fault.CaptureFault.TheVariants.{ShortHeader, Magic, Version, Link, CutRecord}
use Rattle.pcap_io.specs.declared.fault.CaptureFault.TheVariants.{LongRecord, NoMemory}
use Rattle.pcap_io.specs.declared.item.Item.{Item}
use Rattle.pcap_io.specs.declared.lent.LentItem.{LentItem}
use Rattle.pcap_io.specs.declared.number.Order.{Order}
use Rattle.pcap_io.specs.declared.number.Order.TheVariants.{Little, Big}
use Rattle.pcap_io.specs.declared.record.Stuck.{Stuck}
use Rattle.pcap_io.specs.declared.record.Stuck.TheVariants.{Cut, Long}

-- a lent record, without where it lies
abbrev pub entry_view : Entry → spec.Entry
entry_view e = record { seconds = e.seconds; fraction = e.fraction; original = e.original; frame = e.frame.now }

abbrev pub item_view : Item → items.Item
item_view i = record {
  a = i.a;
  j = i.j;
  seconds = i.seconds;
  fraction = i.fraction;
  original = i.original;
  frame = i.frame;
}

-- an item that owns what a lent one has
abbrev pub own_item : LentItem → Item
own_item l = record {
  a = l.a;
  j = l.j;
  seconds = l.seconds;
  fraction = l.fraction;
  original = l.original;
  frame = l.frame.now;
}

abbrev pub lent_view : LentItem → items.Item
lent_view l = item_view (own_item l)

abbrev pub order_view : Order → bytes.Order
order_view Little = bytes.Little
order_view Big = bytes.Big

-- The fault stands in the bytes. Want of memory says nothing of them.
abbrev pub StandsIn : List ℕ → CaptureFault → Type 0
StandsIn bytes (ShortHeader len) = faults.Stands bytes (faults.ShortHeader len)
StandsIn bytes (Magic word) = faults.Stands bytes (faults.Magic word)
StandsIn bytes (Version major minor) = faults.Stands bytes (faults.Version major minor)
StandsIn bytes (Link word) = faults.Stands bytes (faults.Link word)
StandsIn bytes (CutRecord number at) = faults.Stands bytes (faults.CutRecord number at)
StandsIn bytes (LongRecord number len) = faults.Stands bytes (faults.LongRecord number len)
StandsIn bytes NoMemory = Unit {0}

-- no whole record is at the front of bytes, for this reason
abbrev pub IsStuckBy : bytes.Order → List ℕ → Stuck → Type 0
IsStuckBy o bytes Cut = faults.IsCut o bytes
IsStuckBy o bytes (Long len) = reading.IsLong o bytes × (len ≡ faults.captured_length o bytes)

-- the fault of a record of this number at this place of the file
abbrev pub record_fault_of : ℕ → ℕ → Stuck → CaptureFault
record_fault_of number at Cut = CutRecord number at
record_fault_of number at (Long len) = LongRecord number len

-- The records behind a file header are some whole ones, and then one with this fault.
abbrev pub StandsInRecords : bytes.Order → List ℕ → CaptureFault → Type 0
StandsInRecords o records (ShortHeader len) = ⊥
StandsInRecords o records (Magic word) = ⊥
StandsInRecords o records (Version major minor) = ⊥
StandsInRecords o records (Link word) = ⊥
StandsInRecords o records (CutRecord number at) =
    (first : List spec.Entry) × (rest : List ℕ) × reading.IsAfter o first rest records
    × faults.IsCut o rest × (number ≡ length first) × (at + length rest ≡ 24 + length records)
StandsInRecords o records (LongRecord number len) =
    (first : List spec.Entry) × (rest : List ℕ) × reading.IsAfter o first rest records
    × reading.IsLong o rest × (len ≡ faults.captured_length o rest) × (number ≡ length first)
StandsInRecords o records NoMemory = Unit {0}
