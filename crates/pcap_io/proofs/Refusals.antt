-- A record that is stuck behind whole ones is the fault of the records.
use Rattle.std.proofs.Common.{◌≡◌, ℕ, ◌+◌, ◌≤◌, List, ◌++◌, length, drop, sym, length-drop, arith}
use Rattle.std.specs.Prelude.{flat_map}
use Rattle.std.specs.List.{AllByRecursion}
use Rattle.brick_spec.specs.Bytes.{Order}
use Rattle.brick_spec.specs.Capture.{Fits, record_text}
use Rattle.pcap_io.specs.Reading.{entries_at}
use Rattle.pcap_io.specs.View.{IsStuckBy, record_fault_of, StandsInRecords}
use Rattle.pcap_io.specs.declared.record.Stuck.{Stuck}
use Rattle.pcap_io.specs.declared.record.Stuck.TheVariants.{Cut, Long}
use Rattle.pcap_io.proofs.Captures.{entries_count}

-- records whose places are known, and then one that is stuck
pub stuck_there : (o : Order) (records places : List ℕ) (at : ℕ) (stuck : Stuck) → records ≡ flat_map (record_text o) (entries_at o records places) ++ drop at records
    → AllByRecursion Fits (entries_at o records places) → at ≤ length records → IsStuckBy o (drop at records) stuck
    → StandsInRecords o records (record_fault_of (length places) (24 + at) stuck)
stuck_there o records places at Cut text fit within cut = (
  entries_at o records places,
  drop at records,
  record { text = text; fit = fit },
  cut,
  sym (entries_count o records places),
  omega (arith, length-drop at records),
)
stuck_there o records places at (Long len) text fit within (long, is) = (
  entries_at o records places,
  drop at records,
  record { text = text; fit = fit },
  long,
  is,
  sym (entries_count o records places),
)
