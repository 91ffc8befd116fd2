use Rattle.std.proofs.Common.{◌≡◌, ◌-◌, ◌≤◌, ◌++◌, length, drop}
use Rattle.std.specs.Prelude.{All, flat_map}
use Rattle.std.specs.List.{AllByRecursion}
use Rattle.brick_spec.specs.Capture.{Fits, record_text}
use Rattle.pcap_io.specs.Reading.{entries_at, IsRecord}
use Rattle.pcap_io.specs.View.{order_view}
use Rattle.pcap_io.proofs.capture.places_of.Given as goal

abbrev pub invariant-loop-at : goal.invariant-loop-at
invariant-loop-at l = record {
  text : l.records ≡ flat_map (record_text (order_view l.order)) (entries_at (order_view l.order) l.records l.places.items) ++ drop l.at l.records;
  fit : AllByRecursion Fits (entries_at (order_view l.order) l.records l.places.items);
  whole : All (λ p. IsRecord (order_view l.order) (drop p l.records)) l.places.items;
  few : length l.places.items ≤ l.at;
  within : l.at ≤ length l.records;
}

abbrev pub decreases-loop-at : goal.decreases-loop-at
decreases-loop-at l = length l.records - l.at
