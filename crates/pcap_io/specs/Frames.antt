-- Where the bytes of frames lie.
use Rattle.std.specs.Prelude.{ℕ, ◌+◌, ◌≤◌, List, take, drop, vec_len}
use Rattle.std.specs.Arc.{arc_value}
use Rattle.pcap_io.specs.declared.frame.Bytes.{Bytes}
use Rattle.pcap_io.specs.declared.frame.Bytes.TheVariants.{Own, Shared}

abbrev pub frame_bytes : Bytes → List ℕ
frame_bytes (Own list) = list.items
frame_bytes (Shared store start len) = take len (drop start (arc_value store).items)

-- shared bytes lie in their store
abbrev pub IsInStore : Bytes → Type 0
IsInStore (Own list) = Unit {0}
IsInStore (Shared store start len) = start + len ≤ vec_len (arc_value store)
