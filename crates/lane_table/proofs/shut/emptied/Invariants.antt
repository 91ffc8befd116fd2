use Rattle.std.proofs.Common.{◌≡◌, ℕ, ◌<◌, ◌≤◌, false, get_or}
use Rattle.std.specs.Slots.{slots_items, slots_filled, slots_len}
use Rattle.std.specs.Slots.Ownership.{Filled}
use Rattle.std.specs.Prelude.{vec_capacity, vec_len}
use Rattle.lane_table.specs.Rule.{numbers_from}
use Rattle.lane_table.proofs.shut.emptied.Given as goal

abbrev pub invariant-loop-i : goal.invariant-loop-i
invariant-loop-i l = record {
  left : Filled (slots_filled l.closed.slots) l.i (slots_len l.closed.slots);
  taken : (k : ℕ) → k < l.i → get_or (slots_filled l.closed.slots) k false ≡ false;
  items : slots_items l.closed.slots ≡ slots_items l.initial.closed.slots;
  len : slots_len l.closed.slots ≡ l.buffers;
  home : l.home.items ≡ numbers_from 0 l.i;
  count : vec_len l.home ≡ l.i;
  room : l.buffers ≤ vec_capacity l.home;
}
