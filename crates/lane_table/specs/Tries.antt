-- What tries of buffers' words tell, by the counts of finds before and after.
use Rattle.std.specs.Prelude.{◌≡◌, ℕ, ◌<◌, ◌≤◌, List, length, get_or}
use Rattle.lane_spec.specs.Counts.{times}
use Rattle.lane_table.specs.declared.view.SeatView.{SeatView}

-- a view with other counts of finds
abbrev pub looked_at : List ℕ → SeatView → SeatView
looked_at found v = record v { found = found }

-- the words from `from` on, before `to`, were found taken, and no other was tried
pub record FoundTaken (from to : ℕ) (claimed before now : List ℕ) : Type 0 where
  pub count : length now ≡ length before
  pub given : (j : ℕ) → from ≤ j → j < to → 0 < times j claimed
  pub rose : (j : ℕ) → from ≤ j → j < to → get_or before j 0 < get_or now j 0
  pub below : (j : ℕ) → j < from → get_or now j 0 ≡ get_or before j 0
  pub above : (j : ℕ) → to ≤ j → get_or now j 0 ≡ get_or before j 0

-- word i was not found taken, and no count fell
pub record FoundFree (i : ℕ) (before now : List ℕ) : Type 0 where
  pub count : length now ≡ length before
  pub later : (j : ℕ) → get_or before j 0 ≤ get_or now j 0
  pub here : get_or now i 0 ≡ get_or before i 0
