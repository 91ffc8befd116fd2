-- Two lists side by side, and the stored logs of a seat.
use Rattle.std.specs.Prelude.{◌≡◌, ℕ, List, map, slice_get, Some}
use Rattle.lane_spec.specs.Counts.{total, times}
use Rattle.lane_spec.specs.Pairs.{Pair, slots_of}
use Rattle.lane_core.specs.Log.{LogModel}

-- this holds of each place of two lists
abbrev pub Each : {X Y : Type 0} → (ℕ → X → Y → Type 0) → List X → List Y → Type 0
Each {X} {Y} P xs ys = (w : ℕ) (x : X) (y : Y) → slice_get xs w ≡ Some x → slice_get ys w ≡ Some y → P w x y

-- this holds of what stands at one place of a list
abbrev pub AtPlace : {X : Type 0} → (X → Type 0) → List X → ℕ → Type 0
AtPlace {X} P xs w = (x : X) → slice_get xs w ≡ Some x → P x

-- how often a buffer stands in the logs
abbrev pub in_logs : ℕ → List (List Pair) → ℕ
in_logs i logs = total (λ (log : List Pair). times i (slots_of log)) logs

-- how many pairs each log has room for
abbrev pub rooms_in : List LogModel → List ℕ
rooms_in logs = map (λ (l : LogModel). l.room) logs
