-- The stored logs of a seat.
use Rattle.std.specs.Prelude.{ℕ, List, map}
use Rattle.lane_core.specs.Log.{LogModel}

-- how many pairs each log has room for
abbrev pub rooms_in : List LogModel → List ℕ
rooms_in logs = map (λ (l : LogModel). l.room) logs
