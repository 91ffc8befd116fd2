-- The stored logs, ring by ring.
use Rattle.std.proofs.Common.{◌≡◌, ℕ, zero, suc, ◌<◌, ◌≤◌, List, [], ◌∷◌, length, get_or, set, refl, ap, arith}
use Rattle.lane_core.specs.Log.{LogModel}
use Rattle.lane_core.specs.View.{pairs_in}
use Rattle.lane_core.specs.Seats.{log_of}
use Rattle.lane_table.specs.Logs.{rooms_in}

pub log_is : (l : List LogModel) (w : ℕ) (d : LogModel) → w < length l → (get_or l w d).pairs ≡ log_of (pairs_in l) w
log_is [] w d lt = absurd (omega arith)
log_is (y ∷ ys) zero d lt = refl
log_is (y ∷ ys) (suc w) d lt = log_is ys w d (omega arith)

pub room_is : (l : List LogModel) (w : ℕ) (d : LogModel) → w < length l → (get_or l w d).room ≡ get_or (rooms_in l) w 0
room_is [] w d lt = absurd (omega arith)
room_is (y ∷ ys) zero d lt = refl
room_is (y ∷ ys) (suc w) d lt = room_is ys w d (omega arith)

pub pairs_set : (l : List LogModel) (w : ℕ) (x : LogModel) → pairs_in (set l w x) ≡ set (pairs_in l) w x.pairs
pairs_set [] w x = refl
pairs_set (y ∷ ys) zero x = refl
pairs_set (y ∷ ys) (suc w) x = ap (λ t. y.pairs ∷ t) (pairs_set ys w x)

pub rooms_set : (l : List LogModel) (w : ℕ) (x d : LogModel) → w < length l → (get_or l w d).room ≤ x.room → (k : ℕ) → get_or (rooms_in l) k 0 ≤ get_or (rooms_in (set l w x)) k 0
rooms_set [] w x d lt le k = absurd (omega arith)
rooms_set (y ∷ ys) zero x d lt le zero = le
rooms_set (y ∷ ys) zero x d lt le (suc k) = omega arith
rooms_set (y ∷ ys) (suc w) x d lt le zero = omega arith
rooms_set (y ∷ ys) (suc w) x d lt le (suc k) = rooms_set ys w x d (omega arith) le k
