-- The passes of the rings change one after another.
use Rattle.std.proofs.Common.{◌≡◌, ℕ, ◌+◌, ◌≤◌, List, length, set, arith}
use Rattle.std.specs.Prelude.{slice_get, Some}
use Rattle.std.proofs.lemmas.Option.{slice_get_within}
use Rattle.lane_queue.specs.Lists.{Each}
use Rattle.lane_queue.specs.Seats.{IsAmong}
use Rattle.lane_queue.proofs.Lists.{each_set}

module _ {X Y : Type 0} (First Later : ℕ → X → Y → Type 0) where
  pub none_yet : (qs : List X) (ps : List Y) → Each Later qs ps → Each (λ w q p. IsAmong 0 w (First w q p) (Later w q p)) qs ps
  none_yet qs ps all w q p eq ep = record { among = λ lt. absurd (omega arith); behind = λ le. all w q p eq ep }

  pub one_more : (n : ℕ) (qs : List X) (ps : List Y) (q : X) (p : Y) → slice_get qs n ≡ Some q → First n q p → Each (λ w q p. IsAmong n w (First w q p) (Later w q p)) qs ps
      → Each (λ w q p. IsAmong (n + 1) w (First w q p) (Later w q p)) qs (set ps n p)
  one_more n qs ps q p there new all = each_set (λ w q p. IsAmong n w (First w q p) (Later w q p)) (λ w q p. IsAmong (n + 1) w (First w q p) (Later w q p)) qs ps n q p there
      record { among = λ lt. new; behind = λ le. absurd (omega arith) }
      (λ k a b ne h. record { among = λ lt. h.among (omega arith); behind = λ le. h.behind (omega arith) })
      all

  pub all_passed : (n : ℕ) (qs : List X) (ps : List Y) → length ps ≤ n → Each (λ w q p. IsAmong n w (First w q p) (Later w q p)) qs ps → Each First qs ps
  all_passed n qs ps long all w q p eq ep = let lt = slice_get_within ps w p ep in (all w q p eq ep).among (omega arith)
