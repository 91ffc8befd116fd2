-- Rising numbers, of which a greater one comes last.
use Rattle.std.proofs.Common.{◌≡◌, ℕ, zero, suc, ◌<◌, List, [], ◌∷◌, ◌++◌, length, subst, sym, arith}
use mathlib.Core.Option.{some, some-injective, some-ne-none}
use lib.ListN.{get_elem?}
use native.Mathlib.Decide.{dec_le}
use Rattle.std.proofs.lemmas.List.{get_or_past}
use Rattle.std.proofs.lemmas.List.Elements.{All-nil, All-cons, All-head, All-tail, All-get_or}
use Rattle.lane_spec.specs.Pairs.{Pair, AreBelow}
use Rattle.lane_core.specs.Seats.{log_of, AreAllBelow}
use Rattle.lane_table.specs.Rule.{Below, Above, IsRising}

above_last : (a : ℕ) (ps : List Pair) (q : Pair) → Above a ps → a < q.1 → Above a (ps ++ q ∷ [])
above_last a [] q h lt = (lt, tt)
above_last a (p ∷ ps) q h lt = (h.0, above_last a ps q h.1 lt)

pub rising_last : (ps : List Pair) (q : Pair) → IsRising ps → Below q.1 ps → IsRising (ps ++ q ∷ [])
rising_last [] q r b = (tt, tt)
rising_last (p ∷ ps) q r b = (above_last p.1 ps q r.0 b.0, rising_last ps q r.1 b.1)

pub below_at : (k : ℕ) (ps : List Pair) (i : ℕ) (p : Pair) → Below k ps → get_elem? ps i ≡ some p → p.1 < k
below_at k [] i p b e = absurd (some-ne-none p (sym e))
below_at k (q ∷ qs) zero p b e = subst (λ (x : Pair). x.1 < k) (some-injective q p e) b.0
below_at k (q ∷ qs) (suc i) p b e = below_at k qs i p b.1 e

above_at : (a : ℕ) (ps : List Pair) (i : ℕ) (p : Pair) → Above a ps → get_elem? ps i ≡ some p → a < p.1
above_at a [] i p b e = absurd (some-ne-none p (sym e))
above_at a (q ∷ qs) zero p b e = subst (λ (x : Pair). a < x.1) (some-injective q p e) b.0
above_at a (q ∷ qs) (suc i) p b e = above_at a qs i p b.1 e

-- what comes next after a beginning is above all of it
pub next_above : (got : List Pair) (q : Pair) (rest : List Pair) → IsRising (got ++ q ∷ rest) → Below q.1 got
next_above [] q rest r = tt
next_above (p ∷ ps) q rest r = (after ps r.0, next_above ps q rest r.1) where
  after : (qs : List Pair) → Above p.1 (qs ++ q ∷ rest) → p.1 < q.1
  after [] h = h.0
  after (x ∷ xs) h = after xs h.1

-- the two forms of a bound
pub below_from : (k : ℕ) (ps : List Pair) → AreBelow k ps → Below k ps
below_from k [] h = tt
below_from k (p ∷ ps) h = (All-head (λ (q : Pair). q.1 < k) p ps h, below_from k ps (All-tail (λ (q : Pair). q.1 < k) p ps h))

pub are_below : (k : ℕ) (ps : List Pair) → Below k ps → AreBelow k ps
are_below k [] h = All-nil (λ (q : Pair). q.1 < k)
are_below k (p ∷ ps) h = All-cons (λ (q : Pair). q.1 < k) p ps h.0 (are_below k ps h.1)

pub each_below : (k : ℕ) (logs : List (List Pair)) → AreAllBelow k logs → (y : ℕ) → Below k (log_of logs y)
each_below k logs h y = elim (dec_le (length logs) y) [
  | yes le ↦ subst (Below k) (sym (get_or_past logs y [] le)) tt
  | no not ↦ below_from k (log_of logs y) (All-get_or (AreBelow k) logs y [] (omega arith) h)
]
