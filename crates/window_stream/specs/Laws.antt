-- What L is, and where a segment stands, in the words of RFC 793, 3.3.
use Rattle.std.specs.Prelude.{ℕ, ◌≡◌, ◌<◌, ◌≤◌, ◌^◌, ◌↔◌, List, [], None}
use Rattle.brick_spec.specs.Stream.{StreamSegment, Payload, IsCovered, ready_of, IsPlace, place_of, reassembly}

-- n is the greatest number such that every position below it is covered
pub record IsGreatestCovered (payloads : List Payload) (n : ℕ) : Type 0 where
  pub covered : (q : ℕ) → q < n → IsCovered payloads q
  pub greatest : (m : ℕ) → ((q : ℕ) → q < m → IsCovered payloads q) → m ≤ n

abbrev pub ReadyIsGreatest : Type 0
ReadyIsGreatest = (payloads : List Payload) → IsGreatestCovered payloads (ready_of payloads)

-- it is a place of the data, and no other number is
pub record IsOnlyPlace (ready base start place : ℕ) : Type 0 where
  pub is : IsPlace ready base start place
  pub only : (other : ℕ) → IsPlace ready base start other → other ≡ place

abbrev pub PlaceIsOnly : Type 0
PlaceIsOnly = (ready base start : ℕ) → base < 2 ^ 32 → IsOnlyPlace ready base start (place_of ready base start)

-- there is no base exactly where no segment came
abbrev pub BaseIsOfFirst : Type 0
BaseIsOfFirst =
    (reach : ℕ) (segments : List StreamSegment) → ((reassembly reach segments).base ≡ None) ↔ (segments ≡ [])
