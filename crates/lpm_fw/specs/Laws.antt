-- Right rows have one longest prefix for an address.
use Rattle.std.specs.Prelude.{ℕ, ◌≡◌, true, Some, List}
use Rattle.std.specs.List.{slice_get}
use Rattle.brick_spec.specs.Route.{Route, AreRight, is_longest}

abbrev pub OneLongestPrefix : Type 0
OneLongestPrefix = (rows : List Route) (addr a b : ℕ) (x y : Route) → AreRight rows
    → slice_get rows a ≡ Some x → slice_get rows b ≡ Some y → is_longest rows addr x ≡ true
    → is_longest rows addr y ≡ true → a ≡ b
