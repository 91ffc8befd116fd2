-- Two files and their texts.
use Rattle.std.specs.Prelude.{ℕ, List, [], ◌∷◌}
use Rattle.brick_spec.specs.Texts.{Text}

abbrev pub two_texts : List ℕ → List ℕ → List ℕ → List ℕ → List Text
two_texts first first_bytes second second_bytes = record { name = first; bytes = first_bytes }
    ∷ record { name = second; bytes = second_bytes } ∷ []
