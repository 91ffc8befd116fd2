-- The frames of a capture.
use Rattle.std.specs.Prelude.{ℕ, List, map}
use Rattle.brick_spec.specs.Capture.{Contents, Entry}

abbrev pub frames_of : Contents → List (List ℕ)
frames_of c = map (λ (e : Entry). e.frame) c.entries
