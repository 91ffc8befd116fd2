-- What the generated capture says.
use Rattle.std.specs.Prelude.{ℕ, ◌*◌, ◌/◌, ◌%◌, false, List, length}
use Rattle.brick_spec.specs.Capture.{Entry, Contents}
use Rattle.run_spec.specs.Generated.{generated_entries}

-- record k, with this frame
abbrev pub entry_of_frame : ℕ → List ℕ → Entry
entry_of_frame k frame = record {
  seconds = k / 1000;
  fraction = k % 1000 * 1000;
  original = length frame;
  frame = frame;
}

-- so many records, in microseconds
abbrev pub generated_contents : ℕ → ℕ → Contents
generated_contents first count = record { nano = false; entries = generated_entries first count }
