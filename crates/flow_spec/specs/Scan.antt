-- Stage `scan`: a flow is stopped once the bytes of one of its TCP streams, in order, contain a text.
use Rattle.std.specs.Prelude.{ℕ, nat_eq, Bool, ◌||◌, List, [], ◌∷◌, ◌++◌, length, drop, find, Option, Some, None}
use Rattle.std.specs.Prelude.{is_some, if◌then◌else◌, Ok, Err}
use Rattle.std.specs.List.{range_with_len, starts_with}
use Rattle.brick_spec.specs.Flow.{Forward, Reversed}
use Rattle.brick_spec.specs.FlowStage.{FlowItem, FlowOutput, FlowStage, nothing, left_by}
use Rattle.brick_spec.specs.Stage.{Filter}
use Rattle.brick_spec.specs.Stream.{StreamSegment}
use Rattle.flow_spec.specs.FlowStream.{segment_of, stream_of, bytes_in_order}

-- the text stands in the bytes at a place
abbrev pub stands_at : List ℕ → List ℕ → ℕ → Bool
stands_at text bytes place = starts_with nat_eq (drop place bytes) text

-- the place of the first occurrence of a text, which is not empty, in the bytes
abbrev pub first_occurrence : List ℕ → List ℕ → Option ℕ
first_occurrence text bytes = find (stands_at text bytes) (range_with_len 0 (length bytes))

abbrev pub occurs_in : List ℕ → List ℕ → Bool
occurs_in text bytes = is_some (first_occurrence text bytes)

-- the text occurs in one of the two streams of these items
abbrev pub is_found : List ℕ → ℕ → List FlowItem → Bool
is_found text reach items = occurs_in text (bytes_in_order (stream_of reach Forward items)) || occurs_in text
    (bytes_in_order (stream_of reach Reversed items))

-- An item without the TCP layer passes. Another is dropped where the text occurs in the streams of the items up to it,
-- whether or not these were dropped here.
abbrev pub scanned : Bool → FlowItem → Option StreamSegment → FlowOutput
scanned found x None = left_by x (Ok x.item)
scanned found x (Some s) = left_by x (if found then Err Filter else Ok x.item)

abbrev pub scan_stage : List ℕ → ℕ → FlowStage
scan_stage text reach = record {
  on_item = λ before x. scanned (is_found text reach (before ++ x ∷ [])) x (segment_of x.item);
  at_end = λ all n. nothing;
}
