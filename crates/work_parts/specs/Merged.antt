-- Answers joined to one: the items of each leaf group in the order of keys, and the counts added up.
use Rattle.std.specs.Prelude.{ℕ, List, [], map, flat_map, min, slice_index}
use Rattle.std.specs.List.{range_with_len, slice_index_or, sum_by}
use Rattle.brick_spec.specs.GroupOutput.{in_key_order}
use Rattle.brick_spec.specs.Item.{Item}
use Rattle.flow_spec.specs.Answer.{Answer}

-- what an answer gives a leaf group
abbrev pub given_by : ℕ → Answer → List Item
given_by g a = slice_index_or a.groups g []

-- A leaf group's items: what each answer gives it, in the order of keys. Of one key the earlier answer's stands first.
abbrev pub merged_group : List Answer → ℕ → List Item
merged_group answers g = in_key_order (flat_map (given_by g) answers)

-- how many items an answer counts for the reason of this place
abbrev pub counted_by : ℕ → Answer → ℕ
counted_by place a = slice_index a.drops place

-- what the answers count for it together, in 32 bits, which stand still at the last value
abbrev pub merged_count : List Answer → ℕ → ℕ
merged_count answers place = min 4294967295 (sum_by (counted_by place) answers)

-- the answers of many works as one, where there are so many leaf groups
abbrev pub merged : ℕ → List Answer → Answer
merged leaves answers = record {
  groups = map (merged_group answers) (range_with_len 0 leaves);
  drops = map (merged_count answers) (range_with_len 0 9);
}
