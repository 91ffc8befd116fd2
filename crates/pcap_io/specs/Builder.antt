-- Items whose frames lie one behind another in the same bytes.
use Rattle.std.specs.Prelude.{ℕ, ◌+◌, ◌≤◌, List, length, map, take, drop}
use Rattle.std.specs.List.{AllByRecursion}
use Rattle.pcap_io.specs.declared.builder.Head.{Head}
use Rattle.pcap_io.specs.declared.item.Item.{Item}

-- a list of items as it grows
pub record ItemsBuilderModel : Type 0 where
  -- in the order in which they came
  pub items : List Item

abbrev pub item_of_head : List ℕ → Head → Item
item_of_head bytes h = record {
  a = h.a;
  j = h.j;
  seconds = h.seconds;
  fraction = h.fraction;
  original = h.original;
  frame = take h.len (drop h.start bytes);
}

abbrev pub items_of_heads : List ℕ → List Head → List Item
items_of_heads bytes heads = map (item_of_head bytes) heads

-- the frame lies in the bytes
abbrev pub HasFrameIn : List ℕ → Head → Type 0
HasFrameIn bytes h = h.start + h.len ≤ length bytes

abbrev pub HaveFramesIn : List ℕ → List Head → Type 0
HaveFramesIn bytes heads = AllByRecursion (HasFrameIn bytes) heads
