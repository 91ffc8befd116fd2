-- What edits of an IPv4 header do to its checksum.
use Rattle.std.specs.Prelude.{ℕ, ◌≡◌, ◌^◌, ◌<◌, List, Some}
use Rattle.brick_spec.specs.Bytes.{IsBytes}
use Rattle.brick_spec.specs.Layer.{Layer, header_in, ip4_layer}
use Rattle.brick_spec.specs.Edit.{with_tos, with_ttl, with_source, with_destination, with_total, IsIp4Right}

-- the checksum of the header is right after each edit of a field
pub record StaysRight (header : List ℕ) : Type 0 where
  pub tos : (v : ℕ) → v < 2 ^ 8 → IsIp4Right (with_tos header v)
  pub ttl : (v : ℕ) → v < 2 ^ 8 → IsIp4Right (with_ttl header v)
  pub source : (v : ℕ) → v < 2 ^ 32 → IsIp4Right (with_source header v)
  pub destination : (v : ℕ) → v < 2 ^ 32 → IsIp4Right (with_destination header v)
  pub total : (v : ℕ) → v < 2 ^ 16 → IsIp4Right (with_total header v)

-- Where a frame has the IPv4 layer, a header checksum that is right is right after each edit of a field.
abbrev pub EditsKeepRight : Type 0
EditsKeepRight = (frame : List ℕ) (l : Layer) → IsBytes frame → ip4_layer frame ≡ Some l
    → IsIp4Right (header_in frame l) → StaysRight (header_in frame l)
