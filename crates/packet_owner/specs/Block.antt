-- What a buffer keeps in one place, as a packet.
use Rattle.std.specs.Prelude.{ℕ, ◌≤◌, ◌<◌, ◌^◌, List, length, take, vec_len, vec_capacity, map, reverse}
use Rattle.brick_spec.specs.Layer.{Layer}
use Rattle.packet_owner.specs.Packet.{PacketModel, AreNested, place_view}
use Rattle.packet_owner.specs.declared.buffer.Block.{Block}
use Rattle.packet_owner.specs.declared.place.Place.{Place}

-- the layers that stand at the first places, of which there are so many, the innermost first
abbrev pub layers_in : ℕ → List Place → List Layer
layers_in depth places = map place_view (reverse (take depth places))

-- a packet of which so many layers were read
abbrev pub packet_in : ℕ → Block → PacketModel
packet_in depth b = record {
  slot = b.slot;
  room = b.room;
  a = b.meta.a;
  j = b.meta.j;
  seconds = b.meta.seconds;
  fraction = b.meta.fraction;
  original = b.meta.original;
  frame = take b.len b.bytes.items;
  layers = layers_in depth b.places;
}

-- its bytes are no more than its room, and for so many there is memory
abbrev pub HasMemory : Block → Type 0
HasMemory b = (vec_len b.bytes ≤ b.room) × (b.room ≤ vec_capacity b.bytes) × (b.room < 2 ^ 32)

-- its frame is in its memory, and its layers, of which there are so many, stand in the frame
abbrev pub IsSound : ℕ → Block → Type 0
IsSound depth b =
    HasMemory b × (b.len ≤ vec_len b.bytes) × (depth ≤ length b.places) × AreNested (layers_in depth b.places) b.len
