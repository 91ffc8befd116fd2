-- Stages on a packet that was read up to its IPv4 layer.
use Rattle.std.proofs.Common.{◌≡◌, ℕ, ◌+◌, ◌≤◌, List, length, drop, Option, Some, None, ap, sym, subst, ◌∙◌, arith}
use Rattle.std.specs.Prelude.{Result, Ok, Err, is_none, if◌then◌else◌}
use Rattle.brick_spec.specs.Checksum.{adjusted}
use Rattle.brick_spec.specs.Edit.{ip4_edited}
use Rattle.brick_spec.specs.Header.{with_word, word_at}
use Rattle.brick_spec.specs.Item.{Item}
use Rattle.brick_spec.specs.Layer.{Layer, ip4_layer}
use Rattle.brick_spec.specs.Stage.{Reason, on_ip4, parsed_stage}
use Rattle.brick_spec.specs.Stage.Reason.{Unparsed}
use Rattle.brick_spec.proofs.Words.{length-with_word}
use Rattle.packet_owner.specs.Packet.{PacketModel, here_of, header_of, with_bytes, packet_item}
use Rattle.batch_ops.specs.Outlet.{keyed}
use Rattle.read_row.specs.Datagram.{ReadsIp4}
use Rattle.read_row.proofs.Datagrams.{header_read, closed_edited}
use Rattle.map_filter.specs.Stages.{with_item_header}
use Rattle.map_filter.specs.Closures.{TransformedAt, Transformed}

-- a frame without the IPv4 layer passes
pub passes_other : (i : Item) (does : Layer → Result Item Reason) → ip4_layer i.frame ≡ None → on_ip4 i does (ip4_layer i.frame) ≡ Ok i
passes_other i does e = ap (on_ip4 i does) e

-- what is done where there is one
pub does_at : (i : Item) (does : Layer → Result Item Reason) (l : Layer) → ip4_layer i.frame ≡ Some l → on_ip4 i does (ip4_layer i.frame) ≡ does l
does_at i does l e = ap (on_ip4 i does) e

-- an edit keeps the length of a header
pub length-ip4_edited : (header : List ℕ) (at w : ℕ) → at + 2 ≤ length header → 12 ≤ length header → length (ip4_edited header at w) ≡ length header
length-ip4_edited header at w h k =
    let first = length-with_word header at w h in
    length-with_word (with_word header at w) 10 (adjusted (word_at header 10) (word_at header at) w) (omega arith) ∙ first

-- a packet whose header was written over as a stage does it
pub kept_edited : (p q q' r : PacketModel) (ws : List ℕ) (does : Layer → Result Item Reason) → (reads : ReadsIp4 p q) → length ws ≡ length (header_of q) → q' ≡ with_bytes q (here_of q).start ws → r ≡ record q' { layers = drop 2 q'.layers }
    → does reads.layer ≡ Ok (with_item_header (packet_item p) reads.layer ws) → (on_ip4 (packet_item p) does (ip4_layer p.frame) ≡ Ok (packet_item r)) × (keyed r ≡ keyed p)
kept_edited p q q' r ws does reads long e close made =
    let is = closed_edited p q q' r ws reads long e close in
    (does_at (packet_item p) does reads.layer reads.is ∙ (made ∙ ap (λ (x : PacketModel). Ok (packet_item x)) (sym is)), ap keyed is)

-- a packet whose header was written over as a relation allows
pub transformed_edited : (edits : List ℕ → List ℕ → Type 0) (p q q' r : PacketModel) (ws : List ℕ) → (reads : ReadsIp4 p q) → length ws ≡ length (header_of q) → edits (header_of q) ws → q' ≡ with_bytes q (here_of q).start ws → r ≡ record q' { layers = drop 2 q'.layers }
    → Transformed edits (packet_item p) (packet_item r)
transformed_edited edits p q q' r ws reads long made e close =
    record {
      at = subst (λ (o : Option Layer). TransformedAt edits (packet_item p) (packet_item r) o) (sym reads.is)
          (ws, subst (λ (h : List ℕ). edits h ws) (header_read p q reads) made, ap packet_item (closed_edited p q q' r ws reads long e close));
    }

-- a packet without the IPv4 layer stays
pub transformed_none : (edits : List ℕ → List ℕ → Type 0) (p q : PacketModel) → q ≡ p → ip4_layer p.frame ≡ None → Transformed edits (packet_item p) (packet_item q)
transformed_none edits p q same none = record { at = subst (λ (o : Option Layer). TransformedAt edits (packet_item p) (packet_item q) o) (sym none) (ap packet_item same) }

-- whether there is an IPv4 layer
pub parsed_passes : (i : Item) (l : Layer) → ip4_layer i.frame ≡ Some l → parsed_stage i ≡ Ok i
parsed_passes i l e = ap (λ (o : Option Layer). if is_none o then Err Unparsed else Ok i) e

pub unparsed_drops : (i : Item) → ip4_layer i.frame ≡ None → parsed_stage i ≡ Err Unparsed
unparsed_drops i e = ap (λ (o : Option Layer). if is_none o then Err Unparsed else Ok i) e
