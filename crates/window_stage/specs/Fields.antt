-- What is read of a segment.
use Rattle.std.specs.Prelude.{ℕ, ◌≡◌, List, slice_range, Some}
use Rattle.brick_spec.specs.Layer.{Layer, header_in, tcp_layer}
use Rattle.brick_spec.specs.Stream.{StreamSegment}
use Rattle.tcp_udp.specs.PlacesIn.{ArePlaces}
use Rattle.window_stage.specs.declared.fields.SegmentFields.{SegmentFields}
use Rattle.flow_spec.specs.FlowStream.{segment_at}
use Rattle.flow_spec.specs.Window.{is_marked}

-- the segment that was read, of its frame
abbrev pub fields_segment : List ℕ → SegmentFields → StreamSegment
fields_segment frame s = record { seq = s.seq; syn = s.syn; bytes = slice_range frame s.places.payload s.places.end }

-- it was read of a frame whose TCP layer is this
pub record HasFieldsAt (frame : List ℕ) (s : SegmentFields) (layer : Layer) : Type 0 where
  pub segment : fields_segment frame s ≡ segment_at frame layer
  pub marked : s.marked ≡ is_marked (header_in frame layer)
  pub places : ArePlaces frame s.places

pub record HasFields (frame : List ℕ) (s : SegmentFields) : Type 0 where
  pub layer : Layer
  pub is : tcp_layer frame ≡ Some layer
  pub at : HasFieldsAt frame s layer
