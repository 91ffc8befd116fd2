-- What is read of a frame.
use Rattle.std.specs.Prelude.{ℕ, ◌≡◌, List, Some}
use Rattle.brick_spec.specs.Layer.{Layer, tcp_layer}
use Rattle.flow_spec.specs.FlowStream.{segment_at}
use Rattle.window_stream.specs.Answers.{segment_of}
use Rattle.window_stream.specs.declared.stream.Segment.{Segment}

-- the segment of a frame that has the TCP layer
pub record IsSegment (frame : List ℕ) (s : Segment) : Type 0 where
  pub layer : Layer
  pub is : tcp_layer frame ≡ Some layer
  pub segment : segment_of s ≡ segment_at frame layer
