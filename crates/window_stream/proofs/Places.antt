-- L is the greatest, and a place the only one.
use Rattle.brick_spec.specs.Stream.{ready_of, place_of}
use Rattle.brick_spec.proofs.Streams.{ready_is, is_greatest, place_is, one_place}
use Rattle.window_stream.specs.Laws.{ReadyIsGreatest, PlaceIsOnly}

pub ready_is_greatest : ReadyIsGreatest
ready_is_greatest payloads = record {
  covered = (ready_is payloads).below;
  greatest = λ m below. is_greatest payloads (ready_of payloads) m (ready_is payloads) below;
}

pub place_is_only : PlaceIsOnly
place_is_only ready base start few = record {
  is = place_is ready base start few;
  only = λ other is. one_place ready base start other (place_of ready base start) is (place_is ready base start few);
}
