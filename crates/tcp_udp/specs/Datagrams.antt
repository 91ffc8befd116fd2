-- The IPv4 header of a frame and its payload.
use Rattle.std.specs.Prelude.{ℕ, ◌≡◌, ◌+◌, ◌%◌, ◌^◌, ◌<◌, ◌≤◌, Bool, List, length, Some}
use Rattle.brick_spec.specs.Layer.{Layer, header_in, payload_in, ip4_layer}
use Rattle.brick_spec.specs.Transport.{is_cut}

pub record IsDatagram (frame header payload : List ℕ) (cut : Bool) : Type 0 where
  pub layer : Layer
  pub is : ip4_layer frame ≡ Some layer
  pub header_is : header ≡ header_in frame layer
  pub payload_is : payload ≡ payload_in frame layer
  pub cut_is : cut ≡ is_cut frame layer
  pub long : 20 ≤ length header
  pub fits : length payload < 2 ^ 16
  pub even : length header % 2 ≡ 0
  pub starts : layer.start ≡ 14
  pub middle : layer.middle ≡ 14 + length header
  pub end : layer.end ≡ 14 + length header + length payload
  pub within : 14 + length header + length payload ≤ length frame
