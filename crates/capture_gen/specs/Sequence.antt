-- What a number of the sequence tells of its record, and the frame that comes of it.
use Rattle.std.specs.Prelude.{ℕ, ◌+◌, ◌*◌, ◌%◌, ◌^◌, nat_le, nat_eq, List, if◌then◌else◌}
use Rattle.brick_spec.specs.PacketizedWindow.{emitted_frame}
use Rattle.run_spec.specs.Generated.{data_of, other_frame, udp_frame, tcp_template}
use Rattle.capture_gen.specs.declared.sequence.Kind.{Kind}
use Rattle.capture_gen.specs.declared.sequence.Kind.TheVariants.{Other, Udp, Tcp}

-- the kind that a number from 0 to 19 tells
abbrev pub kind_of : ℕ → Kind
kind_of choice = if nat_eq choice 0 then Other else (if nat_le 10 choice then Tcp else Udp)

-- the TCP frame of record k, before which so many TCP records of its host come
abbrev pub tcp_frame_of : ℕ → ℕ → ℕ → List ℕ
tcp_frame_of host earlier k = emitted_frame (tcp_template host) ((1 + 100 * earlier) % 2 ^ 32) (data_of k 100)

-- the frame of record k
abbrev pub frame_of : Kind → ℕ → ℕ → ℕ → List ℕ
frame_of Other host earlier k = other_frame
frame_of Udp host earlier k = udp_frame host k
frame_of Tcp host earlier k = tcp_frame_of host earlier k
