-- The frames: how long they are, and that a record's is the one of its number.
use Rattle.std.proofs.Common.{◌≡◌, ℕ, ◌≤◌, Bool, true, false, nat_le, nat_eq, if◌then◌else◌, length, refl, arith}
use Rattle.run_spec.specs.Generated.{other_frame, udp_frame}
use Rattle.capture_gen.specs.Sequence.{kind_of, tcp_frame_of, frame_of}
use Rattle.capture_gen.specs.declared.sequence.Kind.{Kind}
use Rattle.capture_gen.specs.declared.sequence.Kind.TheVariants.{Other, Udp, Tcp}

length-other : length other_frame ≡ 60
length-other = refl

length-udp : (host k : ℕ) → length (udp_frame host k) ≡ 74
length-udp host k = refl

length-tcp : (host earlier k : ℕ) → length (tcp_frame_of host earlier k) ≡ 154
length-tcp host earlier k = refl

pub frame_short : (kind : Kind) (host earlier k : ℕ) → length (frame_of kind host earlier k) ≤ 154
frame_short Other host earlier k = omega (arith, length-other)
frame_short Udp host earlier k = omega (arith, length-udp host k)
frame_short Tcp host earlier k = omega (arith, length-tcp host earlier k)

pub frame_by_choice : (choice host earlier k : ℕ)
    → frame_of (kind_of choice) host earlier k ≡ (if nat_eq choice 0 then other_frame else (if nat_le 10 choice then tcp_frame_of host earlier k else udp_frame host k))
frame_by_choice choice host earlier k = split (nat_eq choice 0) (nat_le 10 choice)
  where
    split : (b c : Bool) → frame_of (if b then Other else (if c then Tcp else Udp)) host earlier k ≡ (if b then other_frame else (if c then tcp_frame_of host earlier k else udp_frame host k))
    split true c = refl
    split false true = refl
    split false false = refl
