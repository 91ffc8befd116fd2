use Rattle.std.proofs.Common.{refl, lit<, lit≤}
use Rattle.brick_spec.specs.Bytes.{Big}
use Rattle.pcap_io.proofs.laws.foreign_capture_is_whole.Goals as goal

pub returns : goal.returns
unfolding Rattle.brick_spec.specs.Bytes.two_bytes Rattle.brick_spec.specs.Bytes.four_bytes
returns c = (
  Big,
  record {
    header = record { size = refl; begins = refl; version = refl; link = refl };
    records = refl;
    fit = (record { seconds = lit< tt; fraction = lit< tt; original = lit< tt; short = lit≤ tt }, tt);
  },
)
