use Rattle.pcap_io.proofs.Captures.{capture_unique}
use Rattle.pcap_io.proofs.laws.capture_is_unique.Goals as goal

pub returns : goal.returns
returns c = λ bytes o p n m es fs. capture_unique o p n m es fs bytes
