use Rattle.pcap_io.proofs.Faults.{whole_or_faulty}
use Rattle.pcap_io.proofs.laws.each_is_whole_or_faulty.Goals as goal

pub returns : goal.returns
returns c = whole_or_faulty
