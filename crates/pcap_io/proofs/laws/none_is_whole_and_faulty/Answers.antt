use Rattle.pcap_io.proofs.Faults.{whole_no_fault}
use Rattle.pcap_io.proofs.laws.none_is_whole_and_faulty.Goals as goal

pub returns : goal.returns
returns c = whole_no_fault
