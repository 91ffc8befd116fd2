use Rattle.pcap_io.proofs.Faults.{one_fault}
use Rattle.pcap_io.proofs.laws.fault_is_unique.Goals as goal

pub returns : goal.returns
returns c = one_fault
