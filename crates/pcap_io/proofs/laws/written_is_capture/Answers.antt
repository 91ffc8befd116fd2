use Rattle.pcap_io.proofs.Captures as captures
use Rattle.pcap_io.proofs.laws.written_is_capture.Goals as goal

pub returns : goal.returns
returns c = captures.written_is_capture
