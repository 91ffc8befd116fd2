use Rattle.tcp_udp.proofs.Frames.{tcp_law, udp_law}
use Rattle.tcp_udp.proofs.laws.transport_edits_keep_right.Goals as goal

pub returns : goal.returns
returns c = λ frame l t fits h ok. (λ k. tcp_law frame l t fits h ok k, λ k. udp_law frame l t fits h ok k)
