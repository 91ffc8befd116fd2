use Rattle.brick_spec.specs.Layer.{header_in}
use Rattle.eth_ip.proofs.Right.{layer_header, stays_right}
use Rattle.eth_ip.proofs.laws.edits_keep_right.Goals as goal

pub returns : goal.returns
returns c = λ frame l fits h right. stays_right (header_in frame l) (layer_header frame l fits h) right
