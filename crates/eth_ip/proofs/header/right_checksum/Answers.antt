use Rattle.std.proofs.Common.{◌-◌, ◌∙◌, refl}
use Rattle.std.proofs.lemmas.List.{take_rest}
use Rattle.brick_spec.specs.Checksum.{adjusted}
use Rattle.eth_ip.proofs.Right.{checksum-apart}
use Rattle.eth_ip.proofs.header.right_checksum.Goals as goal

pub returns : goal.returns
returns c =
    c.adjust.ensures
    ∙ ((λ i. adjusted (c.checksum-front.ensures i) 65535 (65535 - c.checksum-back.ensures i)) ∙ checksum-apart c.args.header.now _ _ c.requires refl (take_rest c.args.header.now 12))
