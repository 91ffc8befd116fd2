use Rattle.std.proofs.Common.{◌+◌, ◌∙◌, ap, length}
use Rattle.brick_spec.specs.Checksum.{folded, sum_of_words}
use Rattle.std.proofs.lemmas.List.{take_rest}
use Rattle.tcp_udp.proofs.Sums.{checksum-parts}
use Rattle.tcp_udp.proofs.transport.segment_checksum.Goals as goal

pub returns : goal.returns
returns c =
    let rest = c.add_words-rest.ensures ∙ ap (λ p. folded (p + length c.args.segment.now)) c.header_protocol.ensures in
    let back = c.sum_words-back.ensures ∙ ap (λ xs. folded (sum_of_words xs)) (take_rest c.args.segment.now (c.args.at + 2)) in
    checksum-parts c.args.header.now c.args.segment.now c.args.at c.sum_words-addresses.result c.add_words-rest.result c.sum_words-front.result c.sum_words-back.result c.add_words.result c.add_words-2.result
    c.add_words-3.result c.requires.outer c.requires.even c.requires.within c.requires.fits c.sum_words-addresses.ensures rest c.sum_words-front.ensures back c.add_words.ensures
    c.add_words-2.ensures c.add_words-3.ensures
