use Rattle.std.proofs.Common.{◌≡◌, ◌∙◌, ap, List, ℕ, ◌+◌, ◌*◌, ◌%◌, ◌^◌, ◌++◌, replicate, sym, arith}
use Rattle.std.proofs.Math.Nat.{mod-eq_of_lt}
use Rattle.brick_spec.specs.Item.{Item}
use Rattle.brick_spec.specs.PacketizedWindow.{emitted_frame}
use Rattle.run_spec.specs.Generated.{tcp_template}
use Rattle.packetize.specs.View.{template_view}
use Rattle.capture_gen.specs.Sequence.{tcp_frame_of}
use Rattle.capture_gen.proofs.frames.write_tcp.Goals as goal

pub returns-clause-frame : goal.returns-clause-frame
returns-clause-frame c =
    let host = c.args.draw.host in
    let number : ℕ = 1 + 100 * c.args.draw.earlier in
    let sequence : number ≡ number % 2 ^ 32 = sym (mod-eq_of_lt (omega arith)) in
    let content : ℕ → List ℕ = λ byte. replicate 100 byte in
    let made = ap (λ (i : Item). i.frame) c.emit-packet.ensures.item in
    let alike : emitted_frame (template_view c.template.result) number (content c.data_byte-data.result) ≡ tcp_frame_of host c.args.draw.earlier c.args.k =
    ap (λ m. emitted_frame m number (content c.data_byte-data.result)) c.template.ensures
    ∙ (ap (λ n. emitted_frame (tcp_template host) n (content c.data_byte-data.result)) sequence
    ∙ ap (λ b. emitted_frame (tcp_template host) (number % 2 ^ 32) (content b)) c.data_byte-data.ensures) in
    c.in_ok-extend_from_slice.ensures.items ∙ ap (λ (f : List ℕ). c.args.frame.now.items ++ f) (c.frame.ensures ∙ (made ∙ alike))
