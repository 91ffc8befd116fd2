use Rattle.std.proofs.Common.{◌≡◌, ◌∙◌, ◌++◌, ◌/◌, ◌^◌, ◌<◌, ℕ, List, ap, sym, subst, arith, lit<}
use Rattle.std.proofs.lemmas.Nat.{mod_below}
use Rattle.brick_spec.specs.Bytes.{Little}
use Rattle.brick_spec.specs.Capture.{IsReadable, record_text}
use Rattle.run_spec.specs.Generated.{generated_capture}
use Rattle.capture_gen.specs.Contents.{entry_of_frame, generated_contents}
use Rattle.capture_gen.proofs.Readable.{text_more, generated_readable}
use Rattle.capture_gen.proofs.Steps.{drawn, drawn_frame, tcp_among_few}
use Rattle.capture_gen.proofs.capture.generate.Goals as goal

pub draw-draw-requires : goal.draw-draw-requires
draw-draw-requires c = λ host low. omega (arith, c.loop-k.invariant.at.each host low, tcp_among_few c.args.number host c.loop-k.k)

pub write_frame-requires-clause-few : goal.write_frame-requires-clause-few
write_frame-requires-clause-few c =
    let host : ℕ = c.draw-draw.result.host in
    let low : host < 8 = subst (λ h. h < 8) (sym c.draw-draw.ensures.host) (mod_below (c.draw-draw.new.self.number / 2 ^ 32 / 256) 8 (lit< tt)) in
    omega (arith, c.draw-draw.ensures.earlier, c.loop-k.invariant.at.each host low, tcp_among_few c.args.number host c.loop-k.k)

pub loop-k-preserved : goal.loop-k-preserved
loop-k-preserved c =
    let d = drawn c.args.number c.loop-k.k c.loop-k.sequence.number c.draw-draw.new.self.number c.loop-k.sequence.tcp_counts c.draw-draw.new.self.tcp_counts
    c.draw-draw.result.kind c.draw-draw.result.host c.draw-draw.result.earlier c.loop-k.invariant.at
    c.draw-draw.ensures.number c.draw-draw.ensures.kind c.draw-draw.ensures.host c.draw-draw.ensures.earlier c.draw-draw.ensures.counts in
    let made = c.in_ok-buffer-2.ensures.frame ∙ drawn_frame c.args.number c.loop-k.k c.draw-draw.new.self.number c.draw-draw.new.self.tcp_counts
    c.draw-draw.result.kind c.draw-draw.result.host c.draw-draw.result.earlier d in
    let put : c.put_record.new.writer ≡ c.loop-k.writer ++ record_text Little (entry_of_frame c.loop-k.k c.write_frame.new.frame.items) =
    c.in_ok-put_record.ensures ∙ ap (λ (f : List ℕ). c.loop-k.writer ++ record_text Little (entry_of_frame c.loop-k.k f)) c.as_slice.ensures.value in
    record {
      text = text_more c.args.number c.loop-k.k c.loop-k.writer c.put_record.new.writer c.write_frame.new.frame.items c.loop-k.invariant.text made put;
      at = d.at;
      room = c.in_ok-buffer-2.ensures.room ∙ c.loop-k.invariant.room;
    }

pub returns-clause-readable : goal.returns-clause-readable
returns-clause-readable c =
    let all : c.loop-k.k ≡ c.args.count = omega arith in
    let bytes : c.into_bytes.result.items ≡ generated_capture c.args.number c.args.count =
    c.into_bytes.ensures ∙ (c.loop-k.invariant.text ∙ ap (generated_capture c.args.number) all) in
    subst (λ (bytes : List ℕ). IsReadable bytes (generated_contents c.args.number c.args.count)) (sym bytes) (generated_readable c.args.number c.args.count c.requires)
