use Rattle.std.proofs.Common.{◌≡◌, ℕ, ◌+◌, ◌-◌, List, length, nat_eq, sym, ◌∙◌, ap, arith}
use Rattle.std.specs.List.{starts_with}
use Rattle.flow_spec.specs.Scan.{stands_at, first_occurrence}
use Rattle.stream_scan.proofs.Lasts.{part_from}
use Rattle.stream_scan.proofs.Occurrences.{find_here, find_further}
use Rattle.stream_scan.proofs.plain.first_occurrence.Goals as goal

pub returns-then-starts_with : goal.returns-then-starts_with
returns-then-starts_with c =
    let here = sym (c.starts_with.ensures.value ∙ ap (λ (l : List ℕ). starts_with nat_eq l c.args.needle.now) (part_from c.loop-at.at c.args.bytes.now)) in
    sym (c.loop-at.invariant ∙ find_here (stands_at c.args.needle.now c.args.bytes.now) c.loop-at.at (length c.args.bytes.now - c.loop-at.at) (omega arith) (here ∙ c.if-starts_with.true))

pub loop-at-preserved : goal.loop-at-preserved
loop-at-preserved c =
    let here = sym (c.starts_with.ensures.value ∙ ap (λ (l : List ℕ). starts_with nat_eq l c.args.needle.now) (part_from c.loop-at.at c.args.bytes.now)) in
    c.loop-at.invariant
    ∙ find_further (stands_at c.args.needle.now c.args.bytes.now) c.loop-at.at (length c.args.bytes.now - c.loop-at.at) (length c.args.bytes.now - (c.loop-at.at + 1)) (omega arith) (here ∙ c.if-starts_with.false)
