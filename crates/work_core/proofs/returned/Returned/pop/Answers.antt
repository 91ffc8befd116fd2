use Rattle.std.proofs.Common.{◌≡◌, ◌+◌, ◌∙◌, [], ◌∷◌, List, Option, Some, None, length, take, drop, ap, sym, subst, arith, length-set, length-take}
use Rattle.std.specs.Prelude.{MatchOption}
use Rattle.std.proofs.lemmas.List.{get_or-take}
use Rattle.std.proofs.Math.Seq.{take-set-lt}
use Rattle.work_core.specs.Returned.{buffers_of}
use Rattle.packet_owner.specs.Buffer.{BufferModel as Work}
use Rattle.work_core.proofs.Places.{taken, taken_full}
use Rattle.work_core.proofs.returned.Returned.pop.Goals as goal

pub invariant_of-self-2 : goal.invariant_of-self-2
invariant_of-self-2 c =
    let s = c.self.inside in
    let set = ap (take s.end) c.take_at-first.ensures.items ∙ take-set-lt s.end s.buffers s.front None (omega (arith, c.self.invariant, c.if-self.false)) in
    let long = ap length c.take_at-first.ensures.items ∙ length-set s.buffers s.front None in (
      omega (arith, c.self.invariant, c.if-self.false),
      c.self.invariant.1,
      long ∙ c.self.invariant.2,
      taken_full (take s.end s.buffers) (take s.end c.take_at-first.new.buffers) s.front c.self.invariant.3 set,
    )

pub returns : goal.returns
returns c =
    let s = c.self.inside in
    let set = ap (take s.end) c.take_at-first.ensures.items ∙ take-set-lt s.end s.buffers s.front None (omega (arith, c.self.invariant, c.if-self.false)) in
    let many = length-take s.end s.buffers in
    let value = c.take_at-first.ensures.value ∙ sym (get_or-take s.end s.buffers s.front c.take_at-first.result (omega (arith, c.self.invariant, c.if-self.false))) in
    let next = drop (s.front + 1) (take s.end c.take_at-first.new.buffers) in
    let old = taken (take s.end s.buffers) (take s.end c.take_at-first.new.buffers) s.front c.take_at-first.result (omega (arith, many, c.self.invariant, c.if-self.false)) c.self.invariant.3 value set in
    subst (λ (ws : List Work). MatchOption c.take_at-first.result ((ws ≡ []) × (buffers_of next ≡ [])) (λ w. ws ≡ w ∷ buffers_of next)) c.self.view_is old
