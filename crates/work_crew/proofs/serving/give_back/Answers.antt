use Rattle.std.proofs.Common.{◌≡◌, ℕ, ap, ◌∙◌, sym, subst, map, List}
use Rattle.std.specs.Prelude.{All}
use Rattle.std.proofs.lemmas.List.Elements.{All-tail}
use Rattle.packet_owner.specs.Buffer.{BufferModel}
use Rattle.lane_spec.specs.Counts.{times}
use Rattle.work_crew.proofs.Serves.{one_less, none_held}
use Rattle.work_crew.proofs.serving.give_back.Goals as goal

pub each-preserved : goal.each-preserved
each-preserved g c =
    let is = c.in-Some.ensures in
    let b = c.in-Some.buffer in
    let rest = c.pop.new.self in
    let s = c.release.ensures.released.same in
    let inv = c.each.invariant in record {
      own = c.release.ensures.own;
      slots = λ i. one_less b.slot (map (λ (b : BufferModel). b.slot) rest) (g.K.LaneKit.worker_facts c.each.seat).held
          (subst (λ (l : List BufferModel). (i : ℕ) → times i (map (λ (b : BufferModel). b.slot) l) ≡ times i (g.K.LaneKit.worker_facts c.each.seat).held) is inv.slots) i
          ∙ ap (times i) (sym (ap (λ f. f.held) s));
      rooms = All-tail (λ (b : BufferModel). b.room ≡ (g.K.LaneKit.lane_facts c.args.lane.now).bytes) b rest (subst (All (λ (b : BufferModel). b.room ≡ (g.K.LaneKit.lane_facts c.args.lane.now).bytes)) is inv.rooms);
      received = ap (λ f. f.received) s ∙ inv.received;
      place = ap (λ f. f.place) s ∙ inv.place;
      took_end = ap (λ f. f.ended) s ∙ inv.took_end;
    }

pub returns-clause-given : goal.returns-clause-given
returns-clause-given g c =
    let none = c.in_default.ensures.0 in
    let inv = c.each.invariant in record {
      held = none_held _ (subst (λ (l : List BufferModel). (i : ℕ) → times i (map (λ (b : BufferModel). b.slot) l) ≡ times i (g.K.LaneKit.worker_facts c.each.seat).held) none inv.slots);
      received = inv.received;
      place = inv.place;
      ended = inv.took_end;
    }
