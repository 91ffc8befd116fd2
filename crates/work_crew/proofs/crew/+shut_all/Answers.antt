use Rattle.std.proofs.Common.{◌≡◌, ◌+◌, [], ◌∷◌, ◌++◌, sym, refl, ap, ◌∙◌, append_assoc, append-nil, length, length-append, arith, Some}
use Rattle.std.specs.Prelude.{slice_get}
use Rattle.work_crew.specs.Crews.{Threes, Fours, IsOver, IsShutAs, IsKept}
use Rattle.work_crew.proofs.Crews.{threes_more, threes_fewer, threes_last, fours_more, subst3, subst4, both_ok, from_ok}
use Rattle.work_crew.proofs.crew.+shut_all.Goals as goal

pub shut_all-before-requires-clause-over : goal.shut_all-before-requires-clause-over
shut_all-before-requires-clause-over g t c κs within =
    let h = c.in-Some.ensures.last in
    threes_fewer (IsOver g.K.LaneKit.is_ingest_of g.K.LaneKit.is_worker_of g.K.LaneKit.lane_facts g.K.LaneKit.ingest_facts g.K.LaneKit.worker_facts)
    c.take_last.new.crew.lanes.items c.args.crew.lanes.items c.take_last.new.crew.ingests.items c.args.crew.ingests.items c.take_last.new.crew.rows.items c.args.crew.rows.items _ _ _ h.lanes h.ingests h.rows c.requires.over

pub shut-requires-clause-ingest : goal.shut-requires-clause-ingest
shut-requires-clause-ingest g t c =
    let h = c.in-Some.ensures.last in
    let o = threes_last (IsOver g.K.LaneKit.is_ingest_of g.K.LaneKit.is_worker_of g.K.LaneKit.lane_facts g.K.LaneKit.ingest_facts g.K.LaneKit.worker_facts)
    c.take_last.new.crew.lanes.items c.args.crew.lanes.items c.take_last.new.crew.ingests.items c.args.crew.ingests.items c.take_last.new.crew.rows.items c.args.crew.rows.items _ _ _ h.lanes h.ingests h.rows
    c.requires.counts.ingests c.requires.counts.rows c.requires.over in
    (o.ingest, o.finished, o.held)

pub shut-requires-clause-count : goal.shut-requires-clause-count
shut-requires-clause-count g t c =
    let h = c.in-Some.ensures.last in
    (threes_last (IsOver g.K.LaneKit.is_ingest_of g.K.LaneKit.is_worker_of g.K.LaneKit.lane_facts g.K.LaneKit.ingest_facts g.K.LaneKit.worker_facts)
    c.take_last.new.crew.lanes.items c.args.crew.lanes.items c.take_last.new.crew.ingests.items c.args.crew.ingests.items c.take_last.new.crew.rows.items c.args.crew.rows.items _ _ _ h.lanes h.ingests h.rows
    c.requires.counts.ingests c.requires.counts.rows c.requires.over).count

pub shut-requires-clause-workers : goal.shut-requires-clause-workers
shut-requires-clause-workers g t c =
    let h = c.in-Some.ensures.last in
    (threes_last (IsOver g.K.LaneKit.is_ingest_of g.K.LaneKit.is_worker_of g.K.LaneKit.lane_facts g.K.LaneKit.ingest_facts g.K.LaneKit.worker_facts)
    c.take_last.new.crew.lanes.items c.args.crew.lanes.items c.take_last.new.crew.ingests.items c.args.crew.ingests.items c.take_last.new.crew.rows.items c.args.crew.rows.items _ _ _ h.lanes h.ingests h.rows
    c.requires.counts.ingests c.requires.counts.rows c.requires.over).seats

pub returns-in-Some-clause-books : goal.returns-in-Some-clause-books
returns-in-Some-clause-books g t c =
    let h = c.in-Some.ensures.last in
    let r = c.shut_all-before.ensures.books in
    let s = c.shut.ensures.books in
    let P = IsShutAs g.K.LaneKit.lane_facts g.K.LaneKit.ingest_facts g.K.LaneKit.worker_facts in
    let a = ap length h.lanes ∙ length-append c.take_last.new.crew.lanes.items (c.in-Some.last.lane ∷ []) in
    let b = ap length h.ingests ∙ length-append c.take_last.new.crew.ingests.items (c.in-Some.last.side ∷ []) in
    let d = ap length h.rows ∙ length-append c.take_last.new.crew.rows.items (c.in-Some.last.row ∷ []) in
    let m = c.requires.counts.ingests in
    let n = c.requires.counts.rows in (
      r.0 ++ s.0 ∷ [],
      s.1 ∙ (ap (λ l. l ++ s.0 ∷ []) r.1 ∙ append_assoc (g.K.LaneKit.books c.args.kit.now) r.0 (s.0 ∷ [])),
      length-append r.0 (s.0 ∷ []) ∙ ap (λ k. k + 1) r.2 ∙ sym a,
      subst4 (λ xs ys zs ws. Fours P xs ys zs ws) h.lanes h.ingests h.rows refl
          (fours_more P c.take_last.new.crew.lanes.items c.take_last.new.crew.ingests.items c.take_last.new.crew.rows.items r.0 c.in-Some.last.lane c.in-Some.last.side c.in-Some.last.row s.0 (omega arith) (omega arith) r.2 r.3 s.2),
    )

pub returns-in-Some-clause-kept : goal.returns-in-Some-clause-kept
returns-in-Some-clause-kept g t c =
    let h = c.in-Some.ensures.last in
    let a = ap length h.lanes ∙ length-append c.take_last.new.crew.lanes.items (c.in-Some.last.lane ∷ []) in
    let b = ap length h.ingests ∙ length-append c.take_last.new.crew.ingests.items (c.in-Some.last.side ∷ []) in
    let d = ap length h.rows ∙ length-append c.take_last.new.crew.rows.items (c.in-Some.last.row ∷ []) in
    let m = c.requires.counts.ingests in
    let n = c.requires.counts.rows in
    both_ok c.keep.result (λ k before.
    let q = from_ok c.shut_all-before.result tt before c.shut_all-before.ensures.kept in
    let o = q.0 in (
      ap length k.1 ∙ length-append c.shut_all-before.new.done.items (k.0 ∷ []) ∙ ap (λ i. i + 1) q.0 ∙ sym a,
      subst3 (λ xs ys zs. Threes IsKept xs ys zs) h.ingests h.rows k.1
          (threes_more IsKept c.take_last.new.crew.ingests.items c.take_last.new.crew.rows.items c.shut_all-before.new.done.items c.in-Some.last.side c.in-Some.last.row k.0 (omega arith) (omega arith) q.1 (record { works = k.2; refused = k.3 })),
    )) c.keep.ensures.kept c.keep.ensures.before

pub returns-clause-books : goal.returns-clause-books
returns-clause-books g t c = (
  [],
  sym (append-nil (g.K.LaneKit.books c.args.kit.now)),
  sym (ap length c.in_default.ensures.none),
  λ u x i r b at_x. absurd (let e : slice_get [] u ≡ Some x = ap (λ l. slice_get l u) (sym c.in_default.ensures.none) ∙ at_x in cc),
)
