use Rattle.std.proofs.Common.{◌≡◌, ℕ, ◌+◌, ◌<◌, List, [], ◌∷◌, ◌++◌, sym, refl, ap, ◌∙◌, subst, append_assoc, append-nil, length, Some, arith}
use Rattle.std.proofs.lemmas.List.{length-append}
use Rattle.std.proofs.lemmas.Option.{slice_get-get_or}
use Rattle.std.specs.Prelude.{slice_get}
use Rattle.work_crew.specs.Lanes.{IsStarted, IsUnusedBook}
use Rattle.work_crew.proofs.Members.{last_at, fewer, more, members_none}
use Rattle.work_crew.proofs.starting.+undo_all.Goals as goal

pub undo_all-requires-clause-started : goal.undo_all-requires-clause-started
undo_all-requires-clause-started g t c κs within =
    fewer (IsStarted g.K.LaneKit.is_ingest_of g.K.LaneKit.is_worker_of g.K.LaneKit.lane_facts g.K.LaneKit.ingest_facts g.K.LaneKit.worker_facts c.args.workers) c.args.jobs.now c.pop.new.self.items c.args.lanes.items c.in-Some.last c.in-Some.ensures.items c.requires.started

pub undo_one-requires-clause-started : goal.undo_one-requires-clause-started
undo_one-requires-clause-started g t c κs within =
    let rest = c.pop.new.self.items in
    let n : c.len-t.result ≡ length rest = c.len-t.ensures ∙ c.pop.new.self.ok.0 in
    let m : length c.args.lanes.items ≡ length rest + 1 = ap length c.in-Some.ensures.items ∙ length-append rest (c.in-Some.last ∷ []) in
    let few = c.requires.few in
    let at = slice_get-get_or c.args.jobs.now (length rest) c.index-jobs-t.result (omega arith) in
    c.requires.started (length rest) c.index-jobs-t.result c.in-Some.last (at ∙ ap Some (sym (c.index-jobs-t.is ∙ ap (λ k. Rattle.std.proofs.Common.get_or c.args.jobs.now k c.index-jobs-t.result) n)))
    (ap (λ l. slice_get l (length rest)) c.in-Some.ensures.items ∙ last_at rest c.in-Some.last)

pub returns-in-Some-clause-books : goal.returns-in-Some-clause-books
returns-in-Some-clause-books g t c =
    let rest = c.pop.new.self.items in
    let n : c.len-t.result ≡ length rest = c.len-t.ensures ∙ c.pop.new.self.ok.0 in
    let m : length c.args.lanes.items ≡ length rest + 1 = ap length c.in-Some.ensures.items ∙ length-append rest (c.in-Some.last ∷ []) in
    let r = c.undo_all.ensures.books in
    let s = c.undo_one.ensures.book in
    let few = c.requires.few in (
      r.0 ++ s.0 ∷ [],
      s.1 ∙ (ap (λ l. l ++ s.0 ∷ []) r.1 ∙ append_assoc (g.K.LaneKit.books c.args.kit.now) r.0 (s.0 ∷ [])),
      length-append r.0 (s.0 ∷ []) ∙ ap (λ k. k + 1) r.2 ∙ sym m,
      more (IsUnusedBook c.args.workers) c.args.jobs.now r.0 s.0 r.3 (λ job at. subst (λ j. IsUnusedBook c.args.workers j s.0)
          (c.index-jobs-t.is ∙ ap (λ k. Rattle.std.proofs.Common.get_or c.args.jobs.now k c.index-jobs-t.result) (n ∙ sym r.2)
          ∙ Rattle.std.proofs.lemmas.Option.get_or_from_slice_get c.args.jobs.now (length r.0) job c.index-jobs-t.result at) s.2),
    )

pub returns-in_default-clause-books : goal.returns-in_default-clause-books
returns-in_default-clause-books g t c = (
  [],
  sym (append-nil (g.K.LaneKit.books c.args.kit.now)),
  (let e = c.in_default.ensures.cases in let k = c.args.lanes.ok.0 in omega arith),
  members_none (IsUnusedBook c.args.workers) c.args.jobs.now,
)
