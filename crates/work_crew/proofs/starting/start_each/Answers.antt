use Rattle.std.proofs.Common.{◌+◌, [], ◌∷◌, length, get_or, sym, ap, ◌∙◌, subst, arith, length-append}
use Rattle.std.proofs.lemmas.Option.{get_or_from_slice_get}
use Rattle.work_crew.specs.Members.{Members}
use Rattle.work_crew.specs.Lanes.{IsStarted}
use Rattle.work_crew.proofs.Members.{more}
use Rattle.work_crew.proofs.starting.start_each.Goals as goal

pub each-preserved : goal.each-preserved
each-preserved g c =
    let inv = c.each.invariant in
    let P = IsStarted g.K.LaneKit.is_ingest_of g.K.LaneKit.is_worker_of g.K.LaneKit.lane_facts g.K.LaneKit.ingest_facts g.K.LaneKit.worker_facts c.args.workers in
    let is = c.put.ensures.items in
    let r = c.put.ensures.room in
    let o = c.in_ok-side.ensures.opened in
    let o' = inv.opened in
    let r' = inv.room in record {
      books = c.start_one.ensures.books ∙ inv.books;
      opened = omega arith;
      count = ap length is ∙ length-append c.each.lanes.items (c.in_ok-side.side ∷ []) ∙ ap (λ n. n + 1) inv.count;
      room = omega arith;
      started = subst (Members P c.args.jobs.now) (sym is) (more P c.args.jobs.now c.each.lanes.items c.in_ok-side.side inv.started
          (λ job at. subst (λ j. P j c.in_ok-side.side) (c.index-jobs-t.is ∙ ap (λ k. get_or c.args.jobs.now k c.index-jobs-t.result) (sym inv.count) ∙ get_or_from_slice_get c.args.jobs.now (length c.each.lanes.items) job c.index-jobs-t.result at)
          c.in_ok-side.ensures.started));
    }
