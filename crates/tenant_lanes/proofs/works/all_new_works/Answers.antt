use Rattle.std.proofs.Common.{[], ◌∷◌, get_or, sym, ap, ◌∙◌, subst, arith, length-append}
use Rattle.std.proofs.lemmas.Option.{get_or_from_slice_get}
use Rattle.work_core.specs.declared.job.TenantJob.{TenantJob}
use Rattle.work_crew.specs.Crews.{AreNewWorks}
use Rattle.work_crew.specs.Members.{Members}
use Rattle.work_crew.proofs.Members.{more}
use Rattle.tenant_lanes.proofs.works.all_new_works.Goals as goal

pub each-preserved : goal.each-preserved
each-preserved g c =
    let w = g.W.ChainWork in
    let works = c.each.works.items in
    let row = c.in_ok-row.row in
    let items = c.in_ok-push.ensures.items in
    let long = length-append works (row ∷ []) in
    let before = c.each.invariant.count in record {
      count = rw items (omega (arith, long, before));
      works = subst (Members (AreNewWorks w.follows w.ready w.stands w.ended w.broken c.args.workers) c.args.jobs.now) (sym items) (more _ c.args.jobs.now works row c.each.invariant.works (λ job at.
          let here = c.job-item.is ∙ (ap (λ k. get_or c.args.jobs.now k c.job-item.result) (sym before) ∙ get_or_from_slice_get c.args.jobs.now _ job c.job-item.result at) in
          subst (λ (j : TenantJob). AreNewWorks w.follows w.ready w.stands w.ended w.broken c.args.workers j row) here c.in_ok-row.ensures));
    }
