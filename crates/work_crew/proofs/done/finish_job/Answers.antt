use Rattle.std.proofs.Common.{map, length, sym, refl, ap, ◌∙◌, subst, arith}
use Rattle.std.specs.List.{list_any}
use Rattle.std.proofs.lemmas.List.{length-map}
use Rattle.flow_spec.specs.Plan.{leaf_count}
use Rattle.tenant_spec.specs.ChainPlan.{plan_of}
use Rattle.tenant_spec.specs.Tenant.{output_lists}
use Rattle.work_core.specs.Result.{items_view}
use Rattle.work_parts.specs.Merged.{merged}
use Rattle.work_parts.specs.Tenants.{with_big}
use Rattle.work_parts.specs.Works.{StandFor}
use Rattle.work_crew.specs.Records.{class_in, records_in}
use Rattle.work_crew.specs.JobView.{job_view}
use Rattle.work_crew.specs.Dones.{worker_lists, AreExact}
use Rattle.work_crew.proofs.Dones.{counted, stand_for, all_open, not_failed}
use Rattle.work_crew.proofs.done.finish_job.Goals as goal

pub join_parts-requires-clause-ready : goal.join_parts-requires-clause-ready
join_parts-requires-clause-ready g c κs within = all_open g.W.ChainWork.follows g.W.ChainWork.ready g.W.ChainWork.stands g.W.ChainWork.ended g.W.ChainWork.broken c.args.workers (job_view c.args.job.now) c.args.lane.refused c.args.lane.works.items (c.requires.lane.1).works

pub overflow_sub-accepted : goal.overflow_sub-accepted
overflow_sub-accepted g c =
    let n = counted (job_view c.args.job.now) c.args.lane.refused c.requires.lane.0 (c.requires.lane.1).refused in
    let b = c.count_big-big.ensures in
    let r = c.count-records.ensures in omega arith

pub overflow_cast-accepted : goal.overflow_cast-accepted
overflow_cast-accepted g c =
    let n = counted (job_view c.args.job.now) c.args.lane.refused c.requires.lane.0 (c.requires.lane.1).refused in
    let s = ap length c.as_slice.ensures in
    let r = c.count-records.ensures in
    let t = c.count-records.type_inv in omega arith

pub overflow_sub-accepted-2 : goal.overflow_sub-accepted-2
overflow_sub-accepted-2 g c =
    let n = counted (job_view c.args.job.now) c.args.lane.refused c.requires.lane.0 (c.requires.lane.1).refused in
    let s = ap length c.as_slice.ensures in
    let b = c.count_big-big.ensures in
    let r = c.count-records.ensures in omega arith

pub join_outputs-requires : goal.join_outputs-requires
join_outputs-requires g c =
    let job = job_view c.args.job.now in
    let refused = c.args.lane.refused in
    let l = c.requires.lane.1 in
    let lists = worker_lists c.args.workers job refused in
    let whole = not_failed (list_any g.W.ChainWork.broken c.args.lane.works.items) c.in_ok-groups.ensures.failed in
    let stand = stand_for g.W.ChainWork.follows g.W.ChainWork.ready g.W.ChainWork.stands g.W.ChainWork.ended g.W.ChainWork.broken c.args.workers job refused c.args.lane.works.items l.works l.count whole in
    let all = c.in_ok-groups.ensures.merged (plan_of job.chain) (class_in job) lists (c.chains_own_keys.ensures job.chain)
    (subst (λ n. StandFor g.W.ChainWork.follows g.W.ChainWork.stands (plan_of job.chain) (class_in job) n c.args.lane.works.items lists) (sym c.count-records.ensures) stand)
    ∙ ap (λ n. merged (leaf_count (plan_of job.chain)) (map (λ list. g.W.ChainWork.answer (plan_of job.chain) list n) lists)) c.count-records.ensures in
    sym (length-map c.in_ok-groups.field-0.groups.items items_view) ∙ ap (λ a. length a.groups) all ∙ c.merged_has_leaves.ensures job.chain (map (λ list. g.W.ChainWork.answer (plan_of job.chain) list (records_in job)) lists)

pub returns : goal.returns
returns g c =
    let job = job_view c.args.job.now in
    let refused = c.args.lane.refused in
    let l = c.requires.lane.1 in
    let lists = worker_lists c.args.workers job refused in
    let whole = not_failed (list_any g.W.ChainWork.broken c.args.lane.works.items) c.in_ok-groups.ensures.failed in
    let stand = stand_for g.W.ChainWork.follows g.W.ChainWork.ready g.W.ChainWork.stands g.W.ChainWork.ended g.W.ChainWork.broken c.args.workers job refused c.args.lane.works.items l.works l.count whole in
    let all = c.in_ok-groups.ensures.merged (plan_of job.chain) (class_in job) lists (c.chains_own_keys.ensures job.chain)
    (subst (λ n. StandFor g.W.ChainWork.follows g.W.ChainWork.stands (plan_of job.chain) (class_in job) n c.args.lane.works.items lists) (sym c.count-records.ensures) stand)
    ∙ ap (λ n. merged (leaf_count (plan_of job.chain)) (map (λ list. g.W.ChainWork.answer (plan_of job.chain) list n) lists)) c.count-records.ensures in
    let n = counted job refused c.requires.lane.0 l.refused in
    let s = ap length c.as_slice.ensures in
    let b = c.count_big-big.ensures in
    let r = c.count-records.ensures in record {
      refused_are = refl;
      accepted = omega arith;
      outputs = c.in_ok-outputs.ensures ∙ ap (λ a. output_lists job.chain a.groups) all;
      drops = c.in_ok-drops.ensures.counts ∙ (λ i. with_big (b i) ((all i).drops));
      exact = subst AreExact (ap (λ a. a.drops) all) c.in_ok-drops.ensures.exact;
    }
