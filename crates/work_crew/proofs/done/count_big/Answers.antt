use Rattle.std.proofs.Common.{◌≡◌, length, sym, ap, ◌∙◌, arith}
use Rattle.work_crew.specs.Records.{is_big, numbers_where}
use Rattle.work_crew.specs.JobView.{job_view}
use Rattle.work_crew.proofs.Ingests.{where_most, one_most}
use Rattle.work_crew.proofs.Dones.{big_many}
use Rattle.work_crew.proofs.done.count_big.Goals as goal

pub overflow_add-big : goal.overflow_add-big
overflow_add-big c =
    let m = where_most (is_big (job_view c.args.job.now)) c.each.k in
    let i = c.each.invariant.so_far in
    let one = one_most (is_big (job_view c.args.job.now) c.each.k) c.each.k in
    let o = c.one_if_big-big.ensures in
    let t = c.each-test.true in
    let e = c.count-k-end.type_inv in
    omega arith

pub returns : goal.returns
returns c =
    let f = c.each-test.false in
    let e = c.each.auto.k-end in
    let n = c.count-k-end.ensures in
    c.each.invariant.so_far ∙ ap (λ k. length (numbers_where (is_big (job_view c.args.job.now)) k)) (let z : c.each.k ≡ length c.args.job.now.capture.entries = omega arith in z) ∙ sym (big_many (job_view c.args.job.now))
