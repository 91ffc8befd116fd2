-- The Books of lanes that were shut unused.
use Rattle.std.proofs.Common.{◌≡◌, ℕ, suc, ◌≤◌, List, [], ◌∷◌, length, map, sym, refl, ap, ◌∙◌, subst, arith}
use Rattle.std.specs.Prelude.{take}
use Rattle.std.specs.List.{AllZip}
use Rattle.std.proofs.lemmas.List.{length-replicate}
use Rattle.std.proofs.lemmas.List.Elements.{All-nil}
use Rattle.lane_spec.specs.LaneBook.{LaneBook}
use Rattle.lane_spec.specs.Pairs.{Pair, AreRising, numbers_of}
use Rattle.lane_core.specs.Seats.{log_of}
use Rattle.run_spec.specs.Books.{IsPartBook, numbers_for}
use Rattle.std.specs.Prelude.{All, Contains}
use Rattle.work_core.specs.declared.job.TenantJob.{TenantJob}
use Rattle.work_crew.specs.JobView.{job_view}
use Rattle.work_crew.specs.Members.{Members}
use Rattle.work_crew.specs.Lanes.{IsUnusedBook}
use Rattle.work_crew.proofs.Begins.{empty_at}

log_none : (workers w : ℕ) (job : TenantJob) (b : LaneBook) → IsUnusedBook workers job b → log_of b.sent w ≡ []
log_none workers w job b u = ap (λ s. log_of s w) u.sent ∙ empty_at workers w

pub unused_is_part : (workers : ℕ) (job : TenantJob) (b : LaneBook) → IsUnusedBook workers job b → IsPartBook workers (job_view job) b
unused_is_part workers job b u = record {
  buffers = u.buffers;
  workers_are = ap length u.sent ∙ length-replicate workers [];
  rising = λ w lt. subst AreRising (sym (log_none workers w job b u)) tt;
  records = λ w lt. subst (λ (log : List Pair). All (Contains (numbers_for workers (job_view job) [] w)) (numbers_of log)) (sym (log_none workers w job b u)) (All-nil (Contains (numbers_for workers (job_view job) [] w)));
  whole = u.whole;
}

pub part_books : (workers : ℕ) (jobs : List TenantJob) (bs : List LaneBook) → length bs ≤ length jobs → Members (IsUnusedBook workers) jobs bs → AllZip (IsPartBook workers) (take (length bs) (map job_view jobs)) bs
part_books workers jobs [] few m = tt
part_books workers [] (b ∷ bs) few m = absurd (omega arith)
part_books workers (j ∷ js) (b ∷ bs) few m = (unused_is_part workers j b (m 0 j b refl refl), part_books workers js bs (omega arith) (λ t x y. m (suc t) x y))
