-- The classes of a job by number.
use Rattle.std.proofs.Common.{◌≡◌, ℕ, ◌<◌, ◌≤◌, ◌%◌, Bool, true, false, nat_lt, List, map, length, get_or, sym, refl, ap, ◌∙◌, arith, lt-ltb, ltb-true}
use Rattle.std.specs.Prelude.{Option, Some, slice_get}
use Rattle.std.proofs.lemmas.Option.{get_or_from_slice_get}
use Rattle.std.proofs.lemmas.List.{length-map, get_or-map}
use Rattle.std.proofs.lemmas.List.FromFn.{length-map-range_with_len, get_or-map-range_with_len}
use Rattle.brick_spec.specs.Capture.{Contents, Entry}
use Rattle.brick_spec.specs.Flow as flow
use Rattle.brick_spec.specs.FlowClass.{NatPlan, class_at, classes_of}
use Rattle.brick_base.specs.Flow.{class_view}
use Rattle.brick_base.specs.declared.flow.Class.{Class}
use Rattle.run_spec.specs.Books.{Job}
use Rattle.work_crew.specs.Records.{frames_of, entry_at, is_big}

pub classes_count : (plan : Option NatPlan) (c : Contents) (classes : List Class) → map class_view classes ≡ classes_of plan (frames_of c) → length classes ≡ length c.entries
classes_count plan c classes is = sym (length-map classes class_view) ∙ ap length is ∙ length-map-range_with_len (class_at plan (frames_of c)) 0 (length (frames_of c)) ∙ length-map c.entries (λ (e : Entry). e.frame)

pub class_is : (plan : Option NatPlan) (c : Contents) (classes : List Class) (k : ℕ) (d : Class) → map class_view classes ≡ classes_of plan (frames_of c) → k < length c.entries
    → class_view (get_or classes k d) ≡ class_at plan (frames_of c) k
class_is plan c classes k d is lt =
    let many = classes_count plan c classes is in
    let frames = length-map c.entries (λ (e : Entry). e.frame) in
    sym (get_or-map class_view classes k d (class_view d) (omega arith))
    ∙ ap (λ xs. get_or xs k (class_view d)) is
    ∙ get_or-map-range_with_len (class_at plan (frames_of c)) 0 (length (frames_of c)) k k (class_view d) (omega arith) (omega arith)

-- the hash of a class that is read
pub hash_is : (plan : Option NatPlan) (c : Contents) (classes : List Class) (k workers : ℕ) (x : Class) → map class_view classes ≡ classes_of plan (frames_of c) → k < length c.entries
    → x ≡ get_or classes k x → x.hash % workers ≡ (class_at plan (frames_of c) k).flow.hash % workers
hash_is plan c classes k workers x is lt read = ap (λ (y : Class). y.hash % workers) read ∙ ap (λ (y : flow.Class). y.flow.hash % workers) (class_is plan c classes k x is lt)

-- whether a record that is read is Big
pub entry_is : (c : Contents) (k : ℕ) (e : Entry) → slice_get c.entries k ≡ Some e → entry_at c k ≡ e
entry_is c k e at = get_or_from_slice_get c.entries k e _ at

pub big_is : (job : Job) (k : ℕ) (e : Entry) → slice_get job.capture.entries k ≡ Some e → job.chain.bytes < length e.frame → is_big job k ≡ true
big_is job k e at lt = ap (λ (x : Entry). nat_lt job.chain.bytes (length x.frame)) (entry_is job.capture k e at) ∙ lt-ltb job.chain.bytes (length e.frame) lt

pub small_is : (job : Job) (k : ℕ) (e : Entry) → slice_get job.capture.entries k ≡ Some e → length e.frame ≤ job.chain.bytes → is_big job k ≡ false
small_is job k e at le = ap (λ (x : Entry). nat_lt job.chain.bytes (length x.frame)) (entry_is job.capture k e at) ∙ not_less (nat_lt job.chain.bytes (length e.frame)) refl where
  not_less : (b : Bool) → nat_lt job.chain.bytes (length e.frame) ≡ b → nat_lt job.chain.bytes (length e.frame) ≡ false
  not_less true t = absurd (let lt = ltb-true job.chain.bytes (length e.frame) t in omega arith)
  not_less false t = t
