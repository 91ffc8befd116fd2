-- What the works of a job give together, and how many records were accepted.
use Rattle.std.proofs.Common.{◌≡◌, ℕ, zero, suc, ◌+◌, ◌<◌, Bool, true, false, not, ◌&&◌, ◌||◌, List, [], ◌∷◌, map, length, get_or, set, sym, refl, ap, ◌∙◌, subst, arith, Option, Some}
use Rattle.std.specs.Prelude.{if◌then◌else◌, slice_get, take}
use Rattle.std.specs.List.{AllByRecursion, AllZip, list_any, filter, range_with_len}
use Rattle.std.proofs.lemmas.List.{length-map}
use Rattle.brick_spec.specs.FlowClass.{class_at}
use Rattle.brick_spec.specs.Capture.{Entry}
use Rattle.flow_spec.specs.Answer.{ClassedItem}
use Rattle.flow_spec.specs.Plan.{Plan}
use Rattle.tenant_spec.specs.ChainPlan.{plan_of}
use Rattle.tenant_spec.specs.Records.{accepted_items, big_items}
use Rattle.flow_work.specs.Log.{AreRecords}
use Rattle.flow_work.proofs.Classes.{are_records}
use Rattle.run_spec.specs.Books.{Job, IsBookOf, IsPartBook, unsent_in}
use Rattle.lane_spec.specs.LaneBook.{LaneBook}
use Rattle.work_parts.specs.Works.{StandFor}
use Rattle.work_parts.specs.Tenants.{with_big}
use Rattle.work_crew.specs.Records.{frames_of, records_in, class_in, item_in, record_in, is_big, is_in, is_accepted, is_sent, numbers_where}
use Rattle.work_crew.specs.Crews.{items_for, HasRun}
use Rattle.work_crew.proofs.Ingests.{where_length}
use Rattle.work_crew.proofs.Ends.{where_below, part_of_whole}
use Rattle.work_crew.proofs.Wholes.{accepted_are, sent_are, bigs_are, unsent_is, in_where, not_where, among}

-- HOW MANY WERE ACCEPTED

abbrev one_of : Bool → ℕ → ℕ
one_of b n = length (if b then n ∷ [] else [])

-- three tests of which each number passes exactly one
three_parts : (a b u : ℕ → Bool) (n : ℕ) → ((k : ℕ) → k < n → one_of (a k) k + one_of (b k) k + one_of (u k) k ≡ 1)
    → length (numbers_where a n) + length (numbers_where b n) + length (numbers_where u n) ≡ n
three_parts a b u zero h = refl
three_parts a b u (suc n) h =
    let r = three_parts a b u n (λ k lt. h k (omega arith)) in
    let x = where_length a n in
    let y = where_length b n in
    let z = where_length u n in
    let one = h n (omega arith) in omega arith

exactly_one : (big sent : Bool) (n : ℕ) → one_of (not big && not (not big && not sent)) n + one_of big n + one_of (not big && not sent) n ≡ 1
exactly_one true sent n = omega arith
exactly_one false true n = omega arith
exactly_one false false n = omega arith

module _ (job : Job) (refused : List ℕ) (b : LaneBook) (is : refused ≡ unsent_in job b) where
  abbrev unsent : ℕ → Bool
  unsent k = not (is_big job k) && not (list_any (among k) b.sent)

  refused_are : refused ≡ numbers_where unsent (records_in job)
  refused_are = is ∙ unsent_is job b

  in_refused : (k : ℕ) → k < records_in job → is_in refused k ≡ unsent k
  in_refused k lt = ap (λ l. is_in l k) refused_are ∙ by_test (unsent k) refl where
    by_test : (c : Bool) → unsent k ≡ c → is_in (numbers_where unsent (records_in job)) k ≡ unsent k
    by_test true e = in_where unsent (records_in job) k lt e ∙ sym e
    by_test false e = not_where unsent (records_in job) k e ∙ sym e

  each_one : (k : ℕ) → k < records_in job → one_of (is_accepted job refused k) k + one_of (is_big job k) k + one_of (unsent k) k ≡ 1
  each_one k lt = ap (λ c. one_of (not (is_big job k) && not c) k + one_of (is_big job k) k + one_of (unsent k) k) (in_refused k lt) ∙ exactly_one (is_big job k) (list_any (among k) b.sent) k

  pub counted : length (accepted_items job.chain refused job.capture) + length (big_items job.chain job.capture) + length refused ≡ records_in job
  counted =
      let all = three_parts (is_accepted job refused) (is_big job) unsent (records_in job) each_one in
      let x = ap length (accepted_are job refused) ∙ length-map (numbers_where (is_accepted job refused) (records_in job)) (record_in job) in
      let y = ap length (bigs_are job) ∙ length-map (numbers_where (is_big job) (records_in job)) (item_in job) in
      let z = ap length refused_are in omega arith

pub big_many : (job : Job) → length (big_items job.chain job.capture) ≡ length (numbers_where (is_big job) (records_in job))
big_many job = ap length (bigs_are job) ∙ length-map (numbers_where (is_big job) (records_in job)) (item_in job)

-- WHAT THE WORKS STAND FOR

records_each : (job : Job) (t : ℕ → Bool) (n : ℕ) → AllByRecursion (λ (c : ClassedItem). (c.item.a < n) × (c.class ≡ class_at job.chain.nat (frames_of job.capture) c.item.a)) (map (record_in job) (numbers_where t n))
records_each job t n = go (numbers_where t n) (where_below t n) where
  go : (ks : List ℕ) → AllByRecursion (λ k. k < n) ks → AllByRecursion (λ (c : ClassedItem). (c.item.a < n) × (c.class ≡ class_at job.chain.nat (frames_of job.capture) c.item.a)) (map (record_in job) ks)
  go [] h = tt
  go (k ∷ ks) h = ((h.0, refl), go ks h.1)

pub are_of_capture : (job : Job) (workers w : ℕ) (refused : List ℕ) → AreRecords (class_in job) (records_in job) (items_for workers job refused w)
are_of_capture job workers w refused =
    let frames : length (frames_of job.capture) ≡ records_in job = length-map job.capture.entries (λ (e : Entry). e.frame) in
    subst (λ n. AreRecords (class_in job) n (items_for workers job refused w)) frames
    (are_records job.chain.nat (frames_of job.capture) (items_for workers job refused w)
    (subst (λ n. AllByRecursion (λ (c : ClassedItem). (c.item.a < n) × (c.class ≡ class_at job.chain.nat (frames_of job.capture) c.item.a)) (items_for workers job refused w)) (sym frames)
    (subst (AllByRecursion (λ (c : ClassedItem). (c.item.a < records_in job) × (c.class ≡ class_at job.chain.nat (frames_of job.capture) c.item.a))) (sym (sent_are job refused workers w))
    (records_each job (is_sent job refused workers w) (records_in job)))))

or_first : (a b : Bool) → (a || b) ≡ false → a ≡ false
or_first true b e = e
or_first false b e = refl

or_rest : (a b : Bool) → (a || b) ≡ false → b ≡ false
or_rest true b e = absurd (cc)
or_rest false b e = e

module _ {W : Type 0} (follows : W → Plan → Type 0) (ready : W → Type 0) (stands : W → List ClassedItem → Type 0) (ended : W → Option ℕ) (broken : W → Bool) (workers : ℕ) (job : Job) (refused : List ℕ) where
  stand_from : (works : List W) (first : ℕ) → ((w : ℕ) (x : W) → slice_get works w ≡ Some x → HasRun follows ready stands ended broken workers job refused (first + w) x) → list_any broken works ≡ false
      → StandFor follows stands (plan_of job.chain) (class_in job) (records_in job) works (map (items_for workers job refused) (range_with_len first (length works)))
  stand_from [] first h whole = tt
  stand_from (x ∷ works) first h whole =
      let r = subst (λ k. HasRun follows ready stands ended broken workers job refused k x) (let z : first + 0 ≡ first = omega arith in z) (h 0 x refl) in (
        r.follow,
        are_of_capture job workers first refused,
        r.means (or_first (broken x) (list_any broken works) whole),
        stand_from works (first + 1) (λ w y at. subst (λ k. HasRun follows ready stands ended broken workers job refused k y) (let z : first + suc w ≡ first + 1 + w = omega arith in z) (h (suc w) y at)) (or_rest (broken x) (list_any broken works) whole),
      )

  pub stand_for : (works : List W) → ((w : ℕ) (x : W) → slice_get works w ≡ Some x → HasRun follows ready stands ended broken workers job refused w x) → length works ≡ workers → list_any broken works ≡ false
      → StandFor follows stands (plan_of job.chain) (class_in job) (records_in job) works (map (items_for workers job refused) (range_with_len 0 workers))
  stand_for works h count whole = subst (λ n. StandFor follows stands (plan_of job.chain) (class_in job) (records_in job) works (map (items_for workers job refused) (range_with_len 0 n))) count
      (stand_from works 0 (λ w x at. subst (λ k. HasRun follows ready stands ended broken workers job refused k x) (let z : w ≡ 0 + w = omega arith in z) (h w x at)) whole)

  pub all_open : (works : List W) → ((w : ℕ) (x : W) → slice_get works w ≡ Some x → HasRun follows ready stands ended broken workers job refused w x) → AllByRecursion (λ x. ready x × (ended x ≡ Rattle.std.specs.Prelude.None)) works
  all_open works h = go works (λ w x at. let r = h w x at in (r.usable, r.open_work)) where
    go : (works : List W) → ((w : ℕ) (x : W) → slice_get works w ≡ Some x → ready x × (ended x ≡ Rattle.std.specs.Prelude.None)) → AllByRecursion (λ x. ready x × (ended x ≡ Rattle.std.specs.Prelude.None)) works
    go [] h = tt
    go (x ∷ works) h = (h 0 x refl, go works (λ w y at. h (suc w) y at))

-- THE COUNTS

pub big_set : (drops : List ℕ) (big all : ℕ) → all ≡ get_or drops 0 0 + big → set drops 0 all ≡ with_big big drops
big_set [] big all e = refl
big_set (d ∷ drops) big all e = ap (λ k. k ∷ drops) (let z : all ≡ big + d = omega arith in z)

pub not_failed : (b : Bool) → (b ≡ true → false ≡ true) → b ≡ false
not_failed true f = absurd (let e = f refl in cc)
not_failed false f = refl

-- BOOKS

zip_weaker : {A B : Type 0} (P Q : A → B → Type 0) → ((x : A) (y : B) → P x y → Q x y) → (xs : List A) (ys : List B) → AllZip P xs ys → AllZip Q (take (length ys) xs) ys
zip_weaker P Q f [] [] h = tt
zip_weaker P Q f [] (y ∷ ys) h = absurd h
zip_weaker P Q f (x ∷ xs) [] h = absurd h
zip_weaker P Q f (x ∷ xs) (y ∷ ys) h = (f x y h.0, zip_weaker P Q f xs ys h.1)

pub parts_of_wholes : (workers : ℕ) (jobs : List Job) (bs : List LaneBook) → AllZip (IsBookOf workers) jobs bs → AllZip (IsPartBook workers) (take (length bs) jobs) bs
parts_of_wholes workers jobs bs h = zip_weaker (IsBookOf workers) (IsPartBook workers) (λ job b. part_of_whole job workers b) jobs bs h
