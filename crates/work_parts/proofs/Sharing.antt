-- The records of some flows, and the flows of these records.
use Rattle.std.proofs.Common.{◌≡◌, ℕ, ◌<◌, ◌%◌, List, [], ◌∷◌, ◌++◌, Bool, true, false, ◌||◌, nat_eq, if◌then◌else◌, cond, refl, ap, sym, subst, ◌∙◌, append-nil}
use Rattle.std.proofs.lemmas.List.Elements.{filter-append}
use Rattle.std.specs.List.{filter, list_any, AllByRecursion}
use Rattle.brick_spec.specs.Flow.{Flow, Class}
use Rattle.flow_spec.specs.Answer.{ClassedItem, is_of, with_flow, flows_after, flows_of}
use Rattle.flow_work.specs.Log.{AreRecords}
use Rattle.flow_work.specs.Meaning.{numbers_of}
use Rattle.flow_work.proofs.Flows.{has_number, flows_in_list, flows_apart}
use Rattle.flow_work.proofs.Logs.{same_number, itself}
use Rattle.flow_work.proofs.Merged.{AreApart}
use Rattle.work_parts.specs.Workers.{records_for, worker_for, WorkersHaveNoFlow, FlowsComeWhole}

no : true ≡ false → ⊥
no z = cc

-- THE FLOWS OF A CAPTURE

-- it is the flow of a record
abbrev pub IsFlowOf : (ℕ → Class) → ℕ → Flow → Type 0
IsFlowOf class_at n f = (k : ℕ) × (k < n) × (f ≡ (class_at k).flow)

-- those of one number are one
abbrev pub AreAlike : (Flow → Type 0) → Type 0
AreAlike P = (f g : Flow) → P f → P g → f.number ≡ g.number → f ≡ g

pub are_alike : (class_at : ℕ → Class) (n : ℕ) (list : List ClassedItem) → AreRecords class_at n list → AreAlike (IsFlowOf class_at n)
are_alike class_at n list r f g (k, below, e) (l, within, d) same =
    e ∙ (r.alike k l below within (ap (λ (x : Flow). x.number) (sym e) ∙ (same ∙ ap (λ (x : Flow). x.number) d)) ∙ sym d)

records_have : (class_at : ℕ → Class) (n : ℕ) (list : List ClassedItem) → AllByRecursion (λ (c : ClassedItem). (c.item.a < n) × (c.class ≡ class_at c.item.a)) list → AllByRecursion (λ (c : ClassedItem). IsFlowOf class_at n c.class.flow) list
records_have class_at n [] h = tt
records_have class_at n (c ∷ cs) (h, hs) = ((c.item.a, h.0, ap (λ (x : Class). x.flow) h.1), records_have class_at n cs hs)

pub items_are : (class_at : ℕ → Class) (n : ℕ) (list : List ClassedItem) → AreRecords class_at n list → AllByRecursion (λ (c : ClassedItem). IsFlowOf class_at n c.class.flow) list
items_are class_at n list r = records_have class_at n list r.each

pub flows_are : (class_at : ℕ → Class) (n : ℕ) (list : List ClassedItem) → AreRecords class_at n list → AllByRecursion (IsFlowOf class_at n) (flows_of list)
flows_are class_at n list r = flows_in_list (IsFlowOf class_at n) [] list tt (items_are class_at n list r)

-- SOME FLOWS, AND THEIR RECORDS

module _ (P : Flow → Type 0) (alike : AreAlike P) (t : Flow → Bool) where
  abbrev kept : ClassedItem → Bool
  kept c = t c.class.flow

  -- a flow of theirs is there among them where it is there among all
  there : (f : Flow) → P f → t f ≡ true → (fs : List Flow) → AllByRecursion P fs → has_number f.number (filter t fs) ≡ has_number f.number fs
  there f p k [] h = refl
  there f p k (g ∷ gs) (h, hs) = split (nat_eq f.number g.number) (t g) refl refl (there f p k gs hs) where
    split : (a b : Bool) → nat_eq f.number g.number ≡ a → t g ≡ b → has_number f.number (filter t gs) ≡ has_number f.number gs
        → has_number f.number (cond b (g ∷ filter t gs) (filter t gs)) ≡ (a || has_number f.number gs)
    split true true e q next = ap (λ a. a || has_number f.number (filter t gs)) e
    split false true e q next = ap (λ a. a || has_number f.number (filter t gs)) e ∙ next
    split true false e q next = absurd (no (sym k ∙ (ap t (alike f g p h (same_number f.number g.number e)) ∙ q)))
    split false false e q next = next

  with_kept : (f : Flow) → P f → t f ≡ true → (fs : List Flow) → AllByRecursion P fs → with_flow (filter t fs) f ≡ filter t (with_flow fs f)
  with_kept f p k fs h = ap (λ b. if b then filter t fs else filter t fs ++ f ∷ []) (there f p k fs h) ∙ split (has_number f.number fs) where
    split : (b : Bool) → (if b then filter t fs else filter t fs ++ f ∷ []) ≡ filter t (if b then fs else fs ++ f ∷ [])
    split true = refl
    split false = sym (filter-append t fs (f ∷ []) ∙ ap (λ b. filter t fs ++ cond b (f ∷ []) []) k)

  with_other : (f : Flow) → t f ≡ false → (fs : List Flow) → filter t fs ≡ filter t (with_flow fs f)
  with_other f k fs = split (has_number f.number fs) where
    split : (b : Bool) → filter t fs ≡ filter t (if b then fs else fs ++ f ∷ [])
    split true = refl
    split false = sym (filter-append t fs (f ∷ []) ∙ (ap (λ b. filter t fs ++ cond b (f ∷ []) []) k ∙ append-nil (filter t fs)))

  -- the flows of their records are those of all records that are among them
  pub flows_kept : (fs : List Flow) (list : List ClassedItem) → AllByRecursion P fs → AllByRecursion (λ (c : ClassedItem). P c.class.flow) list
      → flows_after (filter t fs) (filter kept list) ≡ filter t (flows_after fs list)
  flows_kept fs [] h hs = refl
  flows_kept fs (c ∷ cs) h (p, hs) = split (t c.class.flow) refl (flows_kept (with_flow fs c.class.flow) cs (flows_in_list P fs (c ∷ []) h (p, tt)) hs) where
    split : (b : Bool) → t c.class.flow ≡ b → flows_after (filter t (with_flow fs c.class.flow)) (filter kept cs) ≡ filter t (flows_after (with_flow fs c.class.flow) cs)
        → flows_after (filter t fs) (cond b (c ∷ filter kept cs) (filter kept cs)) ≡ filter t (flows_after (with_flow fs c.class.flow) cs)
    split true e next = ap (λ gs. flows_after gs (filter kept cs)) (with_kept c.class.flow p e fs h) ∙ next
    split false e next = ap (λ gs. flows_after gs (filter kept cs)) (with_other c.class.flow e fs) ∙ next

  -- each of them has all of its records, in order
  pub came_kept : (f : Flow) → P f → t f ≡ true → (list : List ClassedItem) → AllByRecursion (λ (c : ClassedItem). P c.class.flow) list → filter (is_of f) (filter kept list) ≡ filter (is_of f) list
  came_kept f p k [] h = refl
  came_kept f p k (c ∷ cs) (h, hs) = split (t c.class.flow) (is_of f c) refl refl (came_kept f p k cs hs) where
    split : (a b : Bool) → t c.class.flow ≡ a → is_of f c ≡ b → filter (is_of f) (filter kept cs) ≡ filter (is_of f) cs
        → filter (is_of f) (cond a (c ∷ filter kept cs) (filter kept cs)) ≡ cond b (c ∷ filter (is_of f) cs) (filter (is_of f) cs)
    split true true e q next = ap (λ b. cond b (c ∷ filter (is_of f) (filter kept cs)) (filter (is_of f) (filter kept cs))) q ∙ ap (λ l. c ∷ l) next
    split true false e q next = ap (λ b. cond b (c ∷ filter (is_of f) (filter kept cs)) (filter (is_of f) (filter kept cs))) q ∙ next
    split false true e q next = absurd (no (sym k ∙ (ap t (sym (alike c.class.flow f h p (same_number c.class.flow.number f.number q))) ∙ e)))
    split false false e q next = next

-- HASHES

-- the hash of the first flow of this number
abbrev pub hash_at : ℕ → List Flow → ℕ
hash_at k [] = 0
hash_at k (f ∷ fs) = if nat_eq f.number k then f.hash else hash_at k fs

neither : (a b : Bool) → (a || b) ≡ false → (a ≡ false) × (b ≡ false)
neither true b h = absurd (no h)
neither false b h = (refl, h)

pub hashes_are : (fs : List Flow) → AreApart (numbers_of fs) → AllByRecursion (λ (f : Flow). hash_at f.number fs ≡ f.hash) fs
hashes_are [] a = tt
hashes_are (f ∷ fs) (a, rest) = (ap (λ b. if b then f.hash else hash_at f.number fs) (itself f.number), more fs a (hashes_are fs rest)) where
  more : (gs : List Flow) → list_any (nat_eq f.number) (numbers_of gs) ≡ false → AllByRecursion (λ (g : Flow). hash_at g.number fs ≡ g.hash) gs → AllByRecursion (λ (g : Flow). hash_at g.number (f ∷ fs) ≡ g.hash) gs
  more [] n h = tt
  more (g ∷ gs) n (h, hs) =
      let apart = neither (nat_eq f.number g.number) (list_any (nat_eq f.number) (numbers_of gs)) n in
      (ap (λ b. if b then f.hash else hash_at g.number fs) apart.0 ∙ h, more gs apart.1 hs)

-- a flow that goes to worker w has a hash that names it
named : (workers w k : ℕ) (all fs : List Flow) → AllByRecursion (λ (f : Flow). hash_at f.number all ≡ f.hash) fs → list_any (nat_eq k) (numbers_of (filter (λ f. nat_eq (worker_for workers f) w) fs)) ≡ true → hash_at k all % workers ≡ w
named workers w k all [] h e = absurd (no (sym e))
named workers w k all (f ∷ fs) (h, hs) e = split (nat_eq (worker_for workers f) w) refl e (named workers w k all fs hs) where
  here : nat_eq (worker_for workers f) w ≡ true → nat_eq k f.number ≡ true → hash_at k all % workers ≡ w
  here q m = ap (λ i. hash_at i all % workers) (same_number k f.number m) ∙ (ap (λ i. i % workers) h ∙ same_number (worker_for workers f) w q)

  one : (b : Bool) → nat_eq (worker_for workers f) w ≡ true → nat_eq k f.number ≡ b → (b || list_any (nat_eq k) (numbers_of (filter (λ f. nat_eq (worker_for workers f) w) fs))) ≡ true
      → (list_any (nat_eq k) (numbers_of (filter (λ f. nat_eq (worker_for workers f) w) fs)) ≡ true → hash_at k all % workers ≡ w) → hash_at k all % workers ≡ w
  one true q m z next = here q m
  one false q m z next = next z

  split : (b : Bool) → nat_eq (worker_for workers f) w ≡ b → list_any (nat_eq k) (numbers_of (cond b (f ∷ filter (λ f. nat_eq (worker_for workers f) w) fs) (filter (λ f. nat_eq (worker_for workers f) w) fs))) ≡ true
      → (list_any (nat_eq k) (numbers_of (filter (λ f. nat_eq (worker_for workers f) w) fs)) ≡ true → hash_at k all % workers ≡ w) → hash_at k all % workers ≡ w
  split true q z next = one (nat_eq k f.number) q refl z next
  split false q z next = next z

-- WORKERS

abbrev pub goes_there : ℕ → ℕ → Flow → Bool
goes_there workers w f = nat_eq (worker_for workers f) w

pub flows_for : (class_at : ℕ → Class) (n : ℕ) (list : List ClassedItem) (workers w : ℕ) → AreRecords class_at n list → flows_of (records_for workers list w) ≡ filter (goes_there workers w) (flows_of list)
flows_for class_at n list workers w r = flows_kept (IsFlowOf class_at n) (are_alike class_at n list r) (goes_there workers w) [] list tt (items_are class_at n list r)

pub workers_have_no_flow : WorkersHaveNoFlow
workers_have_no_flow class_at n list workers v w r apart k h q =
    let hashes = hashes_are (flows_of list) (flows_apart [] list tt) in
    let to = λ (u : ℕ) (z : list_any (nat_eq k) (numbers_of (flows_of (records_for workers list u))) ≡ true).
    named workers u k (flows_of list) (flows_of list) hashes (subst (λ (fs : List Flow). list_any (nat_eq k) (numbers_of fs) ≡ true) (flows_for class_at n list workers u r) z) in
    apart (sym (to v h) ∙ to w q)

pub flows_come_whole : FlowsComeWhole
flows_come_whole class_at n list workers r = by (flows_of list) (flows_are class_at n list r) where
  by : (fs : List Flow) → AllByRecursion (IsFlowOf class_at n) fs → AllByRecursion (λ f. filter (is_of f) (records_for workers list (worker_for workers f)) ≡ filter (is_of f) list) fs
  by [] h = tt
  by (f ∷ fs) (h, hs) = (came_kept (IsFlowOf class_at n) (are_alike class_at n list r) (goes_there workers (worker_for workers f)) f h (itself (worker_for workers f)) list (items_are class_at n list r), by fs hs)
