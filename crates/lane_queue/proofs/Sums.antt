-- How often a slot stands in lists that grow or lose one, and in the logs of a seat.
use Rattle.std.proofs.Common.{◌≡◌, ◌≢◌, ℕ, zero, suc, ◌+◌, ◌<◌, ◌≤◌, List, [], ◌∷◌, ◌++◌, length, get_or, set, sym, refl, ap, ◌∙◌, subst, arith, inl, inr, length-append, lt-ltb, nat_lt, nat_eq, true, false}
use Rattle.std.proofs.lemmas.Bool.Decides.{eqb_tells}
use Rattle.std.proofs.lemmas.Option.{slice_get-get_or}
use Rattle.lane_spec.specs.Counts.{total, times, without, one_if, IsEachOnce}
use Rattle.lane_spec.specs.Pairs.{Pair, slots_of}
use Rattle.lane_core.specs.Seats.{log_of}
use Rattle.lane_core.proofs.Counting.{times_here, times_else, times_append, times_without, times_without_else, total_set, each_once}
use Rattle.lane_core.proofs.Moves.{slots_more}
use Rattle.std.specs.List.{remove}
use Rattle.lane_core.proofs.Views.{times_last_else, removed_is}
use Rattle.lane_queue.specs.Lists.{in_logs}

pub without_one : (i j : ℕ) (xs : List ℕ) → 0 < times i xs → times j (without i xs) + times j (i ∷ []) ≡ times j xs
without_one i j xs has = elim (eqb_tells j i) [
  | inl h ↦ subst (λ n. times n (without i xs) + times n (i ∷ []) ≡ times n xs) (sym h.1) (let t = times_without i xs has in let u = times_here i [] in omega arith)
  | inr h ↦ let t = times_without_else i j xs h.1 in let u = times_else i j [] (λ e. h.1 (sym e)) in omega arith
]

pub below_without : (i n : ℕ) (xs : List ℕ) → 0 < times i xs → ((k : ℕ) → n ≤ k → times k xs ≡ 0) → (k : ℕ) → n ≤ k → times k (without i xs) ≡ 0
below_without i n xs has past k le = let a = without_one i k xs has in let b = past k le in omega arith

pub below_last : (i n : ℕ) (xs : List ℕ) → i < n → ((k : ℕ) → n ≤ k → times k xs ≡ 0) → (k : ℕ) → n ≤ k → times k (xs ++ i ∷ []) ≡ 0
below_last i n xs lt past k le = times_last_else i k xs (λ e. absurd (omega arith)) ∙ past k le

-- the first place of a slot is taken out
pub slot_removed : (xs ys zs : List ℕ) (at slot found : ℕ) → xs ≡ zs → found ≡ slot → at < length xs → get_or xs at 0 ≡ found → ((j : ℕ) → j < at → get_or xs j 0 ≢ found) → ys ≡ remove zs at → ys ≡ without slot zs
slot_removed xs ys zs at slot found same is lt here first removed = let F : List ℕ × ℕ → Type 0 = λ k. (at < length k.0) × (get_or k.0 at 0 ≡ k.1) × ((j : ℕ) → j < at → get_or k.0 j 0 ≢ k.1) in
    let all : F (zs, slot) = subst F (λ i. (same i, is i)) (lt, here, first) in removed ∙ removed_is slot zs at all.0 all.1 all.2

-- a log of a seat grows
pub in_logs_send : (i w slot a : ℕ) (sent : List (List Pair)) → w < length sent → in_logs i (set sent w (log_of sent w ++ (slot, a) ∷ [])) ≡ in_logs i sent + times i (slot ∷ [])
in_logs_send i w slot a sent lt = let f : List Pair → ℕ = λ log. times i (slots_of log) in let log : List Pair = log_of sent w in
    let t = total_set f sent w log (log ++ (slot, a) ∷ []) (slice_get-get_or sent w [] lt) in let m = slots_more i log slot a in omega arith

pub length_send : (w slot a : ℕ) (sent : List (List Pair)) → w < length sent → total (λ (log : List Pair). length log) (set sent w (log_of sent w ++ (slot, a) ∷ [])) ≡ total (λ (log : List Pair). length log) sent + 1
length_send w slot a sent lt = let f : List Pair → ℕ = λ log. length log in let log : List Pair = log_of sent w in
    let t = total_set f sent w log (log ++ (slot, a) ∷ []) (slice_get-get_or sent w [] lt) in let m = length-append log ((slot, a) ∷ []) in omega arith

pub log_here : (w : ℕ) (x : List Pair) (sent : List (List Pair)) → w < length sent → log_of (set sent w x) w ≡ x
log_here w x [] lt = absurd (omega arith)
log_here zero x (y ∷ ys) lt = refl
log_here (suc w) x (y ∷ ys) lt = log_here w x ys (omega arith)

pub log_else : (w k : ℕ) (x : List Pair) (sent : List (List Pair)) → k ≢ w → log_of (set sent w x) k ≡ log_of sent k
log_else w k x [] ne = refl
log_else zero zero x (y ∷ ys) ne = absurd (ne refl)
log_else zero (suc k) x (y ∷ ys) ne = refl
log_else (suc w) zero x (y ∷ ys) ne = refl
log_else (suc w) (suc k) x (y ∷ ys) ne = log_else w k x ys (λ e. ne (ap suc e))

no_length : {A : Type 0} (xs : List A) → length xs ≡ 0 → xs ≡ []
no_length [] e = refl
no_length (x ∷ xs) e = absurd (omega arith)

one_below : (i n : ℕ) → i < n → one_if (nat_lt i n) ≡ 1
one_below i n lt = ap one_if (lt-ltb i n lt)

-- as many slots as a pool has, of which each that it should have is there or was taken before, are each slot once
module _ (n : ℕ) (home rest put taken : List ℕ) (count : length home ≡ n) (there : (i : ℕ) → times i (taken ++ home) + times i rest ≡ times i put) (left : (i : ℕ) → times i put ≡ one_if (nat_lt i n) + times i taken) where
  each : (i : ℕ) → times i (home ++ rest) ≡ one_if (nat_lt i n)
  each i = let a = times_append i home rest in let b = times_append i taken home in let c = there i in let d = left i in omega arith

  none_left : rest ≡ []
  none_left = no_length rest (let l = length-append home rest in let c = (each_once n (home ++ rest) (λ i lt. each i ∙ one_below i n lt) (λ i le. each i ∙ past i n le)).count in omega arith) where
    past : (i n : ℕ) → n ≤ i → one_if (nat_lt i n) ≡ 0
    past i n le = ap one_if (Rattle.lane_core.proofs.Moves.false_from (nat_lt i n) (λ t. absurd (let lt = Rattle.std.proofs.Common.ltb-true i n t in omega arith)))

  pub home_once : IsEachOnce n home
  home_once = record { count = count; once = λ i lt. let a = times_append i home rest in let b = each i in let c = one_below i n lt in let d = ap (times i) none_left in omega arith }

-- and fewer are not all that were put
pub not_all : (n : ℕ) (home put taken : List ℕ) → length home < n → ((i : ℕ) → times i put ≤ times i (taken ++ home)) → ((i : ℕ) → times i put ≡ one_if (nat_lt i n) + times i taken) → ⊥
not_all n home put taken few all left = let le = Rattle.lane_core.proofs.Counting.all_below n home (λ i lt. let a = times_append i taken home in let b = all i in let c = left i in let d = one_below i n lt in omega arith) in omega arith
