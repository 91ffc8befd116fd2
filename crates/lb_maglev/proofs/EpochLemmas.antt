-- The last epoch that begins at a record or before it, one epoch after another; and the tables of the epochs so far.
use Rattle.std.proofs.Common.{◌≡◌, ◌∙◌, ℕ, ◌+◌, ◌<◌, ◌≤◌, Bool, true, false, cond, nat_le, refl, sym, ap, List, [], ◌∷◌, ◌++◌, map, get_or, slice_index, Option, None, Some, unwrap_or, filter, arith}
use Rattle.std.proofs.lemmas.Bool.Decides.{nat_tests}
use Rattle.std.specs.List.{last_or, range_with_len, slice_get}
use Rattle.std.specs.Option.{option_map}
use Rattle.std.proofs.lemmas.Option.{get_or_from_slice_get, slice_get-map}
use Rattle.lb_maglev.specs.EpochTables.{table_of_epoch}
use Rattle.lb_maglev.specs.declared.epochs.Epoch.{Epoch}
use Rattle.std.proofs.lemmas.List.{append-nil, map-id}
use Rattle.std.proofs.lemmas.List.FromFn.{filter_of_map_range_with_len_more}

-- the last of the first k epochs that begins so
abbrev pub epoch_among : List ℕ → ℕ → ℕ → ℕ
epoch_among begins opened k = unwrap_or (last_or None (filter (λ e. nat_le (slice_index begins e) opened) (range_with_len 0 k))) 0

last_push : {X : Type 0} (o : Option X) (xs : List X) (y : X) → last_or o (xs ++ y ∷ []) ≡ Some y
last_push o [] y = refl
last_push o (x ∷ xs) y = last_push (Some x) xs y

at_most : (m n : ℕ) → m ≤ n → nat_le m n ≡ true
at_most m n h = grind (arith, nat_tests)

not_at_most : (m n : ℕ) → n < m → nat_le m n ≡ false
not_at_most m n h = grind (arith, nat_tests)

-- with one epoch more
one_more : (p : ℕ → Bool) (k : ℕ) → filter p (range_with_len 0 (k + 1)) ≡ filter p (range_with_len 0 k) ++ cond (p k) (k ∷ []) []
one_more p k =
    ap (filter p) (sym (map-id (range_with_len 0 (k + 1)))) ∙ filter_of_map_range_with_len_more p (λ n. n) 0 k k (let e : 0 + k ≡ k = omega arith in e)
    ∙ ap (λ xs. filter p xs ++ cond (p k) (k ∷ []) []) (map-id (range_with_len 0 k))

pub later_begins : (begins : List ℕ) (opened k : ℕ) → slice_index begins k ≤ opened → epoch_among begins opened (k + 1) ≡ k
later_begins begins opened k le =
    let e : nat_le (slice_index begins k) opened ≡ true = at_most (slice_index begins k) opened le in
    let p : ℕ → Bool = λ e. nat_le (slice_index begins e) opened in
    ap (λ xs. unwrap_or (last_or None xs) 0) (one_more p k ∙ ap (λ b. filter p (range_with_len 0 k) ++ cond b (k ∷ []) []) e)
    ∙ ap (λ o. unwrap_or o 0) (last_push None (filter p (range_with_len 0 k)) k)

pub not_yet_begins : (begins : List ℕ) (opened k : ℕ) → opened < slice_index begins k → epoch_among begins opened (k + 1) ≡ epoch_among begins opened k
not_yet_begins begins opened k lt =
    let e : nat_le (slice_index begins k) opened ≡ false = not_at_most (slice_index begins k) opened lt in
    let p : ℕ → Bool = λ e. nat_le (slice_index begins e) opened in
    ap (λ xs. unwrap_or (last_or None xs) 0) (one_more p k ∙ ap (λ b. filter p (range_with_len 0 k) ++ cond b (k ∷ []) []) e ∙ append-nil (filter p (range_with_len 0 k)))

-- the table of an epoch, by its number
pub table_at : (rows : List Epoch) (e : ℕ) (row : Epoch) → slice_get rows e ≡ Some row → get_or (map table_of_epoch rows) e [] ≡ table_of_epoch row
table_at rows e row at = get_or_from_slice_get (map table_of_epoch rows) e (table_of_epoch row) [] (slice_get-map table_of_epoch rows e ∙ ap (option_map table_of_epoch) at)
