-- What the turns leave.
use Rattle.std.proofs.Common.{◌≡◌, ℕ, zero, suc, ◌+◌, ◌%◌, ◌-◌, ◌<◌, ◌≤◌, Bool, true, false, cond, refl, sym, ◌∙◌, ap, arith, get_or, List, [], ◌∷◌, length, Option, Some, None, map, set, replicate}
use Rattle.std.specs.List.{count_by}
use Rattle.std.specs.Option.{is_none, unwrap_or}
use Rattle.std.proofs.lemmas.List.{length-set, length-replicate, length-map, get_or_default}
use Rattle.std.proofs.lemmas.List.Folds.{sum_by-replicate}
use Rattle.std.proofs.lemmas.List.Sums.{sum_by-set, sum_by-cons}
use Rattle.std.proofs.lemmas.Nat.{mod_below}
use Rattle.brick_spec.specs.Balance.{Places, is_free, first_free, preferred_place, offset_of, skip_of, with_taken, turn, turns, all_free, balance_table}
use Rattle.lb_maglev.proofs.Searches.{first_none, found_free}

pub turns_none : (names : List (List ℕ)) → turns names 0 ≡ replicate 251 None
unfolding turns all_free
turns_none names = refl

pub turns_more : (names : List (List ℕ)) (k : ℕ) → turns names (k + 1) ≡ turn (turns names k) (get_or names (k % length names) []) (k % length names)
unfolding turns
turns_more names k = ap (turns names) (let e : k + 1 ≡ suc k = omega arith in e)

pub length-with_taken : (places : Places) (at : Option ℕ) (backend : ℕ) → length (with_taken places at backend) ≡ length places
length-with_taken places None backend = refl
length-with_taken places (Some at) backend = length-set places at (Some backend)

pub length-turns : (names : List (List ℕ)) (k : ℕ) → length (turns names k) ≡ 251
unfolding turns all_free
length-turns names zero = length-replicate {A = Option ℕ} 251 None
length-turns names (suc k) = length-with_taken (turns names k) _ (k % length names) ∙ length-turns names k

-- one turn more, of a name that is read from the list
pub turns_step : (names : List (List ℕ)) (name : List ℕ) (k : ℕ) (places new : Places) → places ≡ turns names k → 0 < length names → name ≡ get_or names (k % length names) name → new ≡ turn places name (k % length names) → new ≡ turns names (k + 1)
turns_step names name k places new was some read e =
    let named : name ≡ get_or names (k % length names) [] = read ∙ get_or_default names (k % length names) name [] (mod_below k (length names) some) in
    e ∙ ap (λ p. turn p name (k % length names)) was ∙ ap (λ n. turn (turns names k) n (k % length names)) named ∙ sym (turns_more names k)

-- how many places are free
free_count : Places → ℕ
free_count places = count_by is_none places

some_free : (places : Places) → 0 < free_count places → (place : ℕ) × (place < length places) × (is_free places place ≡ true)
unfolding free_count
some_free [] some = absurd (omega arith)
some_free (None ∷ places) some = (0, omega arith, refl)
some_free (Some b ∷ places) some = let rest = some_free places (omega arith) in (suc rest.0, omega arith, rest.2)

none_free : (places : Places) (place : ℕ) → free_count places ≡ 0 → place < length places → is_free places place ≡ false
unfolding free_count
none_free [] place none within = absurd (omega arith)
none_free (None ∷ places) place none within = let e = sum_by-cons (λ (cell : Option ℕ). cond {A = ℕ} (is_none cell) 1 0) None places in absurd (omega arith)
none_free (Some b ∷ places) zero none within = refl
none_free (Some b ∷ places) (suc place) none within = none_free places place (omega arith) (omega arith)

-- a turn takes a place, while one is free
free_less : (places : Places) (place backend : ℕ) → place < length places → is_free places place ≡ true → free_count (set places place (Some backend)) + 1 ≡ free_count places
unfolding free_count
free_less places place backend within free =
    let e = sum_by-set (λ (cell : Option ℕ). cond (is_none cell) 1 0) places place (Some backend) None within in
    let here : ℕ = cond (is_none (get_or places place None)) 1 0 in
    let one : here ≡ 1 = ap (λ (b : Bool). cond {A = ℕ} b 1 0) free in
    omega (arith, e, one)

-- a place that a backend takes in its turn
pub record Takes (places : Places) (name : List ℕ) : Type 0 where
  pub place : ℕ
  pub within : place < length places
  pub found : first_free places (offset_of name) (skip_of name) ≡ Some place
  pub free : is_free places place ≡ true

takes_place : (places : Places) (name : List ℕ) → length places ≡ 251 → 0 < free_count places → Takes places name
takes_place places name long some =
    let at = some_free places some in
    let few : skip_of name ≤ 250 = omega arith in
    let found = found_free places (offset_of name) (skip_of name) at.0 (omega arith) few (omega arith) at.2 in
    record { place = preferred_place (offset_of name) (skip_of name) found.0; within = omega arith; found = found.1; free = found.2 }

pub turn_takes : (places : Places) (name : List ℕ) (backend : ℕ) (t : Takes places name) → turn places name backend ≡ set places t.place (Some backend)
turn_takes places name backend t = ap (λ at. with_taken places at backend) t.found

-- after k turns k places are taken
free_count-turns : (names : List (List ℕ)) (k : ℕ) → k ≤ 251 → free_count (turns names k) + k ≡ 251
unfolding turns all_free free_count
free_count-turns names zero few = sum_by-replicate (λ (cell : Option ℕ). cond (is_none cell) 1 0) 251 None
free_count-turns names (suc k) few =
    let before = free_count-turns names k (omega arith) in
    let t = takes_place (turns names k) (get_or names (k % length names) []) (length-turns names k) (omega arith) in
    let less = free_less (turns names k) t.place (k % length names) t.within t.free in
    let count : free_count (turn (turns names k) (get_or names (k % length names) []) (k % length names)) ≡ free_count (set (turns names k) t.place (Some (k % length names))) = ap free_count (turn_takes (turns names k) (get_or names (k % length names) []) (k % length names) t) in
    omega (arith, before, less, count)

-- the place that each turn takes
pub turn_place : (names : List (List ℕ)) (k : ℕ) → k < 251 → Takes (turns names k) (get_or names (k % length names) [])
turn_place names k few = takes_place (turns names k) (get_or names (k % length names) []) (length-turns names k) (let before = free_count-turns names k (omega arith) in omega arith)

-- places of which none is free
all_taken : (places : Places) → free_count places ≡ 0 → places ≡ map (λ b. Some b) (map (λ cell. unwrap_or cell 0) places)
unfolding free_count
all_taken [] none = refl
all_taken (None ∷ places) none = let e = sum_by-cons (λ (cell : Option ℕ). cond {A = ℕ} (is_none cell) 1 0) None places in absurd (omega arith)
all_taken (Some b ∷ places) none = ap (λ cells. Some b ∷ cells) (all_taken places (omega arith))

-- in the end all places are taken
pub turns_end : (names : List (List ℕ)) → turns names 251 ≡ map (λ b. Some b) (balance_table names)
unfolding balance_table
turns_end names = let none = free_count-turns names 251 (omega arith) in all_taken (turns names 251) (omega arith)

-- where all places are taken, a turn changes nothing
turn_stays : (places : Places) (name : List ℕ) (backend : ℕ) → length places ≡ 251 → free_count places ≡ 0 → turn places name backend ≡ places
turn_stays places name backend long none =
    ap (λ at. with_taken places at backend)
    (first_none places (offset_of name) (skip_of name) (λ j h. none_free places (preferred_place (offset_of name) (skip_of name) j) none (omega arith)))

turns_stay : (names : List (List ℕ)) (more : ℕ) → turns names (251 + more) ≡ turns names 251
turns_stay names zero = ap (turns names) (let e : 251 + 0 ≡ 251 = omega arith in e)
turns_stay names (suc more) =
    let before = turns_stay names more in
    let none = free_count-turns names 251 (omega arith) in
    let one : 251 + suc more ≡ (251 + more) + 1 = omega arith in
    ap (turns names) one
    ∙ turns_more names (251 + more)
    ∙ turn_stays (turns names (251 + more)) (get_or names ((251 + more) % length names) []) ((251 + more) % length names) (length-turns names (251 + more)) (ap free_count before ∙ (let e : free_count (turns names 251) ≡ 0 = omega arith in e))
    ∙ before

pub turns_ended : (names : List (List ℕ)) (k : ℕ) → 251 ≤ k → turns names k ≡ map (λ b. Some b) (balance_table names)
turns_ended names k ended =
    let split : k ≡ 251 + (k - 251) = omega arith in
    ap (turns names) split ∙ turns_stay names (k - 251) ∙ turns_end names

pub length-balance_table : (names : List (List ℕ)) → length (balance_table names) ≡ 251
unfolding balance_table
length-balance_table names = length-map (turns names 251) (λ cell. unwrap_or cell 0) ∙ length-turns names 251

pub turned : (names : List (List ℕ)) (places : Places) → places ≡ turns names 251 → map (λ cell. unwrap_or cell 0) places ≡ balance_table names
unfolding balance_table
turned names places e = ap (map (λ cell. unwrap_or cell 0)) e
