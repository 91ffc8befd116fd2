-- The parts of a range, and a row more in their cells or inside them.
use Rattle.std.proofs.Common.{◌≡◌, ◌≢◌, ◌∙◌, ℕ, ◌+◌, ◌-◌, ◌*◌, ◌/◌, ◌%◌, ◌^◌, ◌<◌, ◌≤◌, true, false, nat_eq, refl, sym, ap, arith, subst, List, [], ◌∷◌, ◌++◌, Some, None, IfSome, length, Option, inl, inr}
use Rattle.std.specs.List.{slice_get, slice_index}
use Rattle.std.proofs.Math.Nat.{mul-add-div_right, mul_assoc}
use Rattle.std.proofs.lemmas.Option.{same_Some}
use Rattle.std.proofs.lemmas.Nat.{shr-shr, pow-add, pow_pos, div-add-mod', div-mul-add}
use Rattle.std.proofs.Math.ListN.{replicate}
use Rattle.std.proofs.lemmas.List.{get_or-replicate, length-replicate}
use Rattle.std.proofs.lemmas.Bool.{cases_eq}
use Rattle.lpm_fw.specs.declared.routes.Route.{Route}
use Rattle.lpm_fw.specs.RouteView.{route_view}
use Rattle.lpm_fw.specs.Parts.{rows_in}
use Rattle.lpm_fw.specs.Cells.{AreDivided, AreSorted, HaveRows, IsInside, IsLonger, LeadsToAll, LeadsToNone, row_of}
use Rattle.lpm_fw.proofs.Ranges.{first_bits, around, apart_from, apart_beside}
use Rattle.lpm_fw.proofs.Sorted.{sorted_apart, sorted_around, sorted_inside, sorted_none, sorted_all}

-- a part's number begins with the bits of its range
begins : (a i s : ℕ) → s ≤ 8 → (a * 256 + i) / 2 ^ s ≡ a * 2 ^ (8 - s) + i / 2 ^ s
begins a i s few =
    let sum : 8 - s + s ≡ 8 = omega arith in
    let whole : 256 ≡ 2 ^ (8 - s) * 2 ^ s = ap (λ n. 2 ^ n) (sym sum) ∙ pow-add 2 (8 - s) s in
    ap (λ n. (a * n + i) / 2 ^ s) whole
    ∙ ap (λ n. (n + i) / 2 ^ s) (sym (mul_assoc a (2 ^ (8 - s)) (2 ^ s)))
    ∙ mul-add-div_right (pow_pos s) (a * 2 ^ (8 - s)) i

-- the part that has the first address of a row inside the range
part_of : (to w a : ℕ) → to / 2 ^ (w + 8) ≡ a → to / 2 ^ w ≡ a * 256 + to / 2 ^ w % 256
part_of to w a e =
    let first : to / 2 ^ w / 256 ≡ a = shr-shr to w 8 ∙ e in
    sym (div-add-mod' (to / 2 ^ w) 256) ∙ ap (λ n. n * 256 + to / 2 ^ w % 256) first

-- a row that is no smaller than a part begins with the same bits as the parts that it contains
pub first_part : (to w a free : ℕ) → to / 2 ^ (w + 8) ≡ a → w ≤ free → free - w ≤ 8 → to / 2 ^ free ≡ a * 2 ^ (8 - (free - w)) + to / 2 ^ w % 256 / 2 ^ (free - w)
first_part to w a free e least most = first_bits to w free (a * 256 + to / 2 ^ w % 256) least (part_of to w a e) ∙ begins a (to / 2 ^ w % 256) (free - w) most

pub covers : (row : Route) (w a i : ℕ) → row.to / 2 ^ (w + 8) ≡ a → w ≤ 32 - row.bits → 32 - row.bits - w ≤ 8
    → i / 2 ^ (32 - row.bits - w) ≡ row.to / 2 ^ w % 256 / 2 ^ (32 - row.bits - w) → LeadsToAll w (a * 256 + i) row
covers row w a i e least most same addr at =
    around addr row.to w (32 - row.bits) (a * 256 + i) least
    (first_part row.to w a (32 - row.bits) e least most ∙ ap (λ n. a * 2 ^ (8 - (32 - row.bits - w)) + n) (sym same) ∙ sym (begins a i (32 - row.bits - w) most)) at

pub covers_not : (row : Route) (w a i : ℕ) → row.to / 2 ^ (w + 8) ≡ a → w ≤ 32 - row.bits → 32 - row.bits - w ≤ 8
    → i / 2 ^ (32 - row.bits - w) ≢ row.to / 2 ^ w % 256 / 2 ^ (32 - row.bits - w) → LeadsToNone w (a * 256 + i) row
covers_not row w a i e least most differs addr at =
    apart_from addr row.to w (32 - row.bits) (a * 256 + i) least
    (λ same. differs (
    let begin = begins a i (32 - row.bits - w) most in
    let first = first_part row.to w a (32 - row.bits) e least most in
    omega arith)) at

-- a row that is smaller than a part lies inside the one that has its first address
pub divided_inside : (rows : List Route) (w a : ℕ) (list : List ℕ) (from k part : ℕ) (row : Route) (cells : List ℕ) (inside inside' : List (List ℕ))
    → slice_get rows k ≡ Some row → k < length rows → row.to < 2 ^ 32 → 32 - row.bits < w → part ≡ row.to / 2 ^ w % 256 → rows_in inside' part ≡ rows_in inside part ++ k ∷ []
    → ((i : ℕ) → i ≢ part → rows_in inside' i ≡ rows_in inside i)
    → slice_get list from ≡ Some k → IsInside rows (w + 8) a k → AreDivided rows w a list from cells inside → AreDivided rows w a list (from + 1) cells inside'
divided_inside rows w a list from k part row cells inside inside' there within fits small bits here others at is are i few =
    let part_is : row.to / 2 ^ w ≡ a * 256 + part = part_of row.to w a (is.here row there fits) ∙ ap (λ n. a * 256 + n) (sym bits) in
    elim (cases_eq i part) [
      | inl same ↦
          let e : rows_in inside' i ≡ rows_in inside i ++ k ∷ [] = ap (rows_in inside') same ∙ here ∙ ap (λ n. rows_in inside n ++ k ∷ []) (sym same) in
          subst (λ (xs : List ℕ). AreSorted rows w (a * 256 + i) list (from + 1) xs (row_of (slice_index cells i))) (sym e)
          (sorted_inside rows w (a * 256 + i) list from k (rows_in inside i) (row_of (slice_index cells i)) (record {
            within = within;
            few = λ other at_k. subst (λ (x : Route). 32 ≤ x.bits + w) (same_Some row other (sym there ∙ at_k)) (omega arith);
            here = λ other at_k fits. subst (λ (x : Route). x.to / 2 ^ w ≡ a * 256 + i) (same_Some row other (sym there ∙ at_k)) (part_is ∙ ap (λ n. a * 256 + n) (sym same));
          }) at (are i few))
      | inr differs ↦
          subst (λ (xs : List ℕ). AreSorted rows w (a * 256 + i) list (from + 1) xs (row_of (slice_index cells i))) (sym (others i differs))
          (sorted_apart rows w (a * 256 + i) list from k row (rows_in inside i) (row_of (slice_index cells i)) there
          (λ addr e. apart_beside addr row.to w (32 - row.bits) (a * 256 + i) small (λ same. differs (omega arith)) e) at (are i few))
    ]

-- and a larger one is in the cells of the parts that it contains
pub divided_covered : (rows : List Route) (w a : ℕ) (list : List ℕ) (from k part : ℕ) (row : Route) (cells cells' : List ℕ) (inside : List (List ℕ))
    → slice_get rows k ≡ Some row → row.to < 2 ^ 32 → w ≤ 32 - row.bits → 32 - row.bits - w ≤ 8 → part ≡ row.to / 2 ^ w % 256
    → ((i : ℕ) → i < 256 → i / 2 ^ (32 - row.bits - w) ≡ part / 2 ^ (32 - row.bits - w) → IsLonger rows (row_of (slice_index cells i)) k (row_of (slice_index cells' i)))
    → ((i : ℕ) → i < 256 → i / 2 ^ (32 - row.bits - w) ≢ part / 2 ^ (32 - row.bits - w) → slice_index cells' i ≡ slice_index cells i)
    → slice_get list from ≡ Some k → IsInside rows (w + 8) a k → AreDivided rows w a list from cells inside → AreDivided rows w a list (from + 1) cells' inside
divided_covered rows w a list from k part row cells cells' inside there fits least most bits here others at is are i few =
    elim (cases_eq (i / 2 ^ (32 - row.bits - w)) (part / 2 ^ (32 - row.bits - w))) [
      | inl same ↦
          sorted_around rows w (a * 256 + i) list from k row (rows_in inside i) (row_of (slice_index cells i)) (row_of (slice_index cells' i)) there
          (covers row w a i (is.here row there fits) least most (same ∙ ap (λ n. n / 2 ^ (32 - row.bits - w)) bits)) (here i few same) at (are i few)
      | inr differs ↦
          subst (λ (c : ℕ). AreSorted rows w (a * 256 + i) list (from + 1) (rows_in inside i) (row_of c)) (sym (others i few differs))
          (sorted_apart rows w (a * 256 + i) list from k row (rows_in inside i) (row_of (slice_index cells i)) there
          (covers_not row w a i (is.here row there fits) least most (λ e. differs (e ∙ ap (λ n. n / 2 ^ (32 - row.bits - w)) (sym bits)))) at (are i few))
    ]

-- at first each part has the best row of the range
cell_none : (cell i : ℕ) → i < 256 → slice_index (replicate 256 cell) i ≡ cell
cell_none cell i within = get_or-replicate 256 i cell 0 within

pub have_none : (rows : List Route) (cell : ℕ) (best : Option ℕ) → row_of cell ≡ best → IfSome best (λ r. r < length rows) → HaveRows rows (replicate 256 cell)
have_none rows cell best e row = record {
  long = length-replicate 256 cell;
  each = λ i within. subst (λ b. IfSome b (λ r. r < length rows)) (sym (ap row_of (cell_none cell i within) ∙ e)) row;
}

pub divided_none : (rows : List Route) (w a : ℕ) (list : List ℕ) (cell : ℕ) (best : Option ℕ) (inside : List (List ℕ)) → row_of cell ≡ best → ((part : ℕ) → rows_in inside part ≡ [])
    → AreSorted rows (w + 8) a [] 0 list best → AreDivided rows w a list 0 (replicate 256 cell) inside
divided_none rows w a list cell best inside e none sorted i within =
    subst (λ (xs : List ℕ). AreSorted rows w (a * 256 + i) list 0 xs (row_of (slice_index (replicate 256 cell) i))) (sym (none i))
    (subst (AreSorted rows w (a * 256 + i) list 0 []) (sym (ap row_of (cell_none cell i within) ∙ e))
    (sorted_none rows w (a * 256 + i) list best (subst (λ (n : ℕ). AreSorted rows (w + 8) n [] 0 list best) (sym (div-mul-add a 256 i within)) sorted)))

-- and at last all rows are there
pub divided_all : (rows : List Route) (w a : ℕ) (list : List ℕ) (from : ℕ) (cells : List ℕ) (inside : List (List ℕ)) → length list ≤ from → AreDivided rows w a list from cells inside
    → AreDivided rows w a [] 0 cells inside
divided_all rows w a list from cells inside past are i within = sorted_all rows w (a * 256 + i) list from (rows_in inside i) (row_of (slice_index cells i)) past (are i within)

-- the rows inside a part, which is a range of its own
pub part_sorted : (rows : List Route) (level a i : ℕ) (cells list : List ℕ) (inside : List (List ℕ)) (best : Option ℕ) → 0 < level → i < 256 → list ≡ rows_in inside i → best ≡ row_of (slice_index cells i)
    → AreDivided rows (8 * level) a [] 0 cells inside → AreSorted rows (8 * (level - 1) + 8) (a * 256 + i) [] 0 list best
part_sorted rows level a i cells list inside best above within e e' are =
    let part : 8 * level ≡ 8 * (level - 1) + 8 = omega arith in
    subst (λ (w : ℕ). AreSorted rows w (a * 256 + i) [] 0 list best) part
    (subst (λ (xs : List ℕ). AreSorted rows (8 * level) (a * 256 + i) [] 0 xs best) (sym e) (subst (AreSorted rows (8 * level) (a * 256 + i) [] 0 (rows_in inside i)) (sym e') (are i within)))

-- the rows inside a part of all addresses
pub high_sorted : (rows : List Route) (high : ℕ) (cells list : List ℕ) (inside : List (List ℕ)) (best : Option ℕ) → high < 256 → list ≡ rows_in inside high → best ≡ row_of (slice_index cells high)
    → AreDivided rows 24 0 [] 0 cells inside → AreSorted rows 24 high [] 0 list best
high_sorted rows high cells list inside best within e e' are =
    let first : 0 * 256 + high ≡ high = omega arith in
    subst (λ (a : ℕ). AreSorted rows 24 a [] 0 list best) first (part_sorted rows 3 0 high cells list inside best (omega arith) within e e' are)
