-- Cells and their blocks.
use Rattle.std.proofs.Common.{◌≡◌, ◌∙◌, ℕ, zero, suc, ◌+◌, ◌-◌, ◌*◌, ◌^◌, ◌<◌, ◌≤◌, Bool, true, false, MatchBool, nat_lt, refl, sym, ap, arith, subst, List, [], ◌∷◌, ◌++◌, ◌==◌, Some, None, IfSome, length, length-append, get_or, inl, inr}
use Rattle.std.specs.List.{slice_get, slice_index, slice_set}
use Rattle.std.proofs.lemmas.List.{get_or-set_other, get_or_append_left, get_or-append_right}
use Rattle.std.proofs.lemmas.Grind.{get_or-set_at}
use Rattle.std.proofs.lemmas.Bool.{cases_lt, eqb-true}
use Rattle.std.proofs.lemmas.Bool.Decides.{nat_tests}
use Rattle.lpm_fw.specs.declared.routes.Route.{Route}
use Rattle.lpm_fw.specs.Cells.{IsCell, IsRowCell, AreMore, AreParts, AreCells, AreSorted, HaveRows, row_of}
use Rattle.lpm_fw.proofs.Sorted.{row_cell_found}

abbrev Block : List Route → List (List ℕ) → ℕ → ℕ → ℕ → Type 0
Block rows blocks level a cell = (block : List ℕ) × (slice_get blocks (cell - 4097) ≡ Some block) × AreParts rows blocks level a block 256

pub cell_of_row : (rows : List Route) (blocks : List (List ℕ)) (level a cell : ℕ) → cell < 4097 → IsRowCell rows (8 * level) a cell → IsCell rows blocks level a cell
cell_of_row rows blocks zero a cell few is = is
cell_of_row rows blocks (suc level) a cell few is =
    let e : nat_lt cell 4097 ≡ true = grind (arith, nat_tests) in
    subst (λ (b : Bool). MatchBool b (IsRowCell rows (8 * suc level) a cell) (Block rows blocks level a cell)) (sym e) is

pub cell_of_block : (rows : List Route) (blocks : List (List ℕ)) (level a cell : ℕ) (block : List ℕ) → 4097 ≤ cell → 0 < level → slice_get blocks (cell - 4097) ≡ Some block
    → AreParts rows blocks (level - 1) a block 256 → IsCell rows blocks level a cell
cell_of_block rows blocks zero a cell block many above there parts = absurd (omega arith)
cell_of_block rows blocks (suc level) a cell block many above there parts =
    let e : nat_lt cell 4097 ≡ false = grind (arith, nat_tests) in
    let below : suc level - 1 ≡ level = omega arith in
    subst (λ (b : Bool). MatchBool b (IsRowCell rows (8 * suc level) a cell) (Block rows blocks level a cell)) (sym e)
    (block, there, subst (λ (l : ℕ). AreParts rows blocks l a block 256) below parts)

-- a cell stays what it is where blocks come behind the others
pub cell_more : (rows : List Route) (old new : List (List ℕ)) (level a cell : ℕ) → AreMore old new → IsCell rows old level a cell → IsCell rows new level a cell
cell_more rows old new zero a cell more = λ is. is
cell_more rows old new (suc level) a cell more = go (nat_lt cell 4097) (λ i c is. cell_more rows old new level (a * 256 + i) c more is)
  where
    go : (b : Bool) → ((i c : ℕ) → IsCell rows old level (a * 256 + i) c → IsCell rows new level (a * 256 + i) c)
        → MatchBool b (IsRowCell rows (8 * suc level) a cell) (Block rows old level a cell) → MatchBool b (IsRowCell rows (8 * suc level) a cell) (Block rows new level a cell)
    go true each is = is
    go false each (block, there, parts) = (block, more (cell - 4097) block there, λ i within. each i (slice_index block i) (parts i within))

pub part_more : (rows : List Route) (old new : List (List ℕ)) (level a : ℕ) (block : List ℕ) (n cell : ℕ) → length block ≡ 256 → n < 256 → AreMore old new
    → AreParts rows old level a block n → IsCell rows new level (a * 256 + n) cell → AreParts rows new level a (slice_set block n cell) (n + 1)
part_more rows old new level a block n cell long within more parts is i less =
    elim (cases_lt i n) [
      | inl before ↦
          let same : slice_index (slice_set block n cell) i ≡ slice_index block i = get_or-set_other block n i cell 0 (λ e. absurd (omega arith)) in
          subst (IsCell rows new level (a * 256 + i)) (sym same) (cell_more rows old new level (a * 256 + i) (slice_index block i) more (parts i before))
      | inr last ↦
          let e : n ≡ i = omega arith in
          let same : slice_index (slice_set block n cell) i ≡ cell = get_or-set_at block n i cell 0 (sym e) (omega arith) in
          subst (IsCell rows new level (a * 256 + i)) (sym same) (subst (λ (k : ℕ). IsCell rows new level (a * 256 + k) cell) e is)
    ]

pub no_items : (xs : List ℕ) → true ≡ (length xs == 0) → xs ≡ []
no_items [] e = refl
no_items (x ∷ xs) e = absurd (let n : length (x ∷ xs) ≡ 0 = eqb-true (length (x ∷ xs)) 0 (sym e) in let s : length (x ∷ xs) ≡ suc (length xs) = refl in omega arith)

pub above_zero : (level : ℕ) (xs : List ℕ) → (level ≡ 0 → xs ≡ []) → false ≡ (length xs == 0) → 0 < level
above_zero zero xs none e = absurd (let no : false ≡ true = e ∙ ap (λ (ys : List ℕ). length ys == 0) (none refl) in cc)
above_zero (suc level) xs none e = omega arith

-- a cell of a row of the table
few_rows : (rows : ℕ) (cell : ℕ) → rows ≤ 4096 → IfSome (row_of cell) (λ r. r < rows) → cell < 4097
few_rows rows zero few row = omega arith
few_rows rows (suc r) few row = omega arith

-- a part with no row inside it has the cell of its row
pub part_of_row : (rows : List Route) (blocks : List (List ℕ)) (level a : ℕ) (cells divided inside : List ℕ) (n : ℕ) → length rows ≤ 4096 → n < 256 → HaveRows rows divided → inside ≡ []
    → ((j : ℕ) → n ≤ j → slice_index cells j ≡ slice_index divided j) → AreSorted rows (8 * level) (a * 256 + n) [] 0 inside (row_of (slice_index divided n))
    → AreParts rows blocks level a cells n → AreParts rows blocks level a cells (n + 1)
part_of_row rows blocks level a cells divided inside n few within have none same sorted parts i less =
    elim (cases_lt i n) [
      | inl before ↦ parts i before
      | inr last ↦
          let e : n ≡ i = omega arith in
          let cell = cell_of_row rows blocks level (a * 256 + n) (slice_index divided n) (few_rows (length rows) (slice_index divided n) few (have.each n within))
          (row_cell_found rows (8 * level) (a * 256 + n) (slice_index divided n) inside (row_of (slice_index divided n)) sorted none refl) in
          subst (λ (k : ℕ). IsCell rows blocks level (a * 256 + k) (slice_index cells k)) e (subst (IsCell rows blocks level (a * 256 + n)) (sym (same n (omega arith))) cell)
    ]

-- a part with rows inside it has a block
pub part_of_block : (rows : List Route) (old now new : List (List ℕ)) (level a : ℕ) (cells block : List ℕ) (n cell : ℕ) → length cells ≡ 256 → n < 256 → 0 < level → AreMore old now → AreMore now new
    → AreParts rows old level a cells n → AreParts rows now (level - 1) (a * 256 + n) block 256 → 4097 ≤ cell → slice_get new (cell - 4097) ≡ Some block → AreParts rows new level a (slice_set cells n cell) (n + 1)
part_of_block rows old now new level a cells block n cell long within above more more' parts of_block many there =
    part_more rows old new level a cells n cell long within (λ k b at. more' k b (more k b at)) parts
    (cell_of_block rows new level (a * 256 + n) cell block many above there (λ i less. cell_more rows now new (level - 1) ((a * 256 + n) * 256 + i) (slice_index block i) more' (of_block i less)))

-- a range's cells more at the top
pub root_more : (rows : List Route) (root cells : List ℕ) (old new : List (List ℕ)) (high : ℕ) → length cells ≡ 256 → AreCells rows root old (high * 256) → AreMore old new → AreParts rows new 2 high cells 256
    → AreCells rows (root ++ cells) new (high * 256 + 256)
root_more rows root cells old new high long are more parts = record {
  long = length-append root cells ∙ ap (λ (k : ℕ). k + length cells) are.long ∙ ap (λ (k : ℕ). high * 256 + k) long;
  each = λ a less. elim (cases_lt a (high * 256)) [
    | inl before ↦
        let same : slice_index (root ++ cells) a ≡ slice_index root a = get_or_append_left root cells 0 a (let l = are.long in omega arith) in
        subst (IsCell rows new 2 a) (sym same) (cell_more rows old new 2 a (slice_index root a) more (are.each a before))
    | inr past ↦
        let e : high * 256 + (a - high * 256) ≡ a = omega arith in
        let here : slice_index (root ++ cells) a ≡ slice_index cells (a - high * 256) = get_or-append_right root cells (high * 256) a 0 are.long past in
        subst (IsCell rows new 2 a) (sym here) (subst (λ (k : ℕ). IsCell rows new 2 k (slice_index cells (a - high * 256))) e (parts (a - high * 256) (omega arith)))
  ];
}
