-- A row that is put into the cells of some parts, one after the other.
use Rattle.std.proofs.Common.{◌≡◌, ◌≢◌, ◌∙◌, ℕ, ◌+◌, ◌-◌, ◌*◌, ◌/◌, ◌%◌, ◌^◌, ◌<◌, ◌≤◌, refl, sym, ap, arith, subst, List, IfSome, Option, length, inl, inr}
use Rattle.std.specs.List.{slice_index, slice_set}
use Rattle.std.proofs.Math.Nat.{div-eq_of_lt-le, div-mul-le_self, lt-div-mul-add}
use Rattle.std.proofs.lemmas.Nat.{pow-add, pow_pos, row_fits, shr_below, one_shl}
use Rattle.std.proofs.lemmas.List.{get_or-set_other, length-set}
use Rattle.std.proofs.lemmas.Grind.{get_or-set_at}
use Rattle.std.proofs.lemmas.Bool.{cases_lt, cases_eq}
use Rattle.lpm_fw.specs.declared.routes.Route.{Route}
use Rattle.lpm_fw.specs.Cells.{HaveRows, IsLonger, row_of}

-- the parts of a row lie among the 256
pub fits : (part s : ℕ) → s ≤ 8 → part < 256 → part / 2 ^ s * 2 ^ s + 2 ^ s ≤ 256
fits part s few within =
    let sum : 8 - s + s ≡ 8 = omega arith in
    let whole : 2 ^ (8 - s) * 2 ^ s ≡ 256 = sym (pow-add 2 (8 - s) s) ∙ ap (λ n. 2 ^ n) sum in
    let below : part < 2 ^ (8 - s + s) = subst (λ n. part < 2 ^ n) (sym sum) within in
    subst (λ n. part / 2 ^ s * 2 ^ s + 2 ^ s ≤ n) whole (row_fits (part / 2 ^ s) (2 ^ s) (2 ^ (8 - s)) (2 ^ s) (shr_below part (8 - s) s below) (omega arith))

-- the cells of the parts of a row before part i have that row, unless a longer one
pub record Covered (rows : List Route) (k part s : ℕ) (old new : List ℕ) (i : ℕ) : Type 0 where
  pub have : HaveRows rows new
  pub here : (j : ℕ) → j < i → j / 2 ^ s ≡ part / 2 ^ s → IsLonger rows (row_of (slice_index old j)) k (row_of (slice_index new j))
  pub after : (j : ℕ) → i ≤ j → slice_index new j ≡ slice_index old j
  pub others : (j : ℕ) → j / 2 ^ s ≢ part / 2 ^ s → slice_index new j ≡ slice_index old j

pub covered_none : (rows : List Route) (k part s : ℕ) (old : List ℕ) → HaveRows rows old → Covered rows k part s old old (part / 2 ^ s * 2 ^ s)
covered_none rows k part s old have = record {
  have = have;
  here = λ j less same. absurd (let e : j / 2 ^ s * 2 ^ s ≡ part / 2 ^ s * 2 ^ s = ap (λ n. n * 2 ^ s) same in let l = div-mul-le_self j (2 ^ s) in omega arith);
  after = λ j past. refl;
  others = λ j differs. refl;
}

pub covered_more : (rows : List Route) (k part s : ℕ) (old new : List ℕ) (i cell : ℕ) (best : Option ℕ) → i < 256 → part / 2 ^ s * 2 ^ s ≤ i → i < part / 2 ^ s * 2 ^ s + 2 ^ s
    → IsLonger rows (row_of (slice_index new i)) k best → IfSome best (λ r. r < length rows) → row_of cell ≡ best → Covered rows k part s old new i → Covered rows k part s old (slice_set new i cell) (i + 1)
covered_more rows k part s old new i cell best within least most longer row e c =
    let same_bits : i / 2 ^ s ≡ part / 2 ^ s = div-eq_of_lt-le (2 ^ s) least (omega arith) in
    let at : slice_index (slice_set new i cell) i ≡ cell = get_or-set_at new i i cell 0 refl (let l = c.have.long in omega arith) in
    let beside : (j : ℕ) → j ≢ i → slice_index (slice_set new i cell) j ≡ slice_index new j = λ j differs. get_or-set_other new i j cell 0 differs in
    record {
      have = record {
        long = length-set new i cell ∙ c.have.long;
        each = λ j less. elim (cases_eq j i) [
          | inl same ↦ subst (λ b. IfSome b (λ r. r < length rows)) (sym (ap (λ n. row_of (slice_index (slice_set new i cell) n)) same ∙ ap row_of at ∙ e)) row
          | inr differs ↦ subst (λ n. IfSome (row_of n) (λ r. r < length rows)) (sym (beside j differs)) (c.have.each j less)
        ];
      };
      here = λ j less same_bits. elim (cases_eq j i) [
        | inl same ↦
            subst (λ n. IsLonger rows (row_of (slice_index old n)) k (row_of (slice_index (slice_set new i cell) n))) (sym same)
            (subst (λ b. IsLonger rows (row_of (slice_index old i)) k b) (sym (ap row_of at ∙ e)) (subst (λ n. IsLonger rows (row_of n) k best) (c.after i (omega arith)) longer))
        | inr differs ↦ subst (λ n. IsLonger rows (row_of (slice_index old j)) k (row_of n)) (sym (beside j differs)) (c.here j (omega arith) same_bits)
      ];
      after = λ j past. beside j (λ same. absurd (omega arith)) ∙ c.after j (omega arith);
      others = λ j differs. beside j (λ same. differs (ap (λ n. n / 2 ^ s) same ∙ same_bits)) ∙ c.others j differs;
    }

-- all parts of the row
pub covered_here : (rows : List Route) (k part s : ℕ) (old new : List ℕ) (i : ℕ) → part / 2 ^ s * 2 ^ s + 2 ^ s ≤ i → Covered rows k part s old new i
    → (j : ℕ) → j / 2 ^ s ≡ part / 2 ^ s → IsLonger rows (row_of (slice_index old j)) k (row_of (slice_index new j))
covered_here rows k part s old new i past c j same =
    c.here j (let e : j / 2 ^ s * 2 ^ s ≡ part / 2 ^ s * 2 ^ s = ap (λ n. n * 2 ^ s) same in let l : j < j / 2 ^ s * 2 ^ s + 2 ^ s = lt-div-mul-add (pow_pos s) in omega arith) same

-- how many parts a row has, as the code finds it
pub size_is : (s : ℕ) → s ≤ 8 → (1 * 2 ^ s) % 2 ^ 64 ≡ 2 ^ s
size_is s few = one_shl s 64 (omega arith)
