-- What a log of faults counts.
use Rattle.std.proofs.Common.{◌≡◌, ℕ, ◌+◌, ◌∷◌, ◌++◌, [], List, Bool, true, false, cond, eqb, ◌&&◌, bytes_eq, string_bytes, ap, ◌∙◌, sym, String, arith}
use Rattle.std.proofs.lemmas.Grind.{fold-append}
use Rattle.std.proofs.lemmas.Bool.{false_from_ne_true}
use Rattle.std.proofs.lemmas.Bool.Decides.{Decides-eqb}
use Rattle.std.proofs.lemmas.Slice.Eq.{bytes_eq-Decides}
use Rattle.std.specs.declared.alloc.Global.{Global}
use Rattle.store_io.specs.Faults.{Counted, CountsOne}
use Rattle.store_io.specs.Memory.{failures}

failures-push : (log : List (ℕ × String Global)) (entry : ℕ × String Global) (a : ℕ) (n : List ℕ)
    → failures (log ++ entry ∷ []) a n ≡ failures log a n + cond (eqb entry.0 a && bytes_eq (string_bytes entry.1) n) 1 0
failures-push log entry a n = fold-append (λ (m : ℕ) (e : ℕ × String Global). m + cond (eqb e.0 a && bytes_eq (string_bytes e.1) n) 1 0) 0 log (entry ∷ [])

neither : (b : Bool) (n : ℕ) → n + cond (b && false) 1 0 ≡ n
neither true n = omega arith
neither false n = omega arith

-- one more entry counts once, on its account and its name
pub counts_one-push : (log : List (ℕ × String Global)) (entry : ℕ × String Global) (account : ℕ) (name : List ℕ)
    → entry.0 ≡ account → string_bytes entry.1 ≡ name → CountsOne account name (failures log) (failures (log ++ entry ∷ []))
counts_one-push log entry account name is_account is_name =
    let first : eqb entry.0 account ≡ true = (Decides-eqb entry.0 account).1 is_account in
    let second : bytes_eq (string_bytes entry.1) name ≡ true = (bytes_eq-Decides (string_bytes entry.1) name).1 is_name in
    record {
      one = failures-push log entry account name ∙ ap (λ (b : Bool). failures log account name + cond (b && bytes_eq (string_bytes entry.1) name) 1 0) first ∙ ap (λ (b : Bool). failures log account name + cond b 1 0) second;
      accounts = λ a n differs.
          let no : eqb entry.0 a ≡ false = false_from_ne_true _ (λ same. differs (sym ((Decides-eqb entry.0 a).0 same) ∙ is_account)) in
          failures-push log entry a n ∙ ap (λ (b : Bool). failures log a n + cond (b && bytes_eq (string_bytes entry.1) n) 1 0) no ∙ omega arith;
      names = λ a n differs.
          let no : bytes_eq (string_bytes entry.1) n ≡ false = false_from_ne_true _ (λ same. differs (sym ((bytes_eq-Decides (string_bytes entry.1) n).0 same) ∙ is_name)) in
          failures-push log entry a n ∙ ap (λ (b : Bool). failures log a n + cond (eqb entry.0 a && b) 1 0) no ∙ neither (eqb entry.0 a) (failures log a n);
    }

pub counted-push : (log : List (ℕ × String Global)) (entry : ℕ × String Global) (account : ℕ) (name : List ℕ)
    → entry.0 ≡ account → string_bytes entry.1 ≡ name → Counted account name (failures log) (failures (log ++ entry ∷ []))
counted-push log entry account name is_account is_name =
    let once : CountsOne account name (failures log) (failures (log ++ entry ∷ [])) = counts_one-push log entry account name is_account is_name in
    record {
      rose = omega (arith, once.one);
      later = λ a n. grind (arith, failures-push log entry a n);
      others = once.accounts;
    }
