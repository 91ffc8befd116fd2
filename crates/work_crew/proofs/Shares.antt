-- One record more of a worker's share.
use Rattle.std.proofs.Common.{◌≡◌, ℕ, suc, ◌+◌, ◌<◌, ◌≤◌, Bool, true, List, [], ◌∷◌, length, set, get_or, sym, ap, ◌∙◌, arith, eq-eqb, ne_eqb, inl, inr, length-append, get_or-set_same, get_or-set_other}
use Rattle.std.specs.Prelude.{slice_index}
use Rattle.std.proofs.lemmas.Bool.Decides.{eqb_tells}
use Rattle.run_spec.specs.Books.{Job}
use Rattle.work_crew.specs.Records.{numbers_where, of_worker, worker_of}
use Rattle.work_crew.proofs.Ingests.{where_yes, where_no}

next : (t : ℕ → Bool) (k : ℕ) → length (numbers_where t (suc k)) ≡ length (numbers_where t (k + 1))
next t k = ap (λ m. length (numbers_where t m)) (let e : suc k ≡ k + 1 = omega arith in e)

counted : (t : ℕ → Bool) (k : ℕ) → t k ≡ true → length (numbers_where t (suc k)) ≡ length (numbers_where t k) + 1
counted t k y = ap length (where_yes t k y) ∙ length-append (numbers_where t k) (k ∷ [])

pub share_step : (job : Job) (workers k v : ℕ) (shares : List ℕ) → length shares ≡ 16 → workers ≤ 16 → v ≡ worker_of job workers k → v < workers
    → ((w : ℕ) → w < workers → slice_index shares w ≡ length (numbers_where (of_worker job workers w) k))
    → (w : ℕ) → w < workers → slice_index (set shares v (get_or shares v 0 + 1)) w ≡ length (numbers_where (of_worker job workers w) (k + 1))
share_step job workers k v shares count few is below all w lt = elim (eqb_tells w v) [
  | inl e ↦ ap (λ i. get_or (set shares v (get_or shares v 0 + 1)) i 0) e.1 ∙ get_or-set_same shares v (get_or shares v 0 + 1) 0 (omega arith) ∙ ap (λ n. n + 1) (ap (λ i. get_or shares i 0) (sym e.1) ∙ all w lt)
      ∙ sym (counted (of_worker job workers w) k (eq-eqb (worker_of job workers k) w (sym is ∙ sym e.1))) ∙ next (of_worker job workers w) k
  | inr e ↦ get_or-set_other shares v w (get_or shares v 0 + 1) 0 e.1 ∙ all w lt ∙ sym (ap length (where_no (of_worker job workers w) k (ne_eqb (worker_of job workers k) w (λ q. e.1 (sym q ∙ sym is))))) ∙ next (of_worker job workers w) k
]
