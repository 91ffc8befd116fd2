-- What the workers of a tenant answer together is the tenant meaning.
use Rattle.std.proofs.Common.{◌≡◌, ℕ, ◌+◌, List, [], ◌∷◌, ◌++◌, map, length, min, Bool, true, false, cond, Some, refl, ap, ◌∙◌, arith}
use Rattle.std.specs.List.{count_by}
use Rattle.std.proofs.lemmas.List.Sums.{sum_by-append}
use Rattle.brick_spec.specs.FlowClass.{class_at}
use Rattle.brick_spec.specs.Item.{Item}
use Rattle.brick_spec.specs.Stage.{Reason, Big}
use Rattle.flow_spec.specs.Answer.{counts_of, is_at, dropped_of}
use Rattle.tenant_spec.specs.ChainPlan.{plan_of}
use Rattle.tenant_spec.specs.Records.{accepted_items, big_items}
use Rattle.tenant_spec.specs.Tenant.{output_lists}
use Rattle.work_core.specs.Keys.{ChainsOwnKeys}
use Rattle.work_parts.specs.Tenants.{with_big, in_32_bits, WorkersMakeTenant}
use Rattle.work_parts.proofs.Answers.{workers_answer_as_one}
use Rattle.work_parts.proofs.Records.{frames, accepted_are}

abbrev bigs_among : List Item → List Reason
bigs_among bigs = map (λ (i : Item). Big) bigs

count_both : (p : Reason → Bool) (xs ys : List Reason) → count_by p (xs ++ ys) ≡ count_by p xs + count_by p ys
count_both p xs ys = sum_by-append (λ r. cond (p r) 1 0) xs ys

one_big : (p : Reason → Bool) → count_by p (Big ∷ []) ≡ 0 + cond (p Big) 1 0
one_big p = refl

none_elsewhere : (p : Reason → Bool) → p Big ≡ false → (bigs : List Item) → count_by p (bigs_among bigs) ≡ 0
none_elsewhere p e [] = refl
none_elsewhere p e (x ∷ xs) = count_both p (Big ∷ []) (bigs_among xs) ∙ (let a = one_big p ∙ ap (λ (b : Bool). 0 + cond b 1 0) e in let b = none_elsewhere p e xs in omega (arith, a, b))

all_there : (p : Reason → Bool) → p Big ≡ true → (bigs : List Item) → count_by p (bigs_among bigs) ≡ length bigs
all_there p e [] = refl
all_there p e (x ∷ xs) = count_both p (Big ∷ []) (bigs_among xs) ∙ (let a = one_big p ∙ ap (λ (b : Bool). 0 + cond b 1 0) e in let b = all_there p e xs in omega (arith, a, b))

-- the counts of other reasons stay
stays : (k : ℕ) → is_at k Big ≡ false → (bigs : List Item) (rs : List Reason) → min 4294967295 (min 4294967295 (count_by (is_at k) rs)) ≡ min 4294967295 (count_by (is_at k) (bigs_among bigs ++ rs))
stays k e bigs rs = let a = count_both (is_at k) (bigs_among bigs) rs in let b = none_elsewhere (is_at k) e bigs in by (count_by (is_at k) rs) _ _ a b where
  by : (x y z : ℕ) → y ≡ z + x → z ≡ 0 → min 4294967295 (min 4294967295 x) ≡ min 4294967295 y
  by x y z h k = omega (arith, h, k)

first_more : (bigs : List Item) (rs : List Reason) → min 4294967295 (length bigs + min 4294967295 (count_by (is_at 0) rs)) ≡ min 4294967295 (count_by (is_at 0) (bigs_among bigs ++ rs))
first_more bigs rs = let a = count_both (is_at 0) (bigs_among bigs) rs in let b = all_there (is_at 0) refl bigs in by (count_by (is_at 0) rs) _ _ (length bigs) a b where
  by : (x y z m : ℕ) → y ≡ z + x → z ≡ m → min 4294967295 (m + min 4294967295 x) ≡ min 4294967295 y
  by x y z m h k = omega (arith, h, k)

counted : (bigs : List Item) (rs : List Reason) → in_32_bits (with_big (length bigs) (map (min 4294967295) (counts_of rs))) ≡ in_32_bits (counts_of (bigs_among bigs ++ rs))
counted bigs rs = λ i.
    first_more bigs rs i ∷ stays 1 refl bigs rs i ∷ stays 2 refl bigs rs i ∷ stays 3 refl bigs rs i ∷ stays 4 refl bigs rs i ∷ stays 5 refl bigs rs i ∷ stays 6 refl bigs rs i ∷ stays 7 refl bigs rs i ∷ stays 8 refl bigs rs i ∷ []

pub workers_make_tenant : ChainsOwnKeys → WorkersMakeTenant
workers_make_tenant owns chain refused c workers some =
    let list = accepted_items chain refused c in
    let same = workers_answer_as_one (plan_of chain) (class_at chain.nat (frames c)) (length c.entries) list workers (owns chain) (accepted_are chain refused c) some in
    record {
      same = same;
      outputs = ap (λ a. output_lists chain a.groups) same;
      drops = ap (λ a. in_32_bits (with_big (length (big_items chain c)) a.drops)) same ∙ counted (big_items chain c) (map (λ d. d.reason) (dropped_of (plan_of chain) (Some (length c.entries)) list));
    }
