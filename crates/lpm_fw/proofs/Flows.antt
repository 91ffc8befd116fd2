-- The set of flows, as the keys that are kept in order.
use Rattle.std.proofs.Common.{◌≡◌, ◌∙◌, ℕ, Bool, true, false, cond, ◌||◌, refl, sym, ap}
use Rattle.std.specs.Ordering.{nat_cmp, eq_by_cmp}
use Rattle.std.specs.Cmp.{nat_cmp_total, unsigned_tied, nat_eq_equiv}
use Rattle.std.specs.BTreeSet as tree
use Rattle.std.specs.FinSet as set

-- a flow is in the set where its key is kept
pub among : (s : tree.BTreeSet ℕ) (flow : ℕ) → tree.contains nat_cmp s flow ≡ set.contains {R = nat_cmp} (set.from_list s.keys) flow
among s flow = sym (set.contains-from_list nat_cmp_total s.keys flow)

tied_back : (a b : ℕ) → eq_by_cmp nat_cmp a b ≡ eq_by_cmp nat_cmp b a
tied_back a b = unsigned_tied a b ∙ nat_eq_equiv.symm a b ∙ sym (unsigned_tied b a)

or_by_cond : (a b : Bool) → cond a true b ≡ (a || b)
or_by_cond true b = refl
or_by_cond false b = refl

-- one more key is one more flow
pub inserted : (s n : tree.BTreeSet ℕ) (flow : ℕ) → tree.Updates nat_cmp s n flow true → set.from_list {R = nat_cmp} n.keys ≡ set.insert (set.from_list s.keys) flow
inserted s n flow updates =
    set.same_set nat_cmp_total set.nat_cmp-IsAntisymmetric _ _ (λ q.
    sym (among n q) ∙ updates.0 q ∙ or_by_cond (eq_by_cmp nat_cmp flow q) (tree.contains nat_cmp s q) ∙ ap (λ b. b || tree.contains nat_cmp s q) (tied_back flow q) ∙ ap (λ b. eq_by_cmp nat_cmp q flow || b) (among s q)
    ∙ sym (set.contains-insert nat_cmp_total (set.from_list s.keys) flow q))
