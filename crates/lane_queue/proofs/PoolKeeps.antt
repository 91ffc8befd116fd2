-- Each step on the pool's queue keeps its rule.
use Rattle.std.proofs.Common.{◌≡◌, ◌≢◌, ℕ, zero, suc, ◌+◌, ◌<◌, Bool, true, false, true≢false, List, [], ◌∷◌, ◌++◌, set, sym, refl, ap, ◌∙◌, subst, ⊎_elim, arith, Option, Some, None}
use mathlib.Core.Option.{some, some-injective, some-ne-none}
use mathlib.Core.List.{map-append}
use lib.ListN.{get_elem?}
use Rattle.crossbeam_queue.specs.Fifo.{Pushes, Pops, Forks, Merges, Learns}
use Rattle.atomic_table.proofs.Lists.{at_set, at_snoc}
use Rattle.packet_owner.specs.Buffer.{BufferModel as Buffer}
use Rattle.lane_spec.specs.Counts.{total, times, one_if}
use Rattle.lane_core.proofs.Counting.{times_append}
use Rattle.lane_core.proofs.Views.{total_set, total_last, total_at, total_two}
use Rattle.lane_queue.specs.declared.pool_rule.PoolView.{PoolView}
use Rattle.lane_queue.specs.PoolRule.{pool_view, first_view, spent, kept_parts, given_part, both_parts, slots_in, in_put, in_taken, parts_of, may_take, FitsPool, Stands, Pool, MayFill, Fills, Puts, Takes, Rest, Whole}

each_but : (P : PoolView → Type 0) (views : List PoolView) (id : ℕ) (w : PoolView) → P w → ((k : ℕ) (u : PoolView) → k ≢ id → get_elem? views k ≡ some u → P u)
    → (k : ℕ) (u : PoolView) → get_elem? (set views id w) k ≡ some u → P u
each_but P views id w mine others k u e = ⊎_elim (λ (x : (k ≡ id) × (w ≡ u)). subst P x.1 mine) (λ (x : (k ≢ id) × (get_elem? views k ≡ some u)). others k u x.0 x.1) (at_set views id k w u e)

each : (P : PoolView → Type 0) (views : List PoolView) (id : ℕ) (w : PoolView) → P w → ((k : ℕ) (u : PoolView) → get_elem? views k ≡ some u → P u)
    → (k : ℕ) (u : PoolView) → get_elem? (set views id w) k ≡ some u → P u
each P views id w mine others = each_but P views id w mine (λ k u ne e. others k u e)

slots_last : (xs : List Buffer) (b : Buffer) (i : ℕ) → times i (slots_in (xs ++ b ∷ [])) ≡ times i (slots_in xs) + times i (b.slot ∷ [])
slots_last xs b i = ap (times i) (map-append (λ (b : Buffer). b.slot) xs (b ∷ [])) ∙ times_append i (slots_in xs) (b.slot ∷ [])

-- THE START

only_first : (id : ℕ) (v : PoolView) → get_elem? (first_view ∷ []) id ≡ some v → first_view ≡ v
only_first zero v e = some-injective first_view v e
only_first (suc id) v e = absurd (some-ne-none v (sym e))

pub begins : Pool [] (first_view ∷ [])
begins = record {
  size = None;
  fits = λ k b e. absurd (some-ne-none b (sym e));
  counts = λ i. refl;
  parts = refl;
  one_takes = omega arith;
  stands = λ id v e. subst (Stands None) (only_first id v e) record { idle = λ _. (refl, refl); takes = λ _. refl; knows = λ _. refl };
}

-- PUTS

grows : (size : Option (ℕ × ℕ)) (b x : Buffer) → MayFill size b → FitsPool size x → FitsPool (Some (b.room, b.slot + 1)) x
grows None b x may fits = absurd fits
grows (Some a) b x may fits = (fits.0 ∙ sym may.0, (let lt = fits.1 in let le = may.1 in omega arith))

pub fills : (n id : ℕ) (v : PoolView) (b : Buffer) → v.parts ≡ 1024 → MayFill v.size b → Pushes Pool n id v b (Fills v b)
fills n id v b all may items views _ p at = let size : Option (ℕ × ℕ) = Some (b.room, b.slot + 1) in let w : PoolView = pool_view v.parts v.takes (v.put ++ b.slot ∷ []) v.taken size in let mine = p.stands id v at in
    let same : v.size ≡ p.size = mine.knows (omega arith) in (
      w,
      record {
        size = size;
        fits = λ k x e. ⊎_elim (λ e'. grows v.size b x may (subst (λ (a : Option (ℕ × ℕ)). FitsPool a x) (sym same) (p.fits k x e'))) (λ (is : b ≡ x). subst (FitsPool size) is (refl, omega arith)) (at_snoc items b x k e);
        counts = λ i. let a = total_set (in_taken i) views id v w at in let c = total_set (in_put i) views id v w at in let o = p.counts i in let s = slots_last items b i in let t = times_append i v.put (b.slot ∷ []) in omega arith;
        parts = let a = total_set parts_of views id v w at in let o = p.parts in omega arith;
        one_takes = let a = total_set may_take views id v w at in let o = p.one_takes in omega arith;
        stands = each_but (Stands size) views id w record { idle = λ e. absurd (omega arith); takes = mine.takes; knows = λ _. refl }
            (λ k u ne e. let o = p.stands k u e in record { idle = o.idle; takes = o.takes; knows = λ some_part. absurd (let two = total_two parts_of views k id u v ne e at in let q = p.parts in omega arith) });
      },
      refl,
    )

pub puts : (n id : ℕ) (v : PoolView) (b : Buffer) → 0 < v.parts → FitsPool v.size b → Pushes Pool n id v b (Puts v b)
puts n id v b some_part fits items views _ p at = let w : PoolView = pool_view v.parts v.takes (v.put ++ b.slot ∷ []) v.taken v.size in let mine = p.stands id v at in (
  w,
  record {
    size = p.size;
    fits = λ k x e. ⊎_elim (λ e'. p.fits k x e') (λ (is : b ≡ x). subst (FitsPool p.size) is (subst (λ (a : Option (ℕ × ℕ)). FitsPool a b) (mine.knows some_part) fits)) (at_snoc items b x k e);
    counts = λ i. let a = total_set (in_taken i) views id v w at in let c = total_set (in_put i) views id v w at in let o = p.counts i in let s = slots_last items b i in let t = times_append i v.put (b.slot ∷ []) in omega arith;
    parts = let a = total_set parts_of views id v w at in let o = p.parts in omega arith;
    one_takes = let a = total_set may_take views id v w at in let o = p.one_takes in omega arith;
    stands = each (Stands p.size) views id w record { idle = λ e. absurd (omega arith); takes = mine.takes; knows = mine.knows } p.stands;
  },
  refl,
)

-- TAKES

pub takes : (id : ℕ) (v : PoolView) → 0 < v.parts → v.takes ≡ true → Pops Pool id v (Takes v)
takes id v some_part may b items views p at = let w : PoolView = pool_view v.parts v.takes v.put (v.taken ++ b.slot ∷ []) v.size in let mine = p.stands id v at in (
  w,
  record {
    size = p.size;
    fits = λ k x e. p.fits (suc k) x e;
    counts = λ i. let a = total_set (in_taken i) views id v w at in let c = total_set (in_put i) views id v w at in let o = p.counts i in let t = times_append i v.taken (b.slot ∷ []) in omega arith;
    parts = let a = total_set parts_of views id v w at in let o = p.parts in omega arith;
    one_takes = let a = total_set may_take views id v w at in let o = p.one_takes in omega arith;
    stands = each (Stands p.size) views id w record { idle = λ e. absurd (omega arith); takes = λ e. absurd (true≢false (sym may ∙ e)); knows = mine.knows } p.stands;
  },
  record { view = refl; fits = subst (λ (a : Option (ℕ × ℕ)). FitsPool a b) (sym (mine.knows some_part)) (p.fits 0 b refl) },
)

-- LESSONS

-- where only one view's term may be other than 0, that term is the sum
alone : (f : PoolView → ℕ) (views : List PoolView) (id : ℕ) (v : PoolView) → get_elem? views id ≡ some v → ((k : ℕ) (u : PoolView) → k ≢ id → get_elem? views k ≡ some u → f u ≡ 0) → total f views ≡ f v
alone f [] id v at none = absurd (some-ne-none v (sym at))
alone f (x ∷ xs) zero v at zeros = let e : f x ≡ f v = ap f (some-injective x v at) in let r = nothing f xs (λ k u e. zeros (suc k) u (λ e'. absurd (omega arith)) e) in omega arith where
  nothing : (f : PoolView → ℕ) (xs : List PoolView) → ((k : ℕ) (u : PoolView) → get_elem? xs k ≡ some u → f u ≡ 0) → total f xs ≡ 0
  nothing f [] zeros = refl
  nothing f (x ∷ xs) zeros = let a = zeros 0 x refl in let r = nothing f xs (λ k u e. zeros (suc k) u e) in omega arith
alone f (x ∷ xs) (suc id) v at zeros = let a = zeros 0 x (λ e. absurd (omega arith)) refl in let r = alone f xs id v at (λ k u ne e. zeros (suc k) u (λ e'. ne (omega arith)) e) in omega arith

-- all that the pass that takes has put was taken by it, or is there
pub rests : (id : ℕ) (v : PoolView) → v.takes ≡ true → Learns Pool id v (Rest v)
rests id v may items views p at i = let o = p.counts i in let a = total_at (in_put i) views id v at in
    let t = alone (in_taken i) views id v at (λ k u ne e. ap (times i) ((p.stands k u e).takes (off u.takes (λ on. absurd (
    let two = total_two may_take views k id u v ne e at in let x : one_if u.takes ≡ 1 = ap one_if on in let y : one_if v.takes ≡ 1 = ap one_if may in let q = p.one_takes in omega arith))))) in
    omega arith where
      off : (b : Bool) → b ≢ true → b ≡ false
      off true not = absurd (not refl)
      off false not = refl

-- a pass with all parts: what it took, and what is there, is what it put
pub wholes : (id : ℕ) (v : PoolView) → v.parts ≡ 1024 → Learns Pool id v (Whole v)
wholes id v all items views p at i = let o = p.counts i in
    let idle : (k : ℕ) (u : PoolView) → k ≢ id → get_elem? views k ≡ some u → (u.put ≡ []) × (u.taken ≡ []) = λ k u ne e. (p.stands k u e).idle (let two = total_two parts_of views k id u v ne e at in let q = p.parts in omega arith) in
    let a = alone (in_taken i) views id v at (λ k u ne e. ap (times i) (idle k u ne e).1) in let b = alone (in_put i) views id v at (λ k u ne e. ap (times i) (idle k u ne e).0) in omega arith

-- PASSES

pub forks : (id : ℕ) (v : PoolView) → 1 < v.parts → Forks Pool id v (kept_parts v) (given_part v)
forks id v many items views p at = let l : PoolView = kept_parts v in let r : PoolView = given_part v in let mine = p.stands id v at in let vs : List PoolView = set views id l in
    let old : (k : ℕ) (u : PoolView) → get_elem? vs k ≡ some u → Stands p.size u = each (Stands p.size) views id l record { idle = λ e. absurd (omega arith); takes = mine.takes; knows = λ _. mine.knows (omega arith) } p.stands in record {
      size = p.size;
      fits = p.fits;
      counts = λ i. let a = total_set (in_taken i) views id v l at in let c = total_set (in_put i) views id v l at in let d = total_last (in_taken i) vs r in let e = total_last (in_put i) vs r in let o = p.counts i in omega arith;
      parts = let a = total_set parts_of views id v l at in let d = total_last parts_of vs r in let o = p.parts in omega arith;
      one_takes = let a = total_set may_take views id v l at in let d = total_last may_take vs r in let o = p.one_takes in omega arith;
      stands = λ k u e. ⊎_elim (λ e'. old k u e') (λ (is : r ≡ u). subst (Stands p.size) is record { idle = λ _. (refl, refl); takes = λ _. refl; knows = λ _. mine.knows (omega arith) }) (at_snoc vs r u k e);
    }

pub merges : (id : ℕ) (v : PoolView) (other : ℕ) (u : PoolView) → 0 < v.parts → v.takes ≡ true → Merges Pool id v other u (both_parts v u) spent
merges id v other u some_part may items views p at two at' = let b : PoolView = both_parts v u in let mine = p.stands id v at in let vs : List PoolView = set views id b in record {
  size = p.size;
  fits = p.fits;
  counts = λ i. let a = total_set (in_taken i) views id v b at in let c = total_set (in_put i) views id v b at in let d = total_set (in_taken i) vs other u spent at' in let e = total_set (in_put i) vs other u spent at' in
      let f = times_append i v.taken u.taken in let h = times_append i v.put u.put in let o = p.counts i in omega arith;
  parts = let a = total_set parts_of views id v b at in let d = total_set parts_of vs other u spent at' in let o = p.parts in omega arith;
  one_takes = let a = total_set may_take views id v b at in let d = total_set may_take vs other u spent at' in let o = p.one_takes in omega arith;
  stands = each (Stands p.size) vs other spent record { idle = λ _. (refl, refl); takes = λ _. refl; knows = λ lt. absurd (omega arith) }
      (each (Stands p.size) views id b record { idle = λ e. absurd (omega arith); takes = λ e. absurd (true≢false (sym may ∙ e)); knows = λ _. mine.knows some_part } p.stands);
}
