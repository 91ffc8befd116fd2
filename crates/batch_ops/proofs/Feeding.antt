-- One operator steps over the packets that another one passed.
use Rattle.std.proofs.Common.{◌≡◌, ℕ, ◌+◌, ◌*◌, ◌≤◌, List, [], ◌∷◌, ◌++◌, map, length, Bool, true, false, None, Result, Ok, Err, OnErr, refl, ap, sym, subst, ◌∙◌, arith, append-nil, append_assoc, length-append, reverse}
use Rattle.std.proofs.lemmas.List.{map-append, length-map, length-reverse, reverse-append}
use Rattle.std.proofs.lemmas.List.Sorted.{length_permutation}
use Rattle.std.specs.List.{AllByRecursion, list_any}
use Rattle.std.specs.Prelude.{⊤, is_err}
use Rattle.brick_spec.specs.Flow.{Flow}
use Rattle.brick_base.specs.Flow.{flow_of, dir_view}
use Rattle.brick_base.specs.declared.flow.Class.{Class}
use Rattle.brick_base.specs.declared.memory.NoMemory.{NoMemory}
use Rattle.packet_owner.specs.Packet.{packet_item}
use Rattle.batch_ops.specs.declared.outlet.Outlet.{Outlet}
use Rattle.batch_ops.specs.declared.outlet.Passed.{Passed}
use Rattle.batch_ops.specs.Outlet.{Added, KeyedBuffer, HasRoom, HasOtherKey, both_added, is_lost, passed_item, passed_keyed, keyed}
use Rattle.batch_ops.specs.Operator.{Meaning, Stepped, Fed, IsLost, work_item}
pub use Rattle.batch_ops.proofs.Calls.{joined}
use Rattle.batch_ops.proofs.Calls.{did_nothing, moves_none, moves_both, did_both, did_as, how_many, left_none, right_none, some_of_first, some_of_second}

-- what is true of all of two lists is true of all of each, and the other way round
pub all_of_both : {X : Type 0} (P : X → Type 0) (xs ys : List X) → AllByRecursion P xs → AllByRecursion P ys → AllByRecursion P (xs ++ ys)
all_of_both P [] ys h k = k
all_of_both P (x ∷ xs) ys h k = (h.0, all_of_both P xs ys h.1 k)

pub all_of_first : {X : Type 0} (P : X → Type 0) (xs ys : List X) → AllByRecursion P (xs ++ ys) → AllByRecursion P xs
all_of_first P [] ys h = tt
all_of_first P (x ∷ xs) ys h = (h.0, all_of_first P xs ys h.1)

pub all_of_second : {X : Type 0} (P : X → Type 0) (xs ys : List X) → AllByRecursion P (xs ++ ys) → AllByRecursion P ys
all_of_second P [] ys h = h
all_of_second P (x ∷ xs) ys h = all_of_second P xs ys h.1

module _ {O : Type 0} (m : Meaning O) where
  -- before the first packet
  pub fed_none : (o : O) (flow : Flow) (out : Outlet) → m.ready o → Fed m o o flow [] out out (Ok tt)
  unfolding did_as did_nothing moves_none
  fed_none o flow out fit = record { effect = did_as m o o flow [] [] 0 (0 * m.spares o) [] [] None out out (Ok tt) refl (omega arith) refl (did_nothing m o flow out fit); lost = tt; apart = λ k record_key all. tt }

  lost_of_step : (mid new : O) (class : Class) (x : Passed) (out out' : Outlet) (r : Result ⊤ NoMemory) → (step : Stepped m mid new class x.packet out out' r)
      → OnErr r (step.effect.moves.slots ≡ [] → list_any is_lost step.effect.added.dropped ≡ true)
  lost_of_step mid new class x out out' r step = on_err r _ _ (λ (h : step.effect.moves.slots ≡ [] → IsLost x.packet step.effect.added) free. ap (λ (a : Added). list_any is_lost a.dropped) (h free).2) step.lost where
    on_err : (r : Result ⊤ NoMemory) (P Q : Type 0) → (P → Q) → OnErr r P → OnErr r Q
    on_err (Ok y) P Q f h = tt
    on_err (Err e) P Q f h = f h

  -- one packet more
  pub fed_more : (old mid new : O) (class : Class) (done : List Passed) (x : Passed) (out₀ out₁ out₂ : Outlet) (r₁ r₂ : Result ⊤ NoMemory) → class.dir ≡ x.dir
      → (fed : Fed m old mid (flow_of class) done out₀ out₁ r₁) → Stepped m mid new class x.packet out₁ out₂ r₂
      → Fed m old new (flow_of class) (done ++ x ∷ []) out₀ out₂ (joined r₁ r₂)
  unfolding did_as did_both moves_both
  fed_more old mid new class done x out₀ out₁ out₂ r₁ r₂ same_dir fed step =
      let s = m.spares old in
      let long : length (done ++ x ∷ []) ≡ length done + 1 = length-append done (x ∷ []) in
      let most : length done * s + m.spares mid ≤ length (done ++ x ∷ []) * s = let e = ap (λ k. k * s) long in let k = fed.effect.same_spares in omega arith in
      let item : passed_item x ≡ work_item class x.packet = ap (λ d. record { dir = dir_view d; item = packet_item x.packet }) (sym same_dir) in
      let items : map passed_item done ++ work_item class x.packet ∷ [] ≡ map passed_item (done ++ x ∷ []) = ap (λ y. map passed_item done ++ y ∷ []) (sym item) ∙ sym (map-append passed_item done (x ∷ [])) in
      record {
        effect = did_as m old new (flow_of class) _ _ _ _ _ _ None out₀ out₂ (joined r₁ r₂) (sym (map-append passed_keyed done (x ∷ []))) most items
            (did_both m old mid new (flow_of class) (map passed_keyed done) (keyed x.packet ∷ []) (length done * s) (m.spares mid) (map passed_item done) (work_item class x.packet ∷ []) None out₀ out₁ out₂ r₁ r₂ fed.effect step.effect (λ gone. (step.stays_failed gone).0));
        lost = lost_in r₁ r₂ fed.effect.moves.slots step.effect.moves.slots fed.effect.added step.effect.added fed.lost (lost_of_step mid new class x out₁ out₂ r₂ step);
        apart = λ k own all.
            let last : passed_keyed x ≡ k = (all_of_second (λ (y : Passed). passed_keyed y ≡ k) done (x ∷ []) all).0 in
            all_of_both (HasOtherKey k) fed.effect.moves.made step.effect.moves.made (fed.apart k own (all_of_first (λ (y : Passed). passed_keyed y ≡ k) done (x ∷ []) all))
            (subst (λ (l : KeyedBuffer). AllByRecursion (HasOtherKey l) step.effect.moves.made) last (step.apart (ap (λ (l : KeyedBuffer). l.j) last ∙ own)));
      } where
        lost_in : (r₁ r₂ : Result ⊤ NoMemory) (xs ys : List ℕ) (a b : Added) → OnErr r₁ (xs ≡ [] → list_any is_lost a.dropped ≡ true) → OnErr r₂ (ys ≡ [] → list_any is_lost b.dropped ≡ true)
            → OnErr (joined r₁ r₂) (xs ++ ys ≡ [] → list_any is_lost (both_added a b).dropped ≡ true)
        lost_in (Ok x) (Ok y) xs ys a b h k = tt
        lost_in (Err x) (Ok y) xs ys a b h k = λ free. some_of_first a b (h (left_none xs ys free))
        lost_in (Ok x) (Err y) xs ys a b h k = λ free. some_of_second a b (k (right_none xs ys free))
        lost_in (Err x) (Err y) xs ys a b h k = λ free. some_of_second a b (k (right_none xs ys free))

  -- what the step over the next of n packets needs
  pub fed_ready : (old mid : O) (flow : Flow) (done : List Passed) (rest n : ℕ) (out₀ out₁ : Outlet) (r : Result ⊤ NoMemory) → (fed : Fed m old mid flow done out₀ out₁ r) → n ≡ length done + (rest + 1)
      → HasRoom (n * (m.spares old + 1)) out₀ → n * m.spares old ≤ length out₀.spare.free → m.least_room old ≤ out₀.spare.bytes
      → HasRoom (m.spares mid + 1) out₁ × (m.spares mid ≤ length out₁.spare.free) × (m.least_room mid ≤ out₁.spare.bytes)
  fed_ready old mid flow done rest n out₀ out₁ r fed e room free long =
      let effect = fed.effect in
      let a = effect.added in
      let moves = effect.moves in
      let all = how_many _ _ out₀ out₁ a moves in
      let own : length (map passed_keyed done) ≡ length done = length-map done passed_keyed in
      let few = moves.few in
      let s = effect.same_spares in
      let l = effect.same_room in
      let bytes = moves.takes.bytes in
      let left = length_permutation _ _ moves.takes.free in
      let both = length-append moves.slots out₁.spare.free in
      let g = moves.grows in
      let budget : n * m.spares old ≡ (length done + (rest + 1)) * m.spares old = ap (λ k. k * m.spares old) e in
      let places : n * (m.spares old + 1) ≡ (length done + (rest + 1)) * (m.spares old + 1) = ap (λ k. k * (m.spares old + 1)) e in (
        (
          fits (length a.passed) (length done) rest (ap length g.passed ∙ length-append out₀.passed.items a.passed) out₀.passed.ok.0 out₁.passed.ok.0 g.passed_room room.0 places (omega arith) s,
          fits (length a.dropped) (length done) rest (ap length g.dropped ∙ length-append out₀.dropped.items a.dropped) out₀.dropped.ok.0 out₁.dropped.ok.0 g.dropped_room room.1 places (omega arith) s,
          fits (length a.consumed) (length done) rest (ap length g.consumed ∙ length-append out₀.consumed.items a.consumed) out₀.consumed.ok.0 out₁.consumed.ok.0 g.consumed_room room.2 places (omega arith) s,
        ),
        omega arith,
        omega arith,
      ) where
        fits : (k d t : ℕ) {l₀ l₁ i₀ i₁ c₀ c₁ s s' q : ℕ} → i₁ ≡ i₀ + k → l₀ ≡ i₀ → l₁ ≡ i₁ → c₀ ≤ c₁ → l₀ + q ≤ c₀ → q ≡ (d + (t + 1)) * (s + 1) → k ≤ d + d * s → s' ≡ s → l₁ + (s' + 1) ≤ c₁
        fits k d t e₁ e₂ e₃ h room places few same = omega arith

pub joined_err : (r₁ r₂ : Result ⊤ NoMemory) (t : Bool) → t ≡ is_err r₂ → t ≡ true → joined r₁ r₂ ≡ r₂
joined_err r₁ (Ok x) t e h = cc
joined_err r₁ (Err x) t e h = refl

pub joined_ok : (r₁ r₂ : Result ⊤ NoMemory) (t : Bool) → t ≡ is_err r₂ → t ≡ false → joined r₁ r₂ ≡ r₁
joined_ok r₁ (Ok x) t e h = refl
joined_ok r₁ (Err x) t e h = cc

-- THE PACKETS THAT WAIT, the last one first

pub next_waits : (all done waiting rest : List Passed) (x : Passed) → all ≡ done ++ reverse waiting → waiting ≡ rest ++ x ∷ [] → all ≡ (done ++ x ∷ []) ++ reverse rest
next_waits all done waiting rest x e h = e ∙ (ap (λ ws. done ++ ws) (ap reverse h ∙ reverse-append rest (x ∷ [])) ∙ sym (append_assoc done (x ∷ []) (reverse rest)))

pub none_left : (waiting done all : List Passed) → length waiting ≡ 0 → all ≡ done ++ reverse waiting → all ≡ done
none_left [] done all h e = e ∙ append-nil done
none_left (x ∷ xs) done all h e = absurd (omega arith)

pub many_wait : (all done waiting rest : List Passed) (x : Passed) (n : ℕ) → reverse all ≡ done ++ reverse waiting → waiting ≡ rest ++ x ∷ [] → n ≡ length all → n ≡ length done + (length rest + 1)
many_wait all done waiting rest x n e h k =
    let a = ap length e in
    let b = length-append done (reverse waiting) in
    let c = length-reverse all in
    let d = length-reverse waiting in
    let f = ap length h in
    let g = length-append rest (x ∷ []) in
    omega arith
