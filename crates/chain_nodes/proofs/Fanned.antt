-- Groups were called.
use Rattle.std.proofs.Common.{◌≡◌, ℕ, zero, suc, ◌+◌, ◌<◌, ◌≤◌, List, [], ◌∷◌, ◌++◌, map, length, Option, Some, None, Result, Ok, Err, OnOk, false, Bool, length-append, refl, ap, sym, subst, ◌∙◌, arith, append-nil, get_or, set, take, drop}
use Rattle.std.proofs.lemmas.List.{length-map, length-set, take_more, take_more_set, drop_more, drop_all, take_all, drop-set-lt, get_or-set_same}
use Rattle.std.specs.List.{AllByRecursion, position}
use Rattle.std.specs.Prelude.{⊤}
use Rattle.brick_spec.specs.Flow.{Flow}
use Rattle.brick_spec.specs.Item.{Item}
use Rattle.brick_spec.specs.Match.{Match}
use Rattle.brick_spec.specs.FlowStage.{FlowItem, Drop, FlowInput}
use Rattle.brick_base.specs.declared.memory.NoMemory.{NoMemory}
use Rattle.packet_owner.specs.Buffer.{BufferModel}
use Rattle.packet_owner.specs.Spare.{SpareModel}
use Rattle.batch_ops.specs.Outlet.{IsEmptied}
use Rattle.batch_ops.specs.Operator.{with_more}
use Rattle.batch_ops.proofs.Calls.{joined, on_ok_joined}
use Rattle.flow_spec.specs.Parts.{Parts, no_group, beside, only, others}
use Rattle.flow_spec.specs.Plan.{takes_by}
use Rattle.flow_work.specs.Meaning.{Meaning}
use Rattle.flow_work.specs.Node.{Went, IsNode, FanStands, fan_makes, fan_results, parts_both}
use Rattle.flow_work.specs.Log.{CountsMore}
use Rattle.flow_work.specs.Buffers.{Recycled}
use Rattle.flow_work.proofs.Fans.{IsFirst, first_of, none_passes, fan_step, fan_none, fan_ends, EachEnded, each_more, drops_in, drops_more}
use Rattle.flow_work.proofs.Logs.{counts_none, counts_both}
use Rattle.flow_work.proofs.Buffers.{recycled_none, recycled_both}
use Rattle.chain_nodes.specs.declared.desk.Desk.{Desk}
use Rattle.chain_nodes.specs.Desk.{SameLists}
use Rattle.chain_nodes.specs.Node.{Took}
use Rattle.chain_nodes.specs.Fan.{PlacesStand, FanServes}
use Rattle.chain_nodes.proofs.Desks.{same_emptied}

pub first_below : {X : Type 0} (p : X → Bool) (xs : List X) (k : ℕ) → IsFirst p xs k → k < length xs
first_below p [] k h = absurd h
first_below p (x ∷ xs) zero h = omega arith
first_below p (x ∷ xs) (suc k) (h, hs) = let l = first_below p xs k hs in omega arith

pub all_at : {X : Type 0} (P : X → Type 0) (xs : List X) (k : ℕ) (d : X) → k < length xs → AllByRecursion P xs → P (get_or xs k d)
all_at P [] k d l h = absurd (omega (arith, l))
all_at P (x ∷ xs) zero d l (h, hs) = h
all_at P (x ∷ xs) (suc k) d l (h, hs) = all_at P xs k d (omega arith) hs

all_set : {X : Type 0} (P Q : X → Type 0) (xs : List X) (k : ℕ) (y : X) → ((x : X) → P x → Q x) → ((d : X) → P (get_or xs k d) → Q y) → AllByRecursion P xs → AllByRecursion Q (set xs k y)
all_set P Q [] k y f g h = tt
all_set P Q (x ∷ xs) zero y f g (h, hs) = (g x h, each xs hs) where
  each : (xs : List _) → AllByRecursion P xs → AllByRecursion Q xs
  each [] hs = tt
  each (x ∷ xs) (h, hs) = (f x h, each xs hs)
all_set P Q (x ∷ xs) (suc k) y f g (h, hs) = (f x h, all_set P Q xs k y f g hs)

module _ {N T : Type 0} (stands : N → Flow → FlowInput → Parts → Type 0) (makes : N → Meaning) (results : N → List (List Item)) (serves : N → ℕ → ℕ → ℕ → Type 0) (node : IsNode stands makes results) (matches : T → List (Option Match)) (places : T → List N) where
  abbrev pub TookFan : T → T → Flow → List BufferModel → List FlowItem → Option ℕ → Desk → Desk → Result ⊤ NoMemory → Type 0
  TookFan = Took (λ t flow came parts. PlacesStand stands (matches t) (places t) flow came parts) (λ t. fan_makes makes (matches t) (places t)) (λ t. fan_results results (places t)) (λ t count bytes free. FanServes serves (matches t) (places t) count bytes free)

  abbrev WentT : T → T → Flow → List FlowItem → Option ℕ → Parts → Type 0
  WentT = Went (λ t flow came parts. PlacesStand stands (matches t) (places t) flow came parts) (λ t. fan_makes makes (matches t) (places t)) (λ t. fan_results results (places t))

  -- the same of the value that holds the places
  holds_places : (old new : T) (flow : Flow) (items : List FlowItem) (ended : Option ℕ) (b : Parts) → matches new ≡ matches old → length (places new) ≡ length (places old)
      → Went (FanStands stands (matches old)) (fan_makes makes (matches old)) (fan_results results) (places old) (places new) flow items ended b → WentT old new flow items ended b
  holds_places old new flow items ended b e l w = record {
    goes = λ came parts still (many, h). (ap length e ∙ (many ∙ sym l), subst (λ ms. FanStands stands ms (places new) flow (with_more came items ended) (parts_both parts b)) (sym e) (w.goes came parts still h));
    others = λ other came parts apart (many, h). (ap length e ∙ (many ∙ sym l), subst (λ ms. FanStands stands ms (places new) other came parts) (sym e) (w.others other came parts apart h));
    kept = w.kept;
    long = w.long;
    same = ap (λ ms. fan_makes makes ms (places new)) e ∙ w.same;
  }

  results_set : (ns : List N) (k : ℕ) (n' : N) → ((d : N) → length (results n') ≡ length (results (get_or ns k d))) → length (fan_results results (set ns k n')) ≡ length (fan_results results ns)
  results_set [] k n' h = refl
  results_set (n ∷ ns) zero n' h = let a = h n in let b = length-append (results n') (fan_results results ns) in let c = length-append (results n) (fan_results results ns) in omega arith
  results_set (n ∷ ns) (suc k) n' h =
      let a = results_set ns k n' h in
      let b = length-append (results n) (fan_results results (set ns k n')) in
      let c = length-append (results n) (fan_results results ns) in omega arith

  makes_set : (ms : List (Option Match)) (ns : List N) (k : ℕ) (n' : N) → ((d : N) → makes n' ≡ makes (get_or ns k d)) → fan_makes makes ms (set ns k n') ≡ fan_makes makes ms ns
  makes_set [] ns k n' h = nothing ns where
    nothing : (ns : List N) → fan_makes makes [] (set ns k n') ≡ fan_makes makes [] ns
    nothing ns = refl
  makes_set (m ∷ ms) [] k n' h = refl
  makes_set (m ∷ ms) (n ∷ ns) zero n' h = λ i flow came. beside (h n i flow (only (takes_by m) came)) (fan_makes makes ms ns flow (only (others (takes_by m)) came))
  makes_set (m ∷ ms) (n ∷ ns) (suc k) n' h =
      let next = makes_set ms ns k n' h in
      λ i flow came. beside (makes n flow (only (takes_by m) came)) (next i flow (only (others (takes_by m)) came))

  -- a packet went to the first group that takes it
  pub fan_took : (old new : T) (flow : Flow) (bs : List BufferModel) (x : FlowItem) (k : ℕ) (n n' : N) (d₀ d₁ : Desk) (r : Result ⊤ NoMemory)
      → length (matches old) ≡ length (places old) → IsFirst (λ m. takes_by m x) (matches old) k → n ≡ get_or (places old) k n → matches new ≡ matches old → places new ≡ set (places old) k n'
      → Took stands makes results serves n n' flow bs (x ∷ []) None d₀ d₁ r → TookFan old new flow bs (x ∷ []) None d₀ d₁ r
  fan_took old new flow bs x k n n' d₀ d₁ r many first is em ep t =
      let below : k < length (places old) = let l = first_below (λ m. takes_by m x) (matches old) k first in omega arith in
      let at = λ (d : N). is_at d below in
      record {
        went = on_ok r _ _ (λ (w : (added : Parts) × Went stands makes results n n' flow (x ∷ []) None added × CountsMore d₀.counts d₁.counts added.dropped).
            let s = fan_step stands makes results node (matches old) (places old) k n' flow x w.0 many first (λ d. subst (λ (m : N). Went stands makes results m n' flow (x ∷ []) None w.0) (at d) w.1) in (
              s.0,
              holds_places old new flow (x ∷ []) None s.0 em (ap length ep ∙ length-set (places old) k n')
                  (subst (λ (ns : List N). Went (FanStands stands (matches old)) (fan_makes makes (matches old)) (fan_results results) (places old) ns flow (x ∷ []) None s.0) (sym ep) s.1),
              subst (λ (ds : List Drop). CountsMore d₀.counts d₁.counts ds) (sym s.2) w.2,
            )) t.went;
        recycled = t.recycled;
        emptied = t.emptied;
        stays = λ count bytes free e (l, h). (
          ap length em ∙ (l ∙ sym (ap length ep ∙ length-set (places old) k n')),
          subst (λ (ns : List N). AllByRecursion (λ (m : N). serves m count bytes free) ns) (sym ep)
              (all_set (λ (m : N). serves m count bytes free) (λ (m : N). serves m count bytes free) (places old) k n' (λ m h. h) (λ d h. t.stays count bytes free e (subst (λ (m : N). serves m count bytes free) (sym (at d)) h)) h),
        );
        same = ap (λ ms. fan_makes makes ms (places new)) em ∙ (ap (λ ns. fan_makes makes (matches old) ns) ep ∙ makes_set (matches old) (places old) k n' (λ d. t.same ∙ ap makes (at d)));
        many = ap (λ ns. length (fan_results results ns)) ep ∙ results_set (places old) k n' (λ d. t.many ∙ ap (λ m. length (results m)) (at d));
      } where
        is_at : (d : N) → k < length (places old) → n ≡ get_or (places old) k d
        is_at d below = is ∙ any_default (places old) k n d below where
          any_default : (xs : List N) (k : ℕ) (c d : N) → k < length xs → get_or xs k c ≡ get_or xs k d
          any_default [] k c d l = absurd (omega (arith, l))
          any_default (x ∷ xs) zero c d l = refl
          any_default (x ∷ xs) (suc k) c d l = any_default xs k c d (omega arith)

        on_ok : (r : Result ⊤ NoMemory) (P Q : Type 0) → (P → Q) → OnOk r P → OnOk r Q
        on_ok (Ok y) P Q f h = f h
        on_ok (Err e) P Q f h = tt

  -- no group takes it
  pub fan_dropped : (t : T) (flow : Flow) (bs : List BufferModel) (x : FlowItem) (d₀ d₁ : Desk) → FanServes serves (matches t) (places t) d₀.out.spare.count d₀.out.spare.bytes (length d₀.out.spare.free)
      → AllByRecursion (λ m. takes_by m x ≡ false) (matches t)
      → Recycled bs d₀.back d₁.back d₀.out.spare d₁.out.spare → SameLists d₀.out d₁.out → IsEmptied d₀.out → CountsMore d₀.counts d₁.counts (no_group x ∷ []) → TookFan t t flow bs (x ∷ []) None d₀ d₁ (Ok tt)
  fan_dropped t flow bs x d₀ d₁ (many, h) none r l e counted =
      let s = fan_none stands makes results node (matches t) (places t) flow x many none in
      record {
        went = (s.0, holds_places t t flow (x ∷ []) None s.0 refl refl s.1, subst (λ (ds : List Drop). CountsMore d₀.counts d₁.counts ds) (sym s.2) counted);
        recycled = r;
        emptied = same_emptied d₀.out d₁.out l e;
        stays = λ count bytes free is was. was;
        same = refl;
        many = refl;
      }

  -- EACH ENDED, ONE AFTER ANOTHER

  -- what no call changes
  abbrev pub EachSame : ℕ → List N → List N → Type 0
  EachSame store [] [] = Unit {0}
  EachSame store (o ∷ os) (p ∷ ps) = ((count bytes free : ℕ) → count ≡ store → serves o count bytes free → serves p count bytes free) × (makes p ≡ makes o) × (length (results p) ≡ length (results o)) × EachSame store os ps
  EachSame store os ps = ⊥

  each_same_more : (store : ℕ) (os ps : List N) (o p : N) → EachSame store os ps → ((count bytes free : ℕ) → count ≡ store → serves o count bytes free → serves p count bytes free) → makes p ≡ makes o → length (results p) ≡ length (results o)
      → EachSame store (os ++ o ∷ []) (ps ++ p ∷ [])
  each_same_more store [] [] o p h s m l = (s, m, l, tt)
  each_same_more store (q ∷ os) (r ∷ ps) o p (a, b, c, h) s m l = (a, b, c, each_same_more store os ps o p h s m l)
  each_same_more store [] (r ∷ ps) o p h s m l = absurd h
  each_same_more store (q ∷ os) [] o p h s m l = absurd h

  each_same_long : (store : ℕ) (os ps : List N) → EachSame store os ps → length ps ≡ length os
  each_same_long store [] [] h = refl
  each_same_long store (o ∷ os) (p ∷ ps) (a, b, c, h) = ap suc (each_same_long store os ps h)
  each_same_long store [] (p ∷ ps) h = absurd h
  each_same_long store (o ∷ os) [] h = absurd h

  each_serves : (store : ℕ) (os ps : List N) (count bytes free : ℕ) → count ≡ store → EachSame store os ps → AllByRecursion (λ n. serves n count bytes free) os → AllByRecursion (λ n. serves n count bytes free) ps
  each_serves store [] [] count bytes free e h all = tt
  each_serves store (o ∷ os) (p ∷ ps) count bytes free e (a, b, c, h) (one, all) = (a count bytes free e one, each_serves store os ps count bytes free e h all)
  each_serves store [] (p ∷ ps) count bytes free e h all = absurd h
  each_serves store (o ∷ os) [] count bytes free e h all = absurd h

  each_makes : (store : ℕ) (ms : List (Option Match)) (os ps : List N) → EachSame store os ps → fan_makes makes ms ps ≡ fan_makes makes ms os
  each_makes store [] os ps h = nothing os ps where
    nothing : (os ps : List N) → fan_makes makes [] ps ≡ fan_makes makes [] os
    nothing os ps = refl
  each_makes store (m ∷ ms) [] [] h = refl
  each_makes store (m ∷ ms) (o ∷ os) (p ∷ ps) (a, b, c, h) =
      let next = each_makes store ms os ps h in
      λ i flow came. beside (b i flow (only (takes_by m) came)) (next i flow (only (others (takes_by m)) came))
  each_makes store (m ∷ ms) [] (p ∷ ps) h = absurd h
  each_makes store (m ∷ ms) (o ∷ os) [] h = absurd h

  each_many : (store : ℕ) (os ps : List N) → EachSame store os ps → length (fan_results results ps) ≡ length (fan_results results os)
  each_many store [] [] h = refl
  each_many store (o ∷ os) (p ∷ ps) (a, b, c, h) =
      let n = each_many store os ps h in
      let x = length-append (results o) (fan_results results os) in
      let y = length-append (results p) (fan_results results ps) in omega arith
  each_many store [] (p ∷ ps) h = absurd h
  each_many store (o ∷ os) [] h = absurd h

  -- the first k places ended, and the others stand as they stood
  pub record EndedSoFar (old new : T) (k : ℕ) (flow : Flow) (n : ℕ) (d₀ d₁ : Desk) (r : Result ⊤ NoMemory) : Type 0 where
    pub went : OnOk r ((as' : List Parts) × EachEnded stands makes results node (take k (places old)) (take k (places new)) flow n as' × CountsMore d₀.counts d₁.counts (drops_in stands makes results node as'))
    pub recycled : Recycled [] d₀.back d₁.back d₀.out.spare d₁.out.spare
    pub emptied : IsEmptied d₁.out
    pub each : EachSame d₀.out.spare.count (take k (places old)) (take k (places new))
    pub left : drop k (places new) ≡ drop k (places old)
    pub many : length (places new) ≡ length (places old)
    pub same : matches new ≡ matches old

  pub ended_none : (t : T) (flow : Flow) (n : ℕ) (d : Desk) → IsEmptied d.out → EndedSoFar t t 0 flow n d d (Ok tt)
  ended_none t flow n d e = record { went = ([], tt, counts_none d.counts); recycled = recycled_none d.back d.out.spare; emptied = e; each = tt; left = refl; many = refl; same = refl }

  pub ended_one : (old mid new : T) (k : ℕ) (x p : N) (flow : Flow) (n : ℕ) (d₀ d₁ d₂ : Desk) (r₁ r₂ r : Result ⊤ NoMemory) → r ≡ joined r₁ r₂ → k < length (places old) → x ≡ get_or (places mid) k x → places new ≡ set (places mid) k p → matches new ≡ matches mid
      → EndedSoFar old mid k flow n d₀ d₁ r₁ → Took stands makes results serves x p flow [] [] (Some n) d₁ d₂ r₂ → EndedSoFar old new (k + 1) flow n d₀ d₂ r
  ended_one old mid new k x p flow n d₀ d₁ d₂ r₁ r₂ r outcome l is ep em e t =
      let store = d₀.out.spare.count in
      let short : k < length (places mid) = let m = e.many in omega arith in
      let old_more : take (k + 1) (places old) ≡ take k (places old) ++ x ∷ [] = take_more (places old) k x l ∙ ap (λ y. take k (places old) ++ y ∷ []) (was short) in
      let new_more : take (k + 1) (places new) ≡ take k (places mid) ++ p ∷ [] = ap (take (k + 1)) ep ∙ take_more_set (places mid) k p short in
      subst (λ (q : Result ⊤ NoMemory). EndedSoFar old new (k + 1) flow n d₀ d₂ q) (sym outcome) (record {
        went = on_ok_joined r₁ r₂ _ _ _
            (λ (v : (as' : List Parts) × EachEnded stands makes results node (take k (places old)) (take k (places mid)) flow n as' × CountsMore d₀.counts d₁.counts (drops_in stands makes results node as'))
            (w : (added : Parts) × Went stands makes results x p flow [] (Some n) added × CountsMore d₁.counts d₂.counts added.dropped). (
              v.0 ++ w.0 ∷ [],
              subst (λ (os : List N). EachEnded stands makes results node os (take (k + 1) (places new)) flow n (v.0 ++ w.0 ∷ [])) (sym old_more)
                  (subst (λ (ps : List N). EachEnded stands makes results node (take k (places old) ++ x ∷ []) ps flow n (v.0 ++ w.0 ∷ [])) (sym new_more)
                  (each_more stands makes results node (take k (places old)) (take k (places mid)) flow n v.0 x p w.0 v.1 w.1)),
              subst (λ (ds : List Drop). CountsMore d₀.counts d₂.counts ds) (sym (drops_more stands makes results node v.0 w.0)) (counts_both d₀.counts d₁.counts d₂.counts (drops_in stands makes results node v.0) w.0.dropped v.2 w.2),
            )) e.went t.went;
        recycled = recycled_both [] [] d₀.back d₁.back d₂.back d₀.out.spare d₁.out.spare d₂.out.spare e.recycled t.recycled;
        emptied = t.emptied;
        each =
            subst (λ (os : List N). EachSame store os (take (k + 1) (places new))) (sym old_more) (subst (λ (ps : List N). EachSame store (take k (places old) ++ x ∷ []) ps) (sym new_more)
            (each_same_more store (take k (places old)) (take k (places mid)) x p e.each (λ count bytes free is was. t.stays count bytes free (is ∙ sym e.recycled.count) was) t.same t.many));
        left = ap (drop (k + 1)) ep ∙ (drop-set-lt (k + 1) (places mid) k p (omega arith) ∙ later short);
        many = ap length ep ∙ (length-set (places mid) k p ∙ e.many);
        same = em ∙ e.same;
      }) where
        any_default : (xs : List N) (k : ℕ) (c d : N) → k < length xs → get_or xs k c ≡ get_or xs k d
        any_default [] k c d l = absurd (omega (arith, l))
        any_default (x ∷ xs) zero c d l = refl
        any_default (x ∷ xs) (suc k) c d l = any_default xs k c d (omega arith)

        heads : (a b : N) (as' bs : List N) → a ∷ as' ≡ b ∷ bs → a ≡ b
        heads a b as' bs h = ap (λ xs. get_or xs 0 a) h

        tails : (a b : N) (as' bs : List N) → a ∷ as' ≡ b ∷ bs → as' ≡ bs
        tails a b as' bs h = ap (drop 1) h

        both_more : k < length (places mid) → get_or (places mid) k x ∷ drop (k + 1) (places mid) ≡ get_or (places old) k x ∷ drop (k + 1) (places old)
        both_more short = sym (drop_more (places mid) k x short) ∙ (e.left ∙ drop_more (places old) k x l)

        was : k < length (places mid) → get_or (places old) k x ≡ x
        was short = sym (heads _ _ _ _ (both_more short)) ∙ sym is

        later : k < length (places mid) → drop (k + 1) (places mid) ≡ drop (k + 1) (places old)
        later short = tails _ _ _ _ (both_more short)

  pub fan_ended : (old new : T) (k : ℕ) (flow : Flow) (n : ℕ) (d₀ d₁ : Desk) (r : Result ⊤ NoMemory) → length (matches old) ≡ length (places old) → length (places old) ≤ k → EndedSoFar old new k flow n d₀ d₁ r → TookFan old new flow [] [] (Some n) d₀ d₁ r
  fan_ended old new k flow n d₀ d₁ r many all e =
      let olds : take k (places old) ≡ places old = take_all k (places old) all in
      let news : take k (places new) ≡ places new = take_all k (places new) (let m = e.many in omega arith) in
      let each = subst (λ (os : List N). EachSame d₀.out.spare.count os (places new)) olds (subst (λ (ps : List N). EachSame d₀.out.spare.count (take k (places old)) ps) news e.each) in
      record {
        went = on_ok r _ _ (λ (v : (as' : List Parts) × EachEnded stands makes results node (take k (places old)) (take k (places new)) flow n as' × CountsMore d₀.counts d₁.counts (drops_in stands makes results node as')).
            let ended = subst (λ (os : List N). EachEnded stands makes results node os (places new) flow n v.0) olds (subst (λ (ps : List N). EachEnded stands makes results node (take k (places old)) ps flow n v.0) news v.1) in
            let s = fan_ends stands makes results node (matches old) (places old) (places new) flow n v.0 many ended in
            (s.0, holds_places old new flow [] (Some n) s.0 e.same e.many s.1, subst (λ (ds : List Drop). CountsMore d₀.counts d₁.counts ds) (sym s.2) v.2)) e.went;
        recycled = e.recycled;
        emptied = e.emptied;
        stays = λ count bytes free is (l, h). (ap length e.same ∙ (l ∙ sym e.many), each_serves d₀.out.spare.count (places old) (places new) count bytes free is each h);
        same = ap (λ ms. fan_makes makes ms (places new)) e.same ∙ each_makes d₀.out.spare.count (matches old) (places old) (places new) each;
        many = each_many d₀.out.spare.count (places old) (places new) each;
      } where
        on_ok : (r : Result ⊤ NoMemory) (P Q : Type 0) → (P → Q) → OnOk r P → OnOk r Q
        on_ok (Ok y) P Q f h = f h
        on_ok (Err e) P Q f h = tt

  pub next_is : (old mid : T) (k : ℕ) (x : N) (flow : Flow) (n : ℕ) (d₀ d₁ : Desk) (r : Result ⊤ NoMemory) → EndedSoFar old mid k flow n d₀ d₁ r → k < length (places old) → x ≡ get_or (places mid) k x → get_or (places old) k x ≡ x
  next_is old mid k x flow n d₀ d₁ r e l is =
      let short : k < length (places mid) = let m = e.many in omega arith in
      sym (ap (λ (xs : List N). get_or xs 0 x) (sym (drop_more (places mid) k x short) ∙ (e.left ∙ drop_more (places old) k x l))) ∙ sym is
