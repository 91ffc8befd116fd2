-- The stages of a path before and behind its window.
use Rattle.std.proofs.Common.{◌≡◌, ◌<◌, ◌+◌, ℕ, zero, suc, List, [], ◌∷◌, ◌++◌, map, take, drop, get_or, length, Bool, true, false, cond, nat_le, Option, refl, ap, sym, subst, ◌∙◌, arith, true≢false}
use Rattle.std.proofs.lemmas.Bool.{and_parts}
use Rattle.std.proofs.lemmas.List.{take-map}
use Rattle.std.proofs.lemmas.List.Sums.{sum_by-append, sum_by-cons}
use Rattle.std.specs.List.{AllByRecursion, list_all}
use Rattle.brick_spec.specs.FlowClass.{NatPlan}
use Rattle.chain_spec.specs.ChainSet.{Stage, Ttl, SetTos, Only, Firewall, Route, Nat, Balance, Window, Scan, is_window, windows_in, is_stage_right, are_stages_right}
use Rattle.chain_run.specs.Sound.{IsServed, AreSound, WindowFits}
use Rattle.chain_run.specs.Plain.{IsPlain, ArePlain, IsFirstWindow}
use Rattle.chain_run.proofs.Checked.{seen_more, windows_next}
use Rattle.chain_run.proofs.StagePaths.{cut_at}

abbrev one_if : Bool → ℕ
one_if b = cond b 1 0

windows_both : (xs ys : List Stage) → windows_in (xs ++ ys) ≡ windows_in xs + windows_in ys
windows_both xs ys = sum_by-append (λ s. cond (is_window s) 1 0) xs ys

windows_first : (x : Stage) (ys : List Stage) → windows_in (x ∷ ys) ≡ one_if (is_window x) + windows_in ys
windows_first x ys = sum_by-cons (λ s. cond (is_window s) 1 0) x ys

none_here : (b : Bool) (n m : ℕ) → n ≡ one_if b + m → n ≡ 0 → (b ≡ false) × (m ≡ 0)
none_here true n m e z = absurd (omega (arith, e, z))
none_here false n m e z = (refl, omega (arith, e, z))

one_here : (b : Bool) (n : ℕ) → n ≡ one_if b → n ≡ 1 → b ≡ true
one_here true n e z = refl
one_here false n e z = absurd (omega (arith, e, z))

pick_parts : {X : Type 0} (P : X → Type 0) (xs ys : List X) → AllByRecursion P (xs ++ ys) → AllByRecursion P xs × AllByRecursion P ys
pick_parts P [] ys h = (tt, h)
pick_parts P (x ∷ xs) ys (h, hs) = let t = pick_parts P xs ys hs in ((h, t.0), t.1)

took : {Y : Type 0} (view : Y → Stage) (zs : List Y) (k : ℕ) → take k (map view zs) ≡ map view (take k zs)
took view zs k = take-map view k zs

-- one more stage, while the first window is looked for
pub none_yet : {Y : Type 0} (view : Y → Stage) (ys : List Y) (i : ℕ) (y : Y) → i < length ys → y ≡ get_or ys i y → windows_in (take i (map view ys)) ≡ 0 → is_window (view y) ≡ false → windows_in (take (i + 1) (map view ys)) ≡ 0
none_yet view ys i y lt is none other =
    let n = windows_next view ys i y lt is in
    let a : windows_in (map view (take i ys)) ≡ 0 = sym (ap windows_in (took view ys i)) ∙ none in
    let b : one_if (is_window (view y)) ≡ 0 = ap one_if other in
    ap windows_in (took view ys (i + 1)) ∙ omega (arith, n, a, b)

pub found_here : {Y : Type 0} (view : Y → Stage) (ys : List Y) (i : ℕ) (y : Y) → i < length ys → y ≡ get_or ys i y → windows_in (take i (map view ys)) ≡ 0 → is_window (view y) ≡ true → IsFirstWindow i (map view ys)
found_here view ys i y lt is none one =
    let n = windows_next view ys i y lt is in
    let a : windows_in (map view (take i ys)) ≡ 0 = sym (ap windows_in (took view ys i)) ∙ none in
    let b : one_if (is_window (view y)) ≡ 1 = ap one_if one in
    (none, ap windows_in (took view ys (i + 1)) ∙ omega (arith, n, a, b))

all_took : {X : Type 0} (P : X → Type 0) (k : ℕ) (xs : List X) → AllByRecursion P xs → AllByRecursion P (take k xs)
all_took P zero xs h = tt
all_took P (suc k) [] h = tt
all_took P (suc k) (x ∷ xs) (h, hs) = (h, all_took P k xs hs)

module _ (nat : Option NatPlan) (count bytes : ℕ) where
  all_right : (ss : List Stage) → list_all is_stage_right ss ≡ true → AllByRecursion (IsServed nat count bytes) ss → AllByRecursion (λ s. (is_stage_right s ≡ true) × IsServed nat count bytes s) ss
  all_right [] h served = tt
  all_right (s ∷ ss) h (one, served) = let t = and_parts (is_stage_right s) (list_all is_stage_right ss) h in ((t.0, one), all_right ss t.1 served)

  plain : (s : Stage) → IsServed nat count bytes s → is_window s ≡ false → IsPlain nat s
  plain (Window size reach) h w = absurd (true≢false w)
  plain Nat h w = h
  plain Ttl h w = tt
  plain (SetTos v) h w = tt
  plain (Only m) h w = tt
  plain (Firewall v t rs) h w = tt
  plain (Route m rs) h w = tt
  plain (Balance bs cs) h w = tt
  plain (Scan t r) h w = tt

  all_plain : (ss : List Stage) → AllByRecursion (λ s. (is_stage_right s ≡ true) × IsServed nat count bytes s) ss → windows_in ss ≡ 0 → ArePlain nat ss
  all_plain [] h none = tt
  all_plain (s ∷ ss) ((right, served), hs) none =
      let t = none_here (is_window s) (windows_in (s ∷ ss)) (windows_in ss) (windows_first s ss) none in
      ((right, plain s served t.0), all_plain ss hs t.1)

  fits : (s : Stage) → IsServed nat count bytes s → WindowFits count bytes s
  fits (Window size reach) h = h
  fits Nat h = tt
  fits Ttl h = tt
  fits (SetTos v) h = tt
  fits (Only m) h = tt
  fits (Firewall v t rs) h = tt
  fits (Route m rs) h = tt
  fits (Balance bs cs) h = tt
  fits (Scan t r) h = tt

  pub straight_plain : (ss : List Stage) → are_stages_right ss ≡ true → AreSound nat count bytes 0 ss → windows_in ss ≡ 0 → ArePlain nat ss
  straight_plain ss right sound none = all_plain ss (all_right ss (and_parts (nat_le (length ss) 32) (list_all is_stage_right ss) right).1 sound.served) none

  pub before_plain : {Y : Type 0} (view : Y → Stage) (zs : List Y) (i : ℕ) → are_stages_right (map view zs) ≡ true → AreSound nat count bytes 0 (map view zs) → windows_in (take i (map view zs)) ≡ 0 → ArePlain nat (map view (take i zs))
  before_plain view zs i right sound none =
      let all = all_right (map view zs) (and_parts (nat_le (length (map view zs)) 32) (list_all is_stage_right (map view zs)) right).1 sound.served in
      subst (ArePlain nat) (took view zs i) (all_plain (take i (map view zs)) (all_took (λ s. (is_stage_right s ≡ true) × IsServed nat count bytes s) i (map view zs) all) none)

  -- around the first window
  pub record IsCut (xs : List Stage) (x : Stage) (ys : List Stage) : Type 0 where
    pub before : ArePlain nat xs
    pub window : is_window x ≡ true
    pub right : is_stage_right x ≡ true
    pub fits : WindowFits count bytes x
    pub behind : ArePlain nat ys

  cut : (xs : List Stage) (x : Stage) (ys : List Stage) → are_stages_right (xs ++ x ∷ ys) ≡ true → AreSound nat count bytes 0 (xs ++ x ∷ ys) → windows_in xs ≡ 0 → windows_in (xs ++ x ∷ []) ≡ 1 → IsCut xs x ys
  cut xs x ys right sound none one =
      let all = all_right (xs ++ x ∷ ys) (and_parts (nat_le (length (xs ++ x ∷ ys)) 32) (list_all is_stage_right (xs ++ x ∷ ys)) right).1 sound.served in
      let parts = pick_parts (λ s. (is_stage_right s ≡ true) × IsServed nat count bytes s) xs (x ∷ ys) all in
      let a = windows_both xs (x ∷ []) in
      let b = windows_first x [] in
      let d = windows_both xs (x ∷ ys) in
      let e = windows_first x ys in
      let o = sound.one in
      let k : one_if (is_window x) ≡ 1 = omega (arith, a, b, none, one) in
      let w : is_window x ≡ true = one_here (is_window x) (one_if (is_window x)) refl k in
      record {
        before = all_plain xs parts.0 none;
        window = w;
        right = parts.1.0.0;
        fits = fits x parts.1.0.1;
        behind = all_plain ys parts.1.1 (omega (arith, d, e, o, k));
      }

  pub cut_there : {Y : Type 0} (view : Y → Stage) (zs : List Y) (i : ℕ) (z : Y) → i < length zs → z ≡ get_or zs i z → are_stages_right (map view zs) ≡ true → AreSound nat count bytes 0 (map view zs)
      → IsFirstWindow i (map view zs) → IsCut (map view (take i zs)) (view z) (map view (drop (i + 1) zs))
  cut_there view zs i z lt is right sound (none, one) =
      let e = cut_at view zs i z lt is in
      cut (map view (take i zs)) (view z) (map view (drop (i + 1) zs)) (subst (λ ss. are_stages_right ss ≡ true) e right) (subst (AreSound nat count bytes 0) e sound)
      (sym (ap windows_in (took view zs i)) ∙ none)
      (sym (ap windows_in (took view zs (i + 1) ∙ seen_more view zs i z lt is)) ∙ one)
