-- Files written one after another.
use Rattle.std.proofs.Common.{◌≡◌, ◌≢◌, inl, inr, ℕ, ◌≤◌, List, [], ◌∷◌, map, sym, ◌∙◌, arith}
use Rattle.std.specs.List.{AllByRecursion}
use Rattle.brick_spec.specs.Files.{Files, FaultCounts, OthersStay}
use Rattle.brick_spec.specs.Texts.{Text, Holds, MayHold, Untouched, StopsWithin, WritesTexts, AreDistinct, SomeRose}

-- names that are others keep what they had
untouched_from : (t : Text) (old mid : Files) (ts : List Text) → OthersStay t.name old mid → AllByRecursion (λ u. t.name ≢ u.name) ts → Untouched old mid ts
untouched_from t old mid [] others apart = tt
untouched_from t old mid (u ∷ us) others apart = (others u.name (λ same. apart.0 (sym same)), untouched_from t old mid us others apart.1)

untouched_then : (old mid new : Files) (ts : List Text) → Untouched old mid ts → Untouched mid new ts → Untouched old new ts
untouched_then old mid new [] a b = tt
untouched_then old mid new (t ∷ ts) a b = (b.0 ∙ a.0, untouched_then old mid new ts a.1 b.1)

may_then : (old mid new : Files) (t : Text) → mid t.name ≡ old t.name → MayHold mid new t → MayHold old new t
may_then old mid new t same (inl stays) = inl (stays ∙ same)
may_then old mid new t same (inr part) = inr part

stops_then : (why later_why : Text → Type 0) (on : (t : Text) → later_why t → why t) (old mid new : Files) (ts : List Text) → Untouched old mid ts → StopsWithin later_why mid new ts → StopsWithin why old new ts
stops_then why later_why on old mid new [] a b = b
stops_then why later_why on old mid new (t ∷ ts) a (inl stop) = inl (on t stop.0, may_then old mid new t a.0 stop.1, untouched_then old mid new ts a.1 stop.2)
stops_then why later_why on old mid new (t ∷ ts) a (inr goes) = inr (goes.0, stops_then why later_why on old mid new ts a.1 goes.1)

apart_names : (t : Text) (ts : List Text) → AllByRecursion (λ u. t.name ≢ u.name) ts → AllByRecursion (λ n. t.name ≢ n) (map (λ u. u.name) ts)
apart_names t [] a = tt
apart_names t (u ∷ us) a = (a.0, apart_names t us a.1)

-- one is written, and then the rest
pub writes_then : (done : Type 0) (why later_why : Text → Type 0) (on : (t : Text) → later_why t → why t) (t : Text) (ts : List Text) (old mid new : Files) → AreDistinct (t ∷ ts) → Holds mid t → OthersStay t.name old mid
    → WritesTexts done later_why ts mid new → WritesTexts done why (t ∷ ts) old new
writes_then done why later_why on t ts old mid new distinct holds others rest =
    let kept : Holds new t = rest.others t.name (apart_names t ts distinct.0) ∙ holds in
    let same : Untouched old mid ts = untouched_from t old mid ts others distinct.0 in
    record {
      all = λ d. (kept, rest.all d);
      stops = λ n. inr (kept, stops_then why later_why on old mid new ts same (rest.stops n));
      others = λ n apart. rest.others n apart.1 ∙ others n apart.0;
    }

-- the first one failed
pub writes_stopped : (done : Type 0) (why : Text → Type 0) (t : Text) (ts : List Text) (old new : Files) → (done → ⊥) → why t → AreDistinct (t ∷ ts) → MayHold old new t → OthersStay t.name old new → WritesTexts done why (t ∷ ts) old new
writes_stopped done why t ts old new failed reason distinct may others = record {
  all = λ d. absurd (failed d);
  stops = λ _. inl (reason, may, untouched_from t old new ts others distinct.0);
  others = λ n apart. others n apart.0;
}

-- writing stopped for another reason too
pub stops_for : (P Q : Text → Type 0) → ((t : Text) → P t → Q t) → (old new : Files) (ts : List Text) → StopsWithin P old new ts → StopsWithin Q old new ts
stops_for P Q f old new [] h = h
stops_for P Q f old new (t ∷ ts) (inl stop) = inl (f t stop.0, stop.1, stop.2)
stops_for P Q f old new (t ∷ ts) (inr goes) = inr (goes.0, stops_for P Q f old new ts goes.1)

-- a count that rose later rose
pub some_then : (account : ℕ) (ts : List (List ℕ)) (before mid now : FaultCounts) → ((a : ℕ) (n : List ℕ) → before a n ≤ mid a n) → SomeRose account ts mid now → SomeRose account ts before now
some_then account [] before mid now later r = r
some_then account (t ∷ ts) before mid now later (inl r) = inl (omega (arith, later account t))
some_then account (t ∷ ts) before mid now later (inr r) = inr (some_then account ts before mid now later r)
