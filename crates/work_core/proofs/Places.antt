-- Buffers that go back stand in places that are all taken.
use Rattle.std.proofs.Common.{◌≡◌, ◌≢◌, ℕ, ◌+◌, ◌<◌, ◌≤◌, List, [], ◌∷◌, ◌++◌, map, length, Option, Some, None, refl, ap, sym, subst, ◌∙◌, arith, drop, slice_index_or, slice_set}
use Rattle.std.specs.Prelude.{MatchOption}
use Rattle.std.proofs.lemmas.List.{map-append, drop-append-le, drop-drop, drop-set-lt, get_or-drop, length-drop, length-set}
use Rattle.work_core.specs.Returned.{buffers_of}
use Rattle.packet_owner.specs.Buffer.{BufferModel as Work}

abbrev full : List Work → List (Option Work)
full ws = map (λ w. Some w) ws

buffers_of_full : (ws : List Work) → buffers_of (full ws) ≡ ws
buffers_of_full [] = refl
buffers_of_full (w ∷ ws) = ap (λ vs. w ∷ vs) (buffers_of_full ws)

no_none : (xs : List (Option Work)) (ws : List Work) → None ∷ xs ≡ full ws → ⊥
no_none xs [] h = cc
no_none xs (w ∷ ws) h = cc

pub pushed : (xs new : List (Option Work)) (w : Work) → xs ≡ full (buffers_of xs) → new ≡ xs ++ Some w ∷ [] → buffers_of new ≡ buffers_of xs ++ w ∷ []
pushed xs new w h e =
    let all : new ≡ full (buffers_of xs ++ w ∷ []) = e ∙ (ap (λ ys. ys ++ Some w ∷ []) h ∙ sym (map-append (λ w. Some w) (buffers_of xs) (w ∷ []))) in
    ap buffers_of all ∙ buffers_of_full (buffers_of xs ++ w ∷ [])

pub pushed_full : (xs new : List (Option Work)) (w : Work) → xs ≡ full (buffers_of xs) → new ≡ xs ++ Some w ∷ [] → new ≡ full (buffers_of new)
pushed_full xs new w h e =
    e ∙ (ap (λ ys. ys ++ Some w ∷ []) h ∙ (sym (map-append (λ w. Some w) (buffers_of xs) (w ∷ [])) ∙ ap full (sym (pushed xs new w h e))))

pub popped_full : (xs new : List (Option Work)) → xs ≡ full (buffers_of xs) → new ≡ drop 1 xs → new ≡ full (buffers_of new)
popped_full [] new h e = e ∙ ap (λ ys. full (buffers_of ys)) (sym e)
popped_full (None ∷ xs) new h e = absurd (no_none xs (buffers_of xs) h)
popped_full (Some w ∷ xs) new h e = e ∙ (ap (λ ys. drop 1 ys) h ∙ ap (λ ys. full (buffers_of ys)) (sym e))

pub popped : (xs new : List (Option Work)) (r : Option Work) → xs ≡ full (buffers_of xs) → xs ≢ [] → r ≡ slice_index_or xs 0 r → new ≡ drop 1 xs → MatchOption r ((buffers_of xs ≡ []) × (buffers_of new ≡ [])) (λ w. buffers_of xs ≡ w ∷ buffers_of new)
popped [] new r h ne v e = absurd (ne refl)
popped (None ∷ xs) new r h ne v e = absurd (no_none xs (buffers_of xs) h)
popped (Some w ∷ xs) new r h ne v e = subst (λ (o : Option Work). MatchOption o ((w ∷ buffers_of xs ≡ []) × (buffers_of new ≡ [])) (λ x. w ∷ buffers_of xs ≡ x ∷ buffers_of new)) (sym v) (ap (λ ys. w ∷ buffers_of ys) (sym e))

-- WHERE THE FIRST PLACES WERE TAKEN OUT

rest_taken : (xs new : List (Option Work)) (at : ℕ) → new ≡ slice_set xs at None → drop (at + 1) new ≡ drop 1 (drop at xs)
rest_taken xs new at e = ap (drop (at + 1)) e ∙ (drop-set-lt (at + 1) xs at None (omega arith) ∙ sym (drop-drop 1 at xs))

some_left : (xs : List (Option Work)) (at : ℕ) → at < length xs → drop at xs ≢ []
some_left xs at h e = let n = ap length e in let m = length-drop at xs in absurd (omega arith)

pub taken_full : (xs new : List (Option Work)) (at : ℕ) → drop at xs ≡ full (buffers_of (drop at xs)) → new ≡ slice_set xs at None → drop (at + 1) new ≡ full (buffers_of (drop (at + 1) new))
taken_full xs new at h e = popped_full (drop at xs) (drop (at + 1) new) h (rest_taken xs new at e)

pub taken : (xs new : List (Option Work)) (at : ℕ) (r : Option Work) → at < length xs → drop at xs ≡ full (buffers_of (drop at xs)) → r ≡ slice_index_or xs at r → new ≡ slice_set xs at None
    → MatchOption r ((buffers_of (drop at xs) ≡ []) × (buffers_of (drop (at + 1) new) ≡ [])) (λ w. buffers_of (drop at xs) ≡ w ∷ buffers_of (drop (at + 1) new))
taken xs new at r below h v e = let at_front : at ≡ at + 0 = omega arith in popped (drop at xs) (drop (at + 1) new) r h (some_left xs at below) (v ∙ (ap (λ (k : ℕ). slice_index_or xs k r) at_front ∙ sym (get_or-drop at xs 0 r))) (rest_taken xs new at e)

pub taken_within : (xs new : List (Option Work)) (at : ℕ) → at < length xs → new ≡ slice_set xs at None → at + 1 ≤ length new
taken_within xs new at h e = let k = ap length e in let s = length-set xs at None in omega arith

pub put : (xs ys new : List (Option Work)) (front now : ℕ) (w : Work) → drop front xs ≡ full (buffers_of (drop front xs)) → now ≤ length ys → drop now ys ≡ drop front xs → new ≡ ys ++ Some w ∷ []
    → buffers_of (drop now new) ≡ buffers_of (drop front xs) ++ w ∷ []
put xs ys new front now w h within same e =
    pushed (drop front xs) (drop now new) w h (ap (drop now) e ∙ (drop-append-le now ys (Some w ∷ []) within ∙ ap (λ t. t ++ Some w ∷ []) same))

pub put_full : (xs ys new : List (Option Work)) (front now : ℕ) (w : Work) → drop front xs ≡ full (buffers_of (drop front xs)) → now ≤ length ys → drop now ys ≡ drop front xs → new ≡ ys ++ Some w ∷ []
    → drop now new ≡ full (buffers_of (drop now new))
put_full xs ys new front now w h within same e =
    pushed_full (drop front xs) (drop now new) w h (ap (drop now) e ∙ (drop-append-le now ys (Some w ∷ []) within ∙ ap (λ t. t ++ Some w ∷ []) same))
