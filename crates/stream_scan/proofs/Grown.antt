-- The bytes in order, with one segment more.
use Rattle.std.proofs.Common.{◌≡◌, ℕ, ◌+◌, ◌-◌, ◌<◌, ◌≤◌, ◌⊎◌, Bool, true, false, if◌then◌else◌, List, [], ◌∷◌, ◌++◌, length, refl, sym, ◌∙◌, ap, subst, arith, inl, inr}
use Rattle.std.specs.Prelude.{Option, Some, None, IsSome}
use Rattle.std.specs.Option.{option_or}
use Rattle.std.proofs.lemmas.List.Sums.{fold_push}
use Rattle.brick_spec.specs.Stream.{StreamSegment, Payload, Reassembly, IsReady, IsCovered, byte_at, byte_in, bytes_of, ready_of, counts, payload_of, with_segment, reassembly}
use Rattle.brick_spec.proofs.Streams.{byte_at-push, ready_is, is_greatest, bytes_stay, bytes_of-split}
use Rattle.flow_spec.specs.FlowStream.{bytes_in_order}

still_some : (a b : Option ℕ) → IsSome a → IsSome (option_or a b)
still_some None b h = cc
still_some (Some x) b h = h

-- payloads, and these with one more or as they are
abbrev IsGrown : List Payload → List Payload → Type 0
IsGrown old new = (new ≡ old) ⊎ ((p : Payload) × (new ≡ old ++ p ∷ []))

still_covered : (old new : List Payload) (q : ℕ) → IsGrown old new → IsCovered old q → IsCovered new q
still_covered old new q (inl e) h = rw e h
still_covered old new q (inr (p, e)) h = rw (e, byte_at-push old p q) (still_some (byte_at old q) (byte_in p q) h)

still_same : (old new : List Payload) (r : ℕ) → IsGrown old new → IsReady old r → bytes_of new 0 r ≡ bytes_of old 0 r
still_same old new r (inl e) h = ap (λ (ps : List Payload). bytes_of ps 0 r) e
still_same old new r (inr (p, e)) h = ap (λ (ps : List Payload). bytes_of ps 0 r) e ∙ bytes_stay old p r 0 r h (omega arith)

module _ (reach : ℕ) (segments : List StreamSegment) (c : StreamSegment) where
  old : List Payload
  old = (reassembly reach segments).payloads

  new : List Payload
  new = (reassembly reach (segments ++ c ∷ [])).payloads

  grown : IsGrown old new
  unfolding old new with_segment
  grown = by (counts reach (reassembly reach segments) c) refl where
    pushed : (reassembly reach (segments ++ c ∷ [])).payloads ≡ (with_segment reach (reassembly reach segments) c).payloads
    pushed = ap (λ (r : Reassembly). r.payloads) (fold_push (with_segment reach) (record { base = None; payloads = [] }) segments c)

    by : (b : Bool) → counts reach (reassembly reach segments) c ≡ b → IsGrown (reassembly reach segments).payloads (reassembly reach (segments ++ c ∷ [])).payloads
    by true e = inr (payload_of (reassembly reach segments) c, pushed ∙ ap (λ (b : Bool). if b then (reassembly reach segments).payloads ++ payload_of (reassembly reach segments) c ∷ [] else (reassembly reach segments).payloads) e)
    by false e = inl (pushed ∙ ap (λ (b : Bool). if b then (reassembly reach segments).payloads ++ payload_of (reassembly reach segments) c ∷ [] else (reassembly reach segments).payloads) e)

  -- what was in order stays
  pub before_same : (r : ℕ) → IsReady (reassembly reach segments).payloads r → bytes_of (reassembly reach (segments ++ c ∷ [])).payloads 0 r ≡ bytes_of (reassembly reach segments).payloads 0 r
  unfolding old new
  before_same r h = still_same old new r grown h

  pub ready_grows : ready_of (reassembly reach segments).payloads ≤ ready_of (reassembly reach (segments ++ c ∷ [])).payloads
  unfolding old new
  ready_grows = is_greatest new (ready_of new) (ready_of old) (ready_is new) (λ q h. still_covered old new q grown ((ready_is old).below q h))

  pub more : List ℕ
  more = bytes_of (reassembly reach (segments ++ c ∷ [])).payloads (ready_of (reassembly reach segments).payloads) (ready_of (reassembly reach (segments ++ c ∷ [])).payloads - ready_of (reassembly reach segments).payloads)

  pub in_order_grows : bytes_in_order (reassembly reach (segments ++ c ∷ [])) ≡ bytes_in_order (reassembly reach segments) ++ more
  unfolding more
  in_order_grows =
      let sum : ready_of (reassembly reach (segments ++ c ∷ [])).payloads ≡ ready_of (reassembly reach segments).payloads + (ready_of (reassembly reach (segments ++ c ∷ [])).payloads - ready_of (reassembly reach segments).payloads) = omega (arith, ready_grows) in
      let from : 0 + ready_of (reassembly reach segments).payloads ≡ ready_of (reassembly reach segments).payloads = omega arith in
      ap (bytes_of (reassembly reach (segments ++ c ∷ [])).payloads 0) sum
      ∙ bytes_of-split (reassembly reach (segments ++ c ∷ [])).payloads 0 (ready_of (reassembly reach segments).payloads) (ready_of (reassembly reach (segments ++ c ∷ [])).payloads - ready_of (reassembly reach segments).payloads)
      ∙ ap (λ (xs : List ℕ). xs ++ bytes_of (reassembly reach (segments ++ c ∷ [])).payloads (0 + ready_of (reassembly reach segments).payloads) (ready_of (reassembly reach (segments ++ c ∷ [])).payloads - ready_of (reassembly reach segments).payloads)) (before_same (ready_of (reassembly reach segments).payloads) (ready_is (reassembly reach segments).payloads))
      ∙ ap (λ (q : ℕ). bytes_in_order (reassembly reach segments) ++ bytes_of (reassembly reach (segments ++ c ∷ [])).payloads q (ready_of (reassembly reach (segments ++ c ∷ [])).payloads - ready_of (reassembly reach segments).payloads)) from
