-- There is a base once a segment came.
use Rattle.std.proofs.Common.{◌≡◌, ℕ, List, [], ◌∷◌, fold, None, refl, ap}
use Rattle.window_stream.specs.Laws.{BaseIsOfFirst}
use Rattle.brick_spec.specs.Stream.{StreamSegment, Reassembly, with_segment, reassembly}

based : (reach : ℕ) (s : StreamSegment) (segments : List StreamSegment) (r : Reassembly) → (fold (with_segment reach) (with_segment reach r s) segments).base ≡ None → ⊥
unfolding with_segment
based reach s [] r e = cc
based reach s (x ∷ segments) r e = based reach x segments (with_segment reach r s) e

no_base : (reach : ℕ) (segments : List StreamSegment) → (reassembly reach segments).base ≡ None → segments ≡ []
no_base reach [] e = refl
no_base reach (s ∷ segments) e = absurd (based reach s segments (record { base = None; payloads = [] }) e)

pub base_is_of_first : BaseIsOfFirst
base_is_of_first reach segments = (no_base reach segments, λ e. ap (λ (xs : List StreamSegment). (reassembly reach xs).base) e)
