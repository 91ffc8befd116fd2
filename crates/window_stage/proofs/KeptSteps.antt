-- What is kept of flows after one place was written.
use Rattle.std.proofs.Common.{◌≡◌, ◌≢◌, ◌∙◌, ℕ, zero, suc, ◌<◌, ◌≤◌, List, [], ◌∷◌, ◌++◌, Option, Some, None, length, slice_set, slice_index_or, sym, ap, refl, ⊎_elim}
use Rattle.std.specs.Prelude.{option_map}
use Rattle.std.specs.Box.{box_value}
use Rattle.std.specs.Global.{Box}
use Rattle.std.proofs.lemmas.Bool.{cases_eq}
use Rattle.std.proofs.lemmas.List.{get_or-set_same, get_or-set_other, get_or_past}
use Rattle.window_stage.specs.Kept.{kept_at}
use Rattle.window_stage.specs.declared.flow_halves.FlowHalves.{FlowHalves}

pub kept_here : (kept : List (Option (Box FlowHalves))) (flow : ℕ) (o : Option (Box FlowHalves)) → flow < length kept → kept_at (slice_set kept flow o) flow ≡ option_map box_value o
kept_here kept flow o below = ap (option_map box_value) (get_or-set_same kept flow o None below)

pub kept_apart : (kept : List (Option (Box FlowHalves))) (flow q : ℕ) (o : Option (Box FlowHalves)) → q ≢ flow → kept_at (slice_set kept flow o) q ≡ kept_at kept q
kept_apart kept flow q o apart = ap (option_map box_value) (get_or-set_other kept flow q o None apart)

pub kept_past : (kept : List (Option (Box FlowHalves))) (flow : ℕ) → length kept ≤ flow → kept_at kept flow ≡ None
kept_past kept flow past = ap (option_map box_value) (get_or_past kept flow None past)

-- one place more, of which nothing is kept
pub kept_more : (kept : List (Option (Box FlowHalves))) (q : ℕ) → kept_at (kept ++ None ∷ []) q ≡ kept_at kept q
kept_more kept q = ap (option_map box_value) (none_behind kept q) where
  none_behind : (ks : List (Option (Box FlowHalves))) (n : ℕ) → slice_index_or (ks ++ None ∷ []) n None ≡ slice_index_or ks n None
  none_behind [] zero = refl
  none_behind [] (suc n) = refl
  none_behind (k ∷ ks) zero = refl
  none_behind (k ∷ ks) (suc n) = none_behind ks n

-- what holds of the value and of the others holds of each
pub all_after : (old new : List (Option (Box FlowHalves))) (flow : ℕ) → ((q : ℕ) → q ≢ flow → kept_at new q ≡ kept_at old q)
    → (P : FlowHalves → Type 0) → ((y : FlowHalves) → kept_at new flow ≡ Some y → P y) → ((q : ℕ) (y : FlowHalves) → kept_at old q ≡ Some y → P y) → (q : ℕ) (y : FlowHalves) → kept_at new q ≡ Some y → P y
all_after old new flow apart P here others q y is = ⊎_elim
    (λ (e : q ≡ flow). here y (ap (kept_at new) (sym e) ∙ is))
    (λ (ne : q ≢ flow). others q y (sym (apart q ne) ∙ is))
    (cases_eq q flow)
