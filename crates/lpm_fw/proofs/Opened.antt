-- The set of a firewall stage, once an item came that goes forward.
use Rattle.std.proofs.Common.{◌≡◌, ◌∙◌, ℕ, ◌==◌, Bool, true, false, ◌&&◌, ◌||◌, if◌then◌else◌, IsTrue, refl, sym, ap, List, [], ◌∷◌, ◌++◌, Option, option_map, Result, Ok, Err, IfOk, OnOk}
use Rattle.std.specs.List.{list_any}
use Rattle.std.specs.FinSet as set
use Rattle.std.specs.Cmp.{nat_cmp_total, unsigned_tied, nat_eq_equiv}
use Rattle.std.proofs.lemmas.List.Folds.{list_any-append}
use Rattle.brick_spec.specs.FlowStage.{FlowItem}
use Rattle.brick_spec.specs.Firewall as spec
use Rattle.brick_base.specs.Flow.{dir_view}
use Rattle.brick_base.specs.declared.flow.Class.{Class}
use Rattle.brick_base.specs.declared.flow.Dir.TheVariants.{Forward}
use Rattle.brick_base.specs.declared.memory.NoMemory.{NoMemory}
use Rattle.tcp_udp.specs.View.{tuple_view}
use Rattle.tcp_udp.specs.declared.tuple.Tuple.{Tuple}
use Rattle.lpm_fw.specs.RuleView.{verdict_view}
use Rattle.lpm_fw.specs.Inspection.{opens, StandsFor, with_item, IsItem}
use Rattle.lpm_fw.specs.declared.established.Established.{Established}
use Rattle.lpm_fw.specs.declared.rules.Rules.{Rules}
use Rattle.lpm_fw.specs.declared.rules.Verdict.{Verdict}

settled : (allowed any : Bool) → (allowed || any) ≡ (any || (allowed || false))
settled true true = refl
settled true false = refl
settled false true = refl
settled false false = refl

-- one more item of one of the flows
one_more : (p : FlowItem → Bool) (here allowed old new : Bool) (xs : List FlowItem) (x : FlowItem) → p x ≡ allowed → old ≡ list_any p xs → new ≡ ((allowed && here) || old)
    → new ≡ list_any p (if here then xs ++ x ∷ [] else xs)
one_more p true true old new xs x e f g = rw (list_any-append p xs (x ∷ []), e) (g ∙ settled true (list_any p xs))
one_more p true false old new xs x e f g = rw (list_any-append p xs (x ∷ []), e) (g ∙ f ∙ settled false (list_any p xs))
one_more p false true old new xs x e f g = cc
one_more p false false old new xs x e f g = cc

-- an item that goes forward opens its flow where the rules allow it
opens_forward : (rules : Rules) (class : Class) (t : Option Tuple) (x : FlowItem) → class.dir ≡ Forward → IsItem class t x
    → opens rules x ≡ spec.allows_tuple rules.rows rules.default (option_map tuple_view t)
opens_forward rules class t x forward is =
    ap (λ d. spec.is_forward d && spec.allows rules.rows rules.default x) (is.dir ∙ ap dir_view forward)
    ∙ ap (spec.allows_tuple rules.rows rules.default) is.tuple

allowed_insert : (flows : Established) (flow other : ℕ) → set.contains (set.insert flows flow) other ≡ (flow == other || set.contains flows other)
allowed_insert flows flow other =
    set.contains-insert nat_cmp_total flows flow other ∙ ap (λ b. b || set.contains flows other) (unsigned_tied other flow ∙ nat_eq_equiv.symm other flow)

-- the set, where an item that is allowed opens its flow
allowed_after : (e allowed : Bool) (old new : Established) (flow other : ℕ) → IsTrue e → new ≡ (if e && allowed then set.insert old flow else old)
    → set.contains new other ≡ ((allowed && flow == other) || set.contains old other)
allowed_after true true old new flow other on is = ap (λ s. set.contains s other) is ∙ allowed_insert old flow other
allowed_after true false old new flow other on is = ap (λ s. set.contains s other) is
allowed_after false allowed old new flow other on is = absurd (cc)

pub forward_kept : (established : Bool) (rules : Rules) (old new : Established) (class : Class) (t : Option Tuple) (result : Result Verdict NoMemory) → class.dir ≡ Forward
    → IfOk result (λ verdict. spec.is_allow (verdict_view verdict) ≡ spec.allows_tuple rules.rows rules.default (option_map tuple_view t))
    → IfOk result (λ verdict. new ≡ (if established && spec.is_allow (verdict_view verdict) then set.insert old class.flow else old))
    → (before : ℕ → List FlowItem) (x : FlowItem) → StandsFor established rules old before → IsItem class t x → OnOk result (StandsFor established rules new (with_item before class.flow x))
forward_kept established rules old new class t (Err e) forward says kept before x stands is = tt
forward_kept established rules old new class t (Ok verdict) forward says kept before x stands is = λ on other.
    one_more (opens rules) (class.flow == other) (spec.is_allow (verdict_view verdict)) (set.contains old other) (set.contains new other) (before other) x
    (opens_forward rules class t x forward is ∙ sym says) (stands on other)
    (allowed_after established (spec.is_allow (verdict_view verdict)) old new class.flow other on kept)
