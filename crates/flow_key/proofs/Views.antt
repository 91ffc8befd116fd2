-- Opened flows of the code, and those of the definitions.
use Rattle.std.proofs.Common.{◌≡◌, ◌∙◌, ◌<◌, ℕ, true, refl, ap, sym, arith, List, length, map, get_or, None, Some}
use Rattle.std.specs.Option.{option_map}
use Rattle.std.proofs.lemmas.List.{length-map}
use Rattle.std.proofs.lemmas.Option.{get_or_from_slice_get, slice_get-map, slice_get-get_or}
use Rattle.std.proofs.lemmas.Bool.{eq-eqb}
use Rattle.brick_spec.specs.Flow.{Direction}
use Rattle.brick_spec.specs.Tuple as spec_tuple
use Rattle.brick_spec.specs.FlowClass.{Key, flow_at, has_key, has_first_key, is_same_key, key_of, direction_by, found_by}
use Rattle.brick_spec.specs.FlowClass as spec
use Rattle.tcp_udp.specs.declared.tuple.Tuple.{Tuple}
use Rattle.tcp_udp.specs.View.{tuple_view}
use Rattle.flow_key.specs.Found.{found_by_key}
use Rattle.flow_key.specs.Maps.{HaveOwnKeys}
use Rattle.flow_key.specs.declared.opened.Opened.{Opened}
use Rattle.flow_key.specs.OpenedView.{opened_view}

pub flow_viewed : (flows : List Opened) (i : ℕ) (f : Opened) → f ≡ get_or flows i f → i < length flows → flow_at (map opened_view flows) i ≡ opened_view f
flow_viewed flows i f is within =
    get_or_from_slice_get (map opened_view flows) i (opened_view f) (record { first = None; rank = None; opened = 0 })
    (slice_get-map opened_view flows i ∙ ap (option_map opened_view) (slice_get-get_or flows i f within ∙ ap Some (sym is)))

-- a key is the same as itself
same_key : (k : Key) → is_same_key k k ≡ true
same_key k =
    let one = λ (n : ℕ). eq-eqb n n refl in
    rw (one k.proto, one k.low.address) (rw (one k.low.port, one k.high.address) (rw (one k.high.port) refl))

-- a flow whose first frame has the key is the one that a search finds
pub recent_found : (flows : List Opened) (n : ℕ) (f : Opened) (first : Tuple) (t : spec_tuple.Tuple) (d : Direction) → HaveOwnKeys (map opened_view flows)
    → f ≡ get_or flows n f → n < length flows → Some first ≡ f.first → key_of (tuple_view first) ≡ key_of t → d ≡ direction_by (Some (tuple_view first)) (Some t)
    → Some (n, d) ≡ found_by_key (map opened_view flows) (Some t)
recent_found flows n f first t d own is below has key dir =
    let fs : List spec.Opened = map opened_view flows in
    let first_is : (flow_at fs n).first ≡ Some (tuple_view first) = ap (λ (o : spec.Opened). o.first) (flow_viewed flows n f is below) ∙ ap (option_map tuple_view) (sym has) in
    let same : has_key (key_of t) (flow_at fs n) ≡ true = ap (has_first_key (key_of t)) first_is ∙ ap (λ k. is_same_key k (key_of t)) key ∙ same_key (key_of t) in
    let within : n < length fs = let long = length-map flows opened_view in omega arith in
    ap (λ x. Some (n, x)) (dir ∙ ap (λ o. direction_by o (Some t)) (sym first_is))
    ∙ ap (λ s. found_by None s fs (Some t)) (sym (own n (key_of t) within same))
