-- How many items a chain drops of a flow: no more than one for each item that came, and one for each byte of its frame.
use Rattle.std.proofs.Common.{◌≡◌, ℕ, zero, suc, ◌+◌, ◌≤◌, Bool, true, false, nat_le, List, [], ◌∷◌, ◌++◌, length, map, Option, Some, None, Result, Ok, Err, if◌then◌else◌, IfOk, refl, ap, sym, subst, arith, drop, length-append, length-drop}
use Rattle.std.specs.List.{AllByRecursion, slice_get, slice_index_or}
use Rattle.std.specs.Prelude.{option_and_then}
use Rattle.brick_spec.specs.AddressTranslation.{by_rank}
use Rattle.brick_spec.specs.Balance.{balance_table, backend_in}
use Rattle.brick_spec.specs.Flow.{Flow, Direction, Ends}
use Rattle.brick_spec.specs.FlowClass.{NatPlan}
use Rattle.brick_spec.specs.FlowStage.{FlowItem, FlowStage, FlowOutput, nothing, left_by, alone, along, meant}
use Rattle.brick_spec.specs.Item.{Item}
use Rattle.brick_spec.specs.Layer.{Layer, ip4_layer}
use Rattle.brick_spec.specs.Match.{meets_tuple}
use Rattle.brick_spec.specs.Route as routes
use Rattle.brick_spec.specs.Stage.{Reason, Unparsed, Ttl, Filter, ttl_at, ttl_stage, parsed_stage, on_ip4, on_tuple}
use Rattle.brick_spec.specs.Stream.{StreamSegment}
use Rattle.brick_spec.specs.Tuple.{Tuple, tuple_of}
use Rattle.flow_spec.specs.Addressed.{sent_to, sent_from, item_stage}
use Rattle.flow_spec.specs.Balancing.{Backend, Change, backends_of, epoch_of, begins_of, backends_for, mac_for}
use Rattle.flow_spec.specs.FlowStream.{segment_of}
use Rattle.flow_spec.specs.Routing.{row_for, forwarded, routed_by, route_stage}
use Rattle.flow_spec.specs.Scan.{scanned, is_found}
use Rattle.chain_spec.specs.ChainSet as chains
use Rattle.chain_spec.specs.ChainSet.{is_window}
use Rattle.tenant_spec.specs.ChainPlan.{stage_of}
use Rattle.chain_laws.specs.Right.{HaveMacs, HasMacs}
use Rattle.chain_laws.proofs.Frames.{tuple_long, ttl_long, tos_long, destination_long, source_long, translated_long}
use Rattle.chain_laws.proofs.Totals.{total, total_both}
use Rattle.chain_laws.proofs.WindowCounts.{long_both, window_few}

-- What an item may come to: before a window one for itself, and one for each byte of its frame; behind it one.
abbrev pub worth : Bool → FlowItem → ℕ
worth true x = 1 + length x.item.frame
worth false x = 1

-- what left, where the items that passed may still come to so much
abbrev pub left_worth : Bool → FlowOutput → ℕ
left_worth b o = total (worth b) o.passed + length o.dropped

-- one item of no longer a frame, or a drop
abbrev IsNoLonger : Item → Item → Type 0
IsNoLonger i k = length k.frame ≤ length i.frame

pub record IsFrugal (s : FlowStage) : Type 0 where
  pub on_item : (b : Bool) (before : List FlowItem) (x : FlowItem) → left_worth b (s.on_item before x) ≤ worth b x
  pub at_end : (all : List FlowItem) (n : ℕ) → s.at_end all n ≡ nothing

one_left : (x : FlowItem) (r : Result Item Reason) → IfOk r (IsNoLonger x.item) → (b : Bool) → left_worth b (left_by x r) ≤ worth b x
one_left x (Ok i) h true = omega (arith, h)
one_left x (Ok i) h false = omega arith
one_left x (Err r) h true = omega arith
one_left x (Err r) h false = omega arith

alone_frugal : (s : FlowItem → Result Item Reason) → ((x : FlowItem) → IfOk (s x) (IsNoLonger x.item)) → IsFrugal (alone s)
alone_frugal s h = record { on_item = λ b before x. one_left x (s x) (h x) b; at_end = λ all n. refl }

itself : (i : Item) → IsNoLonger i i
itself i = omega arith

on_ip4_less : (i : Item) (does : Layer → Result Item Reason) → ((l : Layer) → ip4_layer i.frame ≡ Some l → IfOk (does l) (IsNoLonger i)) → IfOk (on_ip4 i does (ip4_layer i.frame)) (IsNoLonger i)
on_ip4_less i does h = by (ip4_layer i.frame) refl where
  by : (o : Option Layer) → ip4_layer i.frame ≡ o → IfOk (on_ip4 i does o) (IsNoLonger i)
  by None e = itself i
  by (Some l) e = h l e

on_tuple_less : (i : Item) (does : Tuple → Result Item Reason) → ((t : Tuple) → 34 ≤ length i.frame → IfOk (does t) (IsNoLonger i)) → IfOk (on_tuple i does (tuple_of i.frame)) (IsNoLonger i)
on_tuple_less i does h = by (tuple_of i.frame) refl where
  by : (o : Option Tuple) → tuple_of i.frame ≡ o → IfOk (on_tuple i does o) (IsNoLonger i)
  by None e = itself i
  by (Some t) e = h t (tuple_long i.frame t e)

err_or : (b : Bool) (r : Reason) (i k : Item) → IsNoLonger i k → IfOk (if b then Err r else Ok k) (IsNoLonger i)
err_or true r i k h = tt
err_or false r i k h = h

ok_or : (b : Bool) (r : Reason) (i k : Item) → IsNoLonger i k → IfOk (if b then Ok k else Err r) (IsNoLonger i)
ok_or true r i k h = h
ok_or false r i k h = tt

as_long : (m n : ℕ) → m ≡ n → m ≤ n
as_long m n e = omega (arith, e)

ttl_less : (i : Item) → IfOk (ttl_stage i) (IsNoLonger i)
ttl_less i = on_ip4_less i (ttl_at i) (λ l e. err_or _ Ttl i _ (as_long _ _ (ttl_long i.frame l _ e)))

-- a time to live of one less leaves the length as it is
ttl_same : (i : Item) → IfOk (ttl_stage i) (λ k. length k.frame ≡ length i.frame)
ttl_same i = by (ip4_layer i.frame) refl where
  one : (c : Bool) (k : Item) → length k.frame ≡ length i.frame → IfOk (if c then Err Ttl else Ok k) (λ k. length k.frame ≡ length i.frame)
  one true k h = tt
  one false k h = h

  by : (o : Option Layer) → ip4_layer i.frame ≡ o → IfOk (on_ip4 i (ttl_at i) o) (λ k. length k.frame ≡ length i.frame)
  by None e = refl
  by (Some l) e = one _ _ (ttl_long i.frame l _ e)

route_less : (mac : List ℕ) (rows : List routes.Route) → length mac ≡ 6 → AllByRecursion (λ (r : routes.Route). length r.via ≡ 6) rows → (i : Item) → IfOk (route_stage mac rows i) (IsNoLonger i)
route_less mac rows six sixes i = on_tuple_less i (λ t. routed_by mac i (row_for rows t.dst)) (λ t long. by long (row_for rows t.dst) (at (routes.route_of rows t.dst))) where
  got : (rs : List routes.Route) (k : ℕ) → AllByRecursion (λ (r : routes.Route). length r.via ≡ 6) rs → (r : routes.Route) → slice_get rs k ≡ Some r → length r.via ≡ 6
  got [] k h r e = cc
  got (q ∷ rs) zero (h, hs) r e = subst (λ (x : routes.Route). length x.via ≡ 6) (same q r e) h where
    same : (x y : routes.Route) → ◌≡◌ {A = Option routes.Route} (Some x) (Some y) → x ≡ y
    same x y e = cc
  got (q ∷ rs) (suc k) (h, hs) r e = got rs k hs r e

  at : (o : Option ℕ) (r : routes.Route) → option_and_then (slice_get rows) o ≡ Some r → length r.via ≡ 6
  at None r e = cc
  at (Some k) r e = got rows k sixes r e

  sent : (via : List ℕ) → length via ≡ 6 → 34 ≤ length i.frame → (r : Result Item Reason) → IfOk r (λ k. length k.frame ≡ length i.frame) → IfOk (forwarded mac via r) (IsNoLonger i)
  sent via h long (Ok k) same =
      let one = source_long k.frame mac six (omega (arith, same, long)) in
      let two = destination_long (sent_from mac k).frame via h (omega (arith, one, same, long)) in
      omega (arith, one, two, same)
  sent via h long (Err r) same = tt

  by : 34 ≤ length i.frame → (o : Option routes.Route) → ((r : routes.Route) → o ≡ Some r → length r.via ≡ 6) → IfOk (routed_by mac i o) (IsNoLonger i)
  by long None h = tt
  by long (Some row) h = sent row.via (h row refl) long (ttl_stage i) (ttl_same i)

rank_less : (plan : NatPlan) (o : Option ℕ) (first : Ends) (dir : Direction) (i : Item) → IfOk (by_rank plan o first dir i) (IsNoLonger i)
rank_less plan None first dir i = itself i
rank_less plan (Some rank) first dir i = err_or (nat_le plan.ports rank) _ i _ (as_long _ _ (translated_long plan first rank dir i.frame))

-- an address of six bytes, or none
few_bytes : (macs : List (List ℕ)) (k : ℕ) → AllByRecursion (λ (m : List ℕ). length m ≤ 6) macs → length (slice_index_or macs k []) ≤ 6
few_bytes [] k h = omega arith
few_bytes (m ∷ macs) zero (h, hs) = h
few_bytes (m ∷ macs) (suc k) (h, hs) = few_bytes macs k hs

backend_macs : (backends : List Backend) → HaveMacs backends → AllByRecursion (λ (m : List ℕ). length m ≤ 6) (map (λ (b : Backend). b.mac) backends)
backend_macs [] h = tt
backend_macs (b ∷ bs) (h, hs) = (as_long _ _ h, backend_macs bs hs)

epoch_macs : (lists : List (List Backend)) (k : ℕ) → AllByRecursion HaveMacs lists → HaveMacs (slice_index_or lists k [])
epoch_macs [] k h = tt
epoch_macs (bs ∷ lists) zero (h, hs) = h
epoch_macs (bs ∷ lists) (suc k) (h, hs) = epoch_macs lists k hs

change_macs : (changes : List Change) → AllByRecursion (λ (c : Change). HaveMacs c.backends) changes → AllByRecursion HaveMacs (map (λ (c : Change). c.backends) changes)
change_macs [] h = tt
change_macs (c ∷ cs) (h, hs) = (h, change_macs cs hs)

mac_few : (backends : List Backend) (changes : List Change) (opened hash : ℕ) → HaveMacs backends → AllByRecursion (λ (c : Change). HaveMacs c.backends) changes → length (mac_for (backends_for backends changes opened) hash) ≤ 6
mac_few backends changes opened hash h hs =
    let bs = backends_for backends changes opened in
    few_bytes (map (λ (b : Backend). b.mac) bs) (backend_in (balance_table (map (λ (b : Backend). b.name) bs)) hash) (backend_macs bs (epoch_macs (backends_of backends changes) (epoch_of (begins_of changes) opened) (h, change_macs changes hs)))

to_less : (mac : List ℕ) (i : Item) → length mac ≤ 6 → 34 ≤ length i.frame → IsNoLonger i (sent_to mac i)
to_less mac i few long = omega (arith, few, long, length-append mac (drop 6 i.frame), length-drop 6 i.frame)

scan_less : (b found : Bool) (x : FlowItem) (o : Option StreamSegment) → left_worth b (scanned found x o) ≤ worth b x
scan_less b found x None = one_left x (Ok x.item) (itself x.item) b
scan_less b true x (Some s) = one_left x (Err Filter) tt b
scan_less b false x (Some s) = one_left x (Ok x.item) (itself x.item) b

pub parsed_frugal : IsFrugal (item_stage parsed_stage)
parsed_frugal = alone_frugal (λ x. parsed_stage x.item) (λ x. err_or _ Unparsed x.item x.item (itself x.item))

no_window : true ≡ false → ⊥
no_window e = cc

pub stage_frugal : (nat : Option NatPlan) (flow : Flow) (s : chains.Stage) → HasMacs s → is_window s ≡ false → IsFrugal (stage_of nat flow s)
stage_frugal nat flow chains.Ttl m e = alone_frugal _ (λ x. ttl_less x.item)
stage_frugal nat flow (chains.SetTos value) m e = alone_frugal _ (λ x. on_ip4_less x.item _ (λ l h. as_long _ _ (tos_long x.item.frame l value h)))
stage_frugal nat flow (chains.Only wanted) m e = alone_frugal _ (λ x. on_tuple_less x.item _ (λ t long. ok_or (meets_tuple wanted t) Filter x.item x.item (itself x.item)))
stage_frugal nat flow (chains.Firewall default established rules) m e = record { on_item = λ b before x. one_left x _ (ok_or _ _ x.item x.item (itself x.item)) b; at_end = λ all n. refl }
stage_frugal nat flow (chains.Route mac rows) m e = alone_frugal _ (λ x. route_less mac rows m.0 m.1 x.item)
stage_frugal None flow chains.Nat m e = alone_frugal (λ x. Ok x.item) (λ x. itself x.item)
stage_frugal (Some plan) flow chains.Nat m e = alone_frugal _ (λ x. rank_less plan flow.rank flow.first x.dir x.item)
stage_frugal nat flow (chains.Balance backends changes) m e =
    alone_frugal _ (λ x. on_tuple_less x.item _ (λ t long. to_less (mac_for (backends_for backends changes flow.opened) flow.hash) x.item (mac_few backends changes flow.opened flow.hash m.0 m.1) long))
stage_frugal nat flow (chains.Window size reach) m e = absurd (no_window e)
stage_frugal nat flow (chains.Scan text reach) m e = record { on_item = λ b before x. scan_less b (is_found text reach (before ++ x ∷ [])) x (segment_of x.item); at_end = λ all n. refl }

-- OF A WHOLE LIST

module _ (b : Bool) (s : FlowStage) (f : IsFrugal s) where
  frugal_along : (before xs : List FlowItem) → left_worth b (along s before xs) ≤ total (worth b) xs
  frugal_along before [] = omega arith
  frugal_along before (x ∷ xs) =
      omega (
        arith,
        frugal_along (before ++ x ∷ []) xs,
        f.on_item b before x,
        total_both (worth b) (s.on_item before x).passed (along s (before ++ x ∷ []) xs).passed,
        long_both (s.on_item before x).dropped (along s (before ++ x ∷ []) xs).dropped,
      )

  pub frugal_meant : (n : ℕ) (xs : List FlowItem) → left_worth b (meant s (record { items = xs; ended = Some n })) ≤ total (worth b) xs
  frugal_meant n xs =
      let none : left_worth b (s.at_end xs n) ≡ 0 = ap (left_worth b) (f.at_end xs n) in
      omega (
        arith,
        none,
        frugal_along [] xs,
        total_both (worth b) (along s [] xs).passed (s.at_end xs n).passed,
        long_both (along s [] xs).dropped (s.at_end xs n).dropped,
      )

all_one : (ys : List FlowItem) → total (worth false) ys ≡ length ys
all_one [] = refl
all_one (y ∷ ys) = omega (arith, all_one ys)

pub window_meant : (nat : Option NatPlan) (flow : Flow) (n : ℕ) (s : chains.Stage) → is_window s ≡ true → (xs : List FlowItem) → left_worth false (meant (stage_of nat flow s) (record { items = xs; ended = Some n })) ≤ total (worth true) xs
window_meant nat flow n (chains.Window size reach) e xs =
    let out = meant (stage_of nat flow (chains.Window size reach)) (record { items = xs; ended = Some n }) in
    omega (arith, all_one out.passed, window_few size reach flow n xs)
window_meant nat flow n chains.Ttl e xs = absurd (no_window (sym e))
window_meant nat flow n (chains.SetTos value) e xs = absurd (no_window (sym e))
window_meant nat flow n (chains.Only wanted) e xs = absurd (no_window (sym e))
window_meant nat flow n (chains.Firewall default established rules) e xs = absurd (no_window (sym e))
window_meant nat flow n (chains.Route mac rows) e xs = absurd (no_window (sym e))
window_meant nat flow n chains.Nat e xs = absurd (no_window (sym e))
window_meant nat flow n (chains.Balance backends changes) e xs = absurd (no_window (sym e))
window_meant nat flow n (chains.Scan text reach) e xs = absurd (no_window (sym e))
