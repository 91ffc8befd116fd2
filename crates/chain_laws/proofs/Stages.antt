-- What each stage of a chain makes of the keys of a flow's items.
use Rattle.std.proofs.Common.{◌≡◌, ℕ, zero, suc, ◌+◌, ◌-◌, ◌/◌, ◌%◌, ◌≤◌, Bool, true, false, cond, nat_eq, nat_le, List, [], ◌∷◌, ◌++◌, map, Option, Some, None, Result, Ok, Err, refl, ap, sym, arith, if◌then◌else◌, IfOk}
use Rattle.std.specs.Prelude.{length, flat_map, option_map}
use Rattle.std.specs.Option.{option_to_list}
use Rattle.brick_spec.specs.AddressTranslation.{by_rank}
use Rattle.brick_spec.specs.Flow.{Flow, Direction, Forward, Reversed, Ends}
use Rattle.brick_spec.specs.FlowClass.{NatPlan}
use Rattle.brick_spec.specs.FlowStage.{FlowItem, FlowStage, FlowOutput, left_by, alone, along, meant}
use Rattle.brick_spec.specs.Item.{Item}
use Rattle.brick_spec.specs.Layer.{Layer, header_in, payload_in, tcp_layer, ip4_layer}
use Rattle.brick_spec.specs.Match.{meets_tuple}
use Rattle.brick_spec.specs.PacketizedWindow as spec
use Rattle.brick_spec.specs.Route.{Route}
use Rattle.brick_spec.specs.Stage.{Reason, Reach, Unparsed, Ttl, Filter, ttl_at, ttl_stage, parsed_stage, on_ip4, on_tuple}
use Rattle.brick_spec.specs.Stream.{Reassembly, StreamSegment, ready_of, counts, is_empty}
use Rattle.brick_spec.specs.Tuple.{Tuple, tuple_of}
use Rattle.flow_spec.specs.Addressed.{item_stage}
use Rattle.flow_spec.specs.FlowStream.{segment_at, segment_of, stream_of, ready_in}
use Rattle.flow_spec.specs.Routing.{forwarded, routed_by, route_stage, row_for}
use Rattle.flow_spec.specs.Scan.{scanned, is_found}
use Rattle.flow_spec.specs.Window.{windows_from, triggered, rest_of, emitted_from, is_marked, own_by, own_left, windows_left, told_at, window_told, rest_in, window_rest, last_template, window_stage}
use Rattle.chain_spec.specs.ChainSet as chains
use Rattle.chain_spec.specs.ChainSet.{is_window}
use Rattle.tenant_spec.specs.ChainPlan.{stage_of}
use Rattle.chain_laws.proofs.Totals.{total, total_both}
use Rattle.chain_laws.proofs.Weights.{Weight, weight, hit, early, up_from, hit_early, hit_and_behind, hit_and_windows, two_hits}

-- What passes of an item weighs no more than so much of it, by another weight, and what is added at the end no more than e.
pub record Bounds (p q : Weight) (n e : ℕ) (s : FlowStage) : Type 0 where
  pub on_item : (before : List FlowItem) (x : FlowItem) → total (weight q) (s.on_item before x).passed ≤ weight p x
  pub at_end : (all : List FlowItem) → total (weight q) (s.at_end all n).passed ≤ e

module _ (p q : Weight) (n e : ℕ) (s : FlowStage) (b : Bounds p q n e s) where
  bounds_along : (before xs : List FlowItem) → total (weight q) (along s before xs).passed ≤ total (weight p) xs
  bounds_along before [] = omega arith
  bounds_along before (x ∷ xs) =
      omega (arith, total_both (weight q) (s.on_item before x).passed (along s (before ++ x ∷ []) xs).passed, b.on_item before x, bounds_along (before ++ x ∷ []) xs)

  pub bounds_meant : (xs : List FlowItem) → total (weight q) (meant s (record { items = xs; ended = Some n })).passed ≤ total (weight p) xs + e
  bounds_meant xs = omega (arith, total_both (weight q) (along s [] xs).passed (s.at_end xs n).passed, bounds_along [] xs, b.at_end xs)

-- STAGES THAT LEAVE AT MOST ONE ITEM OF AN ITEM, under its key, and add nothing

abbrev IsSame : Item → Item → Type 0
IsSame i k = (k.a ≡ i.a) × (k.j ≡ i.j)

abbrev IsLeft : FlowItem → List FlowItem → Type 0
IsLeft x [] = Unit {0}
IsLeft x (y ∷ []) = IsSame x.item y.item
IsLeft x (y ∷ z ∷ ys) = ⊥

pub record IsPlain (s : FlowStage) : Type 0 where
  pub on_item : (before : List FlowItem) (x : FlowItem) → IsLeft x (s.on_item before x).passed
  pub at_end : (all : List FlowItem) (n : ℕ) → (s.at_end all n).passed ≡ []

left_weighs : (w : Weight) (x : FlowItem) (ys : List FlowItem) → IsLeft x ys → total (weight w) ys ≤ weight w x
left_weighs w x [] h = omega arith
left_weighs w x (y ∷ []) (e, f) = let same : w y.item.a y.item.j ≡ w x.item.a x.item.j = (λ i. w (e i) (f i)) in omega (arith, same)
left_weighs w x (y ∷ z ∷ ys) h = absurd h

pub plain_bounds : (w : Weight) (n : ℕ) (s : FlowStage) → IsPlain s → Bounds w w n 0 s
plain_bounds w n s p = record {
  on_item = λ before x. left_weighs w x (s.on_item before x).passed (p.on_item before x);
  at_end = λ all. let e : total (weight w) (s.at_end all n).passed ≡ 0 = ap (total (weight w)) (p.at_end all n) in omega (arith, e);
}

one_left : (x : FlowItem) (r : Result Item Reason) → IfOk r (IsSame x.item) → IsLeft x (left_by x r).passed
one_left x (Ok i) h = h
one_left x (Err r) h = tt

alone_plain : (s : FlowItem → Result Item Reason) → ((x : FlowItem) → IfOk (s x) (IsSame x.item)) → IsPlain (alone s)
alone_plain s h = record { on_item = λ before x. one_left x (s x) (h x); at_end = λ all n. refl }

on_ip4_same : (i : Item) (does : Layer → Result Item Reason) → ((l : Layer) → IfOk (does l) (IsSame i)) → (o : Option Layer) → IfOk (on_ip4 i does o) (IsSame i)
on_ip4_same i does h None = (refl, refl)
on_ip4_same i does h (Some l) = h l

on_tuple_same : (i : Item) (does : Tuple → Result Item Reason) → ((t : Tuple) → IfOk (does t) (IsSame i)) → (o : Option Tuple) → IfOk (on_tuple i does o) (IsSame i)
on_tuple_same i does h None = (refl, refl)
on_tuple_same i does h (Some t) = h t

err_or : (b : Bool) (r : Reason) (i k : Item) → IsSame i k → IfOk (if b then Err r else Ok k) (IsSame i)
err_or true r i k h = tt
err_or false r i k h = h

ok_or : (b : Bool) (r : Reason) (i k : Item) → IsSame i k → IfOk (if b then Ok k else Err r) (IsSame i)
ok_or true r i k h = h
ok_or false r i k h = tt

ttl_same : (i : Item) → IfOk (ttl_stage i) (IsSame i)
ttl_same i = on_ip4_same i (ttl_at i) (λ l. err_or _ Ttl i _ (refl, refl)) (ip4_layer i.frame)

route_same : (mac : List ℕ) (rows : List Route) (i : Item) → IfOk (route_stage mac rows i) (IsSame i)
route_same mac rows i = on_tuple_same i (λ t. routed_by mac i (row_for rows t.dst)) (λ t. by (row_for rows t.dst)) (tuple_of i.frame) where
  on : (via : List ℕ) (r : Result Item Reason) → IfOk r (IsSame i) → IfOk (forwarded mac via r) (IsSame i)
  on via (Ok k) h = h
  on via (Err r) h = tt

  by : (o : Option Route) → IfOk (routed_by mac i o) (IsSame i)
  by None = tt
  by (Some row) = on row.via (ttl_stage i) (ttl_same i)

rank_same : (plan : NatPlan) (o : Option ℕ) (first : Ends) (dir : Direction) (i : Item) → IfOk (by_rank plan o first dir i) (IsSame i)
rank_same plan None first dir i = (refl, refl)
rank_same plan (Some rank) first dir i = err_or (nat_le plan.ports rank) _ i _ (refl, refl)

scan_left : (found : Bool) (x : FlowItem) (o : Option StreamSegment) → IsLeft x (scanned found x o).passed
scan_left found x None = (refl, refl)
scan_left true x (Some s) = tt
scan_left false x (Some s) = (refl, refl)

pub parsed_plain : IsPlain (item_stage parsed_stage)
parsed_plain = alone_plain (λ x. parsed_stage x.item) (λ x. err_or _ Unparsed x.item x.item (refl, refl))

no_window : true ≡ false → ⊥
no_window e = cc

pub stage_plain : (nat : Option NatPlan) (flow : Flow) (s : chains.Stage) → is_window s ≡ false → IsPlain (stage_of nat flow s)
stage_plain nat flow chains.Ttl e = alone_plain _ (λ x. ttl_same x.item)
stage_plain nat flow (chains.SetTos value) e = alone_plain _ (λ x. on_ip4_same x.item _ (λ l. (refl, refl)) (ip4_layer x.item.frame))
stage_plain nat flow (chains.Only wanted) e = alone_plain _ (λ x. on_tuple_same x.item _ (λ t. ok_or (meets_tuple wanted t) Filter x.item x.item (refl, refl)) (tuple_of x.item.frame))
stage_plain nat flow (chains.Firewall default established rules) e = record { on_item = λ before x. one_left x _ (ok_or _ _ x.item x.item (refl, refl)); at_end = λ all n. refl }
stage_plain nat flow (chains.Route mac rows) e = alone_plain _ (λ x. route_same mac rows x.item)
stage_plain None flow chains.Nat e = alone_plain (λ x. Ok x.item) (λ x. let same : IsSame x.item x.item = (refl, refl) in same)
stage_plain (Some plan) flow chains.Nat e = alone_plain _ (λ x. rank_same plan flow.rank flow.first x.dir x.item)
stage_plain nat flow (chains.Balance backends changes) e = alone_plain _ (λ x. on_tuple_same x.item _ (λ t. (refl, refl)) (tuple_of x.item.frame))
stage_plain nat flow (chains.Window size reach) e = absurd (no_window e)
stage_plain nat flow (chains.Scan text reach) e = record { on_item = λ before x. scan_left (is_found text reach (before ++ x ∷ [])) x (segment_of x.item); at_end = λ all n. refl }

-- WINDOWS

module _ (a j : ℕ) where
  windows_weigh : (size : ℕ) (r : Reassembly) (d : Direction) (m : spec.Template) (b k i n : ℕ) → total (weight (hit a j)) (windows_from size r d m b k i n) ≤ up_from a j b k
  windows_weigh size r d m b k i zero = omega arith
  windows_weigh size r d m b k i (suc n) = omega (arith, windows_weigh size r d m b (suc k) (suc i) n, hit_and_behind a j b k)

  left_weigh : (size reach : ℕ) (before : List FlowItem) (x : FlowItem) → total (weight (hit a j)) (windows_left size reach before x) ≤ up_from a j x.item.a 1
  left_weigh size reach before x = by (spec.template_of x.item) where
    makes : spec.Template → List FlowItem
    makes m = triggered size (ready_in reach x.dir before) (stream_of reach x.dir (before ++ x ∷ [])) x.dir x.item.a m

    by : (o : Option spec.Template) → total (weight (hit a j)) (flat_map makes (option_to_list o)) ≤ up_from a j x.item.a 1
    by None = omega arith
    by (Some m) =
        let r : Reassembly = stream_of reach x.dir (before ++ x ∷ []) in
        omega (arith, total_both (weight (hit a j)) (makes m) [], windows_weigh size r x.dir m x.item.a 1 (ready_in reach x.dir before / size) (ready_of r.payloads / size - ready_in reach x.dir before / size))

  own_weighs : (x : FlowItem) (marked : Bool) → total (weight (hit a j)) (own_by marked x) ≤ hit a j x.item.a x.item.j
  own_weighs x false = omega arith
  own_weighs x true = by (spec.bare_frame x.item.frame) where
    by : (o : Option (List ℕ)) → total (weight (hit a j)) (map (λ (i : Item). record { dir = x.dir; item = i }) (option_to_list (option_map (λ frame. record x.item { original = length frame; frame = frame }) o))) ≤ hit a j x.item.a x.item.j
    by None = omega arith
    by (Some frame) = omega arith

  told_weighs : (size reach : ℕ) (before : List FlowItem) (x : FlowItem) (o : Option Layer) → total (weight (hit a j)) (told_at size reach before x o).passed ≤ early a x.item.a x.item.j
  told_weighs size reach before x None = omega (arith, hit_early a j x.item.a x.item.j)
  told_weighs size reach before x (Some t) = by (is_empty (payload_in x.item.frame t)) (counts reach (stream_of reach x.dir before) (segment_at x.item.frame t)) where
    counted : FlowOutput
    counted = record { passed = own_left x t ++ windows_left size reach before x; dropped = [] }

    by : (b c : Bool) → total (weight (hit a j)) (if b then left_by x (Ok x.item) else (if c then counted else left_by x (Err Reach))).passed ≤ early a x.item.a x.item.j
    by true c = omega (arith, hit_early a j x.item.a x.item.j)
    by false true = omega (
      arith,
      total_both (weight (hit a j)) (own_left x t) (windows_left size reach before x),
      own_weighs x (is_marked (header_in x.item.frame t)),
      left_weigh size reach before x,
      hit_and_windows a j x.item.a x.item.j,
    )
    by false false = omega arith

  rest_weighs : (size reach : ℕ) (d : Direction) (b k : ℕ) (items : List FlowItem) → total (weight (hit a j)) (rest_in size reach d b k items) ≤ hit a j b k
  rest_weighs size reach d b k items = by (last_template reach d items) where
    makes : spec.Template → List FlowItem
    makes m = rest_of size (stream_of reach d items) d b k m

    one : (m : spec.Template) (e : Bool) (y : FlowItem) → (y.item.a ≡ b) × (y.item.j ≡ k) → total (weight (hit a j)) ((if e then [] else y ∷ []) ++ []) ≤ hit a j b k
    one m true y h = omega arith
    one m false y (f, g) = let same : hit a j y.item.a y.item.j ≡ hit a j b k = (λ i. hit a j (f i) (g i)) in omega (arith, same)

    by : (o : Option spec.Template) → total (weight (hit a j)) (flat_map makes (option_to_list o)) ≤ hit a j b k
    by None = omega arith
    by (Some m) = let r = stream_of reach d items in one m (nat_eq (ready_of r.payloads % size) 0) (emitted_from r d m b k (ready_of r.payloads - ready_of r.payloads % size) (ready_of r.payloads % size)) (refl, refl)

  -- at the end of a flow a rest has this number
  abbrev pub rest : Flow → ℕ → ℕ
  rest flow n = cond (nat_eq (n + flow.number) a) 1 0

  window_bounds : (size reach n : ℕ) (flow : Flow) → Bounds (early a) (hit a j) n (rest flow n) (window_stage size reach flow)
  unfolding window_told window_rest
  window_bounds size reach n flow = record {
    on_item = λ before x. told_weighs size reach before x (tcp_layer x.item.frame);
    at_end = λ items.
        omega (
          arith,
          total_both (weight (hit a j)) (rest_in size reach Forward (n + flow.number) 0 items) (rest_in size reach Reversed (n + flow.number) 1 items),
          rest_weighs size reach Forward (n + flow.number) 0 items,
          rest_weighs size reach Reversed (n + flow.number) 1 items,
          two_hits a j (n + flow.number),
        );
  }

  pub stage_turns : (nat : Option NatPlan) (flow : Flow) (n : ℕ) (s : chains.Stage) → is_window s ≡ true → Bounds (early a) (hit a j) n (rest flow n) (stage_of nat flow s)
  stage_turns nat flow n (chains.Window size reach) e = window_bounds size reach n flow
  stage_turns nat flow n chains.Ttl e = absurd (no_window (sym e))
  stage_turns nat flow n (chains.SetTos value) e = absurd (no_window (sym e))
  stage_turns nat flow n (chains.Only wanted) e = absurd (no_window (sym e))
  stage_turns nat flow n (chains.Firewall default established rules) e = absurd (no_window (sym e))
  stage_turns nat flow n (chains.Route mac rows) e = absurd (no_window (sym e))
  stage_turns nat flow n chains.Nat e = absurd (no_window (sym e))
  stage_turns nat flow n (chains.Balance backends changes) e = absurd (no_window (sym e))
  stage_turns nat flow n (chains.Scan text reach) e = absurd (no_window (sym e))
