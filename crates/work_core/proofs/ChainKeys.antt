-- Each stage of a chain keeps keys.
use Rattle.std.proofs.Common.{◌≡◌, ℕ, zero, suc, ◌+◌, ◌-◌, ◌/◌, ◌%◌, Bool, true, false, nat_eq, nat_le, List, [], ◌∷◌, ◌++◌, map, Option, Some, None, Result, Ok, Err, refl, ap, ◌∙◌, if◌then◌else◌, IfOk}
use Rattle.std.specs.Prelude.{length, flat_map, option_map}
use Rattle.std.specs.List.{AllByRecursion}
use Rattle.std.specs.Option.{option_to_list}
use Rattle.brick_spec.specs.AddressTranslation.{by_rank}
use Rattle.brick_spec.specs.Flow.{Flow, Direction, Forward, Reversed, Ends}
use Rattle.brick_spec.specs.FlowClass.{NatPlan}
use Rattle.brick_spec.specs.FlowStage.{FlowItem, FlowStage, FlowOutput, left_by, alone}
use Rattle.brick_spec.specs.Item.{Item}
use Rattle.brick_spec.specs.Layer.{Layer, header_in, payload_in, tcp_layer, ip4_layer}
use Rattle.brick_spec.specs.Match.{meets_tuple}
use Rattle.brick_spec.specs.PacketizedWindow as spec
use Rattle.brick_spec.specs.Route.{Route}
use Rattle.brick_spec.specs.Stage.{Reason, Reach, Unparsed, Ttl, Filter, ttl_at, ttl_stage, parsed_stage, on_ip4, on_tuple}
use Rattle.brick_spec.specs.Stream.{Reassembly, StreamSegment, ready_of, counts, is_empty}
use Rattle.brick_spec.specs.Tuple.{Tuple, tuple_of}
use Rattle.flow_spec.specs.FlowStream.{segment_at, segment_of, stream_of, ready_in}
use Rattle.flow_spec.specs.Plan.{LeafPlan, GroupPlan}
use Rattle.flow_spec.specs.Routing.{forwarded, routed_by, route_stage, row_for}
use Rattle.flow_spec.specs.Scan.{scanned, is_found}
use Rattle.flow_spec.specs.Window.{windows_from, triggered, rest_of, emitted_from, is_marked, own_by, own_left, windows_left, told_at, window_told, rest_in, window_rest, last_template, window_stage}
use Rattle.chain_spec.specs.ChainSet as chains
use Rattle.tenant_spec.specs.ChainPlan.{stage_of, row_of, before_stages, leaf_plan, below_plan, group_plan, plan_of}
use Rattle.flow_work.specs.Keys.{Keeps, RowKeeps, BelowKeeps}
use Rattle.flow_work.proofs.Keys.{plan_owns}
use Rattle.work_core.specs.Keys.{ChainsOwnKeys}

abbrev HasKey : ℕ → FlowItem → Type 0
HasKey a x = x.item.a ≡ a

-- what passes of an item has the first part of its key, and what is added at the end that of the flow's own key
record KeepsKeys (flow : Flow) (s : FlowStage) : Type 0 where
  on_item : (before : List FlowItem) (x : FlowItem) → AllByRecursion (HasKey x.item.a) (s.on_item before x).passed
  at_end : (all : List FlowItem) (n : ℕ) → AllByRecursion (HasKey (n + flow.number)) (s.at_end all n).passed

all_then : {X : Type 0} (P Q : X → Type 0) → ((x : X) → P x → Q x) → (xs : List X) → AllByRecursion P xs → AllByRecursion Q xs
all_then P Q k [] h = tt
all_then P Q k (x ∷ xs) (h, hs) = (k x h, all_then P Q k xs hs)

all_both : {X : Type 0} (P : X → Type 0) (xs ys : List X) → AllByRecursion P xs → AllByRecursion P ys → AllByRecursion P (xs ++ ys)
all_both P [] ys h k = k
all_both P (x ∷ xs) ys (h, hs) k = (h, all_both P xs ys hs k)

all_mapped : {X Y : Type 0} (P : Y → Type 0) (f : X → Y) → ((x : X) → P (f x)) → (xs : List X) → AllByRecursion P (map f xs)
all_mapped P f h [] = tt
all_mapped P f h (x ∷ xs) = (h x, all_mapped P f h xs)

-- ITEM BY ITEM

left_keeps : (x : FlowItem) (r : Result Item Reason) → IfOk r (λ i. i.a ≡ x.item.a) → AllByRecursion (HasKey x.item.a) (left_by x r).passed
left_keeps x (Ok i) h = (h, tt)
left_keeps x (Err r) h = tt

alone_keeps : (flow : Flow) (s : FlowItem → Result Item Reason) → ((x : FlowItem) → IfOk (s x) (λ i. i.a ≡ x.item.a)) → KeepsKeys flow (alone s)
alone_keeps flow s h = record { on_item = λ before x. left_keeps x (s x) (h x); at_end = λ all n. tt }

ip4_keeps : (i : Item) (does : Layer → Result Item Reason) → ((l : Layer) → IfOk (does l) (λ j. j.a ≡ i.a)) → (o : Option Layer) → IfOk (on_ip4 i does o) (λ j. j.a ≡ i.a)
ip4_keeps i does h None = refl
ip4_keeps i does h (Some l) = h l

tuple_keeps : (i : Item) (does : Tuple → Result Item Reason) → ((t : Tuple) → IfOk (does t) (λ j. j.a ≡ i.a)) → (o : Option Tuple) → IfOk (on_tuple i does o) (λ j. j.a ≡ i.a)
tuple_keeps i does h None = refl
tuple_keeps i does h (Some t) = h t

err_or : (b : Bool) (r : Reason) (i j : Item) → j.a ≡ i.a → IfOk (if b then Err r else Ok j) (λ k. k.a ≡ i.a)
err_or true r i j e = tt
err_or false r i j e = e

ok_or : (b : Bool) (r : Reason) (i j : Item) → j.a ≡ i.a → IfOk (if b then Ok j else Err r) (λ k. k.a ≡ i.a)
ok_or true r i j e = e
ok_or false r i j e = tt

ttl_keeps : (i : Item) → IfOk (ttl_stage i) (λ j. j.a ≡ i.a)
ttl_keeps i = ip4_keeps i (ttl_at i) (λ l. err_or _ Ttl i _ refl) (ip4_layer i.frame)

route_keeps : (mac : List ℕ) (rows : List Route) (i : Item) → IfOk (route_stage mac rows i) (λ j. j.a ≡ i.a)
route_keeps mac rows i = tuple_keeps i (λ t. routed_by mac i (row_for rows t.dst)) (λ t. by (row_for rows t.dst)) (tuple_of i.frame) where
  on : (via : List ℕ) (r : Result Item Reason) → IfOk r (λ j. j.a ≡ i.a) → IfOk (forwarded mac via r) (λ j. j.a ≡ i.a)
  on via (Ok j) h = h
  on via (Err r) h = tt

  by : (o : Option Route) → IfOk (routed_by mac i o) (λ j. j.a ≡ i.a)
  by None = tt
  by (Some row) = on row.via (ttl_stage i) (ttl_keeps i)

rank_keeps : (plan : NatPlan) (o : Option ℕ) (first : Ends) (dir : Direction) (i : Item) → IfOk (by_rank plan o first dir i) (λ j. j.a ≡ i.a)
rank_keeps plan None first dir i = refl
rank_keeps plan (Some rank) first dir i = err_or (nat_le plan.ports rank) _ i _ refl

-- WINDOWS

windows_have : (size : ℕ) (r : Reassembly) (d : Direction) (m : spec.Template) (a j i n : ℕ) → AllByRecursion (HasKey a) (windows_from size r d m a j i n)
windows_have size r d m a j i zero = tt
windows_have size r d m a j i (suc n) = (refl, windows_have size r d m a (suc j) (suc i) n)

left_have : (size reach : ℕ) (before : List FlowItem) (x : FlowItem) → AllByRecursion (HasKey x.item.a) (windows_left size reach before x)
left_have size reach before x = by (spec.template_of x.item) where
  makes : spec.Template → List FlowItem
  makes m = triggered size (ready_in reach x.dir before) (stream_of reach x.dir (before ++ x ∷ [])) x.dir x.item.a m

  by : (o : Option spec.Template) → AllByRecursion (HasKey x.item.a) (flat_map makes (option_to_list o))
  by None = tt
  by (Some m) = all_both (HasKey x.item.a) (makes m) [] (windows_have size (stream_of reach x.dir (before ++ x ∷ [])) x.dir m x.item.a 1 (ready_in reach x.dir before / size) (ready_of (stream_of reach x.dir (before ++ x ∷ [])).payloads / size - ready_in reach x.dir before / size)) tt

own_has : (x : FlowItem) (marked : Bool) → AllByRecursion (HasKey x.item.a) (own_by marked x)
own_has x false = tt
own_has x true = by (spec.bare_frame x.item.frame) where
  by : (o : Option (List ℕ)) → AllByRecursion (HasKey x.item.a) (map (λ (i : Item). record { dir = x.dir; item = i }) (option_to_list (option_map (λ frame. record x.item { original = length frame; frame = frame }) o)))
  by None = tt
  by (Some frame) = (refl, tt)

told_has : (size reach : ℕ) (before : List FlowItem) (x : FlowItem) (o : Option Layer) → AllByRecursion (HasKey x.item.a) (told_at size reach before x o).passed
told_has size reach before x None = (refl, tt)
told_has size reach before x (Some t) = by (is_empty (payload_in x.item.frame t)) (counts reach (stream_of reach x.dir before) (segment_at x.item.frame t)) where
  counted : FlowOutput
  counted = record { passed = own_left x t ++ windows_left size reach before x; dropped = [] }

  by : (a b : Bool) → AllByRecursion (HasKey x.item.a) (if a then left_by x (Ok x.item) else (if b then counted else left_by x (Err Reach))).passed
  by true b = (refl, tt)
  by false true = all_both (HasKey x.item.a) (own_left x t) (windows_left size reach before x) (own_has x (is_marked (header_in x.item.frame t))) (left_have size reach before x)
  by false false = tt

rest_has : (size reach : ℕ) (d : Direction) (a j : ℕ) (items : List FlowItem) → AllByRecursion (HasKey a) (rest_in size reach d a j items)
rest_has size reach d a j items = by (last_template reach d items) where
  makes : spec.Template → List FlowItem
  makes m = rest_of size (stream_of reach d items) d a j m

  one : (m : spec.Template) (b : Bool) (y : FlowItem) → y.item.a ≡ a → AllByRecursion (HasKey a) ((if b then [] else y ∷ []) ++ [])
  one m true y ha = tt
  one m false y ha = (ha, tt)

  by : (o : Option spec.Template) → AllByRecursion (HasKey a) (flat_map makes (option_to_list o))
  by None = tt
  by (Some m) = let r = stream_of reach d items in one m (nat_eq (ready_of r.payloads % size) 0) (emitted_from r d m a j (ready_of r.payloads - ready_of r.payloads % size) (ready_of r.payloads % size)) refl

window_keeps : (size reach : ℕ) (flow : Flow) → KeepsKeys flow (window_stage size reach flow)
unfolding window_told window_rest
window_keeps size reach flow = record {
  on_item = λ before x. told_has size reach before x (tcp_layer x.item.frame);
  at_end = λ items n. all_both (HasKey (n + flow.number)) (rest_in size reach Forward (n + flow.number) 0 items) (rest_in size reach Reversed (n + flow.number) 1 items)
      (rest_has size reach Forward (n + flow.number) 0 items) (rest_has size reach Reversed (n + flow.number) 1 items);
}

scan_has : (found : Bool) (x : FlowItem) (o : Option StreamSegment) → AllByRecursion (HasKey x.item.a) (scanned found x o).passed
scan_has found x None = (refl, tt)
scan_has true x (Some s) = tt
scan_has false x (Some s) = (refl, tt)

-- STAGE BY STAGE

stage_keeps : (nat : Option NatPlan) (flow : Flow) (s : chains.Stage) → KeepsKeys flow (stage_of nat flow s)
stage_keeps nat flow chains.Ttl = alone_keeps flow _ (λ x. ttl_keeps x.item)
stage_keeps nat flow (chains.SetTos value) = alone_keeps flow _ (λ x. ip4_keeps x.item _ (λ l. refl) (ip4_layer x.item.frame))
stage_keeps nat flow (chains.Only wanted) = alone_keeps flow _ (λ x. tuple_keeps x.item _ (λ t. ok_or (meets_tuple wanted t) Filter x.item x.item refl) (tuple_of x.item.frame))
stage_keeps nat flow (chains.Firewall default established rules) = record { on_item = λ before x. left_keeps x _ (ok_or _ _ x.item x.item refl); at_end = λ all n. tt }
stage_keeps nat flow (chains.Route mac rows) = alone_keeps flow _ (λ x. route_keeps mac rows x.item)
stage_keeps None flow chains.Nat = alone_keeps flow (λ x. Ok x.item) (λ x. let e : x.item.a ≡ x.item.a = refl in e)
stage_keeps (Some plan) flow chains.Nat = alone_keeps flow _ (λ x. rank_keeps plan flow.rank flow.first x.dir x.item)
stage_keeps nat flow (chains.Balance backends changes) = alone_keeps flow _ (λ x. tuple_keeps x.item _ (λ t. refl) (tuple_of x.item.frame))
stage_keeps nat flow (chains.Window size reach) = window_keeps size reach flow
stage_keeps nat flow (chains.Scan text reach) = record { on_item = λ before x. scan_has (is_found text reach (before ++ x ∷ [])) x (segment_of x.item); at_end = λ all n. tt }

keeps_of : (flow : Flow) (s : FlowStage) → KeepsKeys flow s → (owner : ℕ → ℕ) (n : ℕ) → owner (n + flow.number) ≡ flow.number → Keeps (λ x. owner x.item.a ≡ flow.number) n s
keeps_of flow s k owner n ends = record {
  on_item = λ before x p. all_then (HasKey x.item.a) (λ y. owner y.item.a ≡ flow.number) (λ y e. ap owner e ∙ p) (s.on_item before x).passed (k.on_item before x);
  at_end = λ all. all_then (HasKey (n + flow.number)) (λ y. owner y.item.a ≡ flow.number) (λ y e. ap owner e ∙ ends) (s.at_end all n).passed (k.at_end all n);
}

row_keeps : (nat : Option NatPlan) (stages : List chains.Stage) → RowKeeps (row_of nat stages)
row_keeps nat stages owner f n ends = all_mapped (Keeps (λ x. owner x.item.a ≡ f.number) n) (stage_of nat f) (λ s. keeps_of f (stage_of nat f s) (stage_keeps nat f s) owner n ends) stages

-- the stage that drops frames of class Other
parsed_keeps : (flow : Flow) (u : chains.Unparsed) (owner : ℕ → ℕ) (n : ℕ) → owner (n + flow.number) ≡ flow.number → AllByRecursion (Keeps (λ x. owner x.item.a ≡ flow.number) n) (before_stages u)
parsed_keeps flow chains.UnparsedPass owner n ends = tt
parsed_keeps flow chains.UnparsedDrop owner n ends = (keeps_of flow _ (alone_keeps flow (λ x. parsed_stage x.item) (λ x. err_or _ Unparsed x.item x.item refl)) owner n ends, tt)

below_keeps : (nat : Option NatPlan) (b : chains.Below) → BelowKeeps (below_plan nat b)
below_keeps nat (chains.Output o) = tt
below_keeps nat (chains.Inner leaves) = all_mapped (λ (l : LeafPlan). RowKeeps l.row) (leaf_plan nat) (λ l. row_keeps nat l.stages) leaves

pub chains_own : ChainsOwnKeys
chains_own chain = plan_owns (plan_of chain) (
  λ owner f n ends. all_both _ (before_stages chain.unparsed) (row_of chain.nat chain.stages f) (parsed_keeps f chain.unparsed owner n ends) (row_keeps chain.nat chain.stages owner f n ends),
  all_mapped (λ (g : GroupPlan). RowKeeps g.row × BelowKeeps g.below) (group_plan chain.nat) (λ g. (row_keeps chain.nat g.stages, below_keeps chain.nat g.below)) chain.groups,
)
