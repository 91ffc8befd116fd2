-- How many stages, groups and groups in a group each chain of an accepted chain file has, and how long its Ethernet addresses are.
use Rattle.std.proofs.Common.{◌≡◌, ℕ, ◌+◌, ◌≤◌, Bool, true, false, ◌&&◌, cond, List, [], ◌∷◌, ◌++◌, length, map, nat_eq, nat_le, Option, Some, None, is_some, refl, ap, subst, arith, codes}
use Rattle.std.proofs.lemmas.Bool.Decides.{nat_tests}
use Rattle.std.proofs.lemmas.Bool.{and_parts}
use Rattle.std.proofs.lemmas.List.{length-append, length-map}
use Rattle.std.specs.Prelude.{Ok, Err, ◌==◌, if◌then◌else◌}
use Rattle.std.specs.List.{AllByRecursion, slice_split, flat_map}
use Rattle.toml.specs.Data.{Data, Items, no_items, item, Members, get_member, as_array}
use Rattle.brick_spec.specs.Route as routes
use Rattle.flow_spec.specs.Balancing.{Backend, Change}
use Rattle.chain_spec.specs.ChainText as texts
use Rattle.chain_spec.specs.ChainText.{mac_of, hex_pairs, any_prefix_of}
use Rattle.chain_spec.specs.ChainFault.{ChainFault, Range, ◌>>=◌, or_fault}
use Rattle.chain_spec.specs.ChainSet.{Stage, Leaf, Below, Output, Inner, Group, Chain, NamedLeaf, NamedBelow, Into, Within, NamedGroup, chain_of, leaf_with, below_with, group_with, outputs_of}
use Rattle.chain_spec.specs.ChainSet as chains
use Rattle.chain_spec.specs.Fields.{each_after, required, text_in, table_in, array_in, written_in, known, number_in, word_from, truth_or_false, bytes_in, name_in, count}
use Rattle.chain_spec.specs.StageWalk.{Kind, TtlKind, SetTosKind, OnlyKind, FirewallKind, RouteKind, NatKind, BalanceKind, WindowKind, ScanKind, kind_of, stage_row, stage_values, stage_at, stages_at, match_in, match_at, verdict_of, rules_at, reach_at, set_tos_values, only_values, firewall_values, route_row, route_values, route_at, sound_rows, routes_in, route_stage_values, backend_row, backend_values, backend_at, backends_in, epoch_row, last_begin, epoch_values, epoch_at, epochs_at, balance_values, window_values, scan_values}
use Rattle.chain_spec.specs.ChainWalk.{leaf_row, leaf_values, leaf_at, leaves_in, group_row, below_at, group_values, group_at, most_groups, groups_in, into_or, tenant_at, tenant_values, tenant_row, tenant_name, tenant_capture, tenant_stages, tenant_groups, settings_in, nat_at}
use Rattle.chain_laws.specs.Accepted.{IsAccepted, stages_below, all_stages}
use Rattle.chain_laws.specs.Right.{HaveMacs, HasMacs}
use Rattle.chain_laws.proofs.Walk.{Read, ok_then, same_ok, fits_same, accepted_is}

-- at most 32 stages
abbrev pub IsRow : List Stage → Type 0
IsRow stages = (length stages ≤ 32) × AllByRecursion HasMacs stages

-- one output, or 1 to 4 groups
abbrev pub IsSizedBelow : Below → Type 0
IsSizedBelow (Output o) = Unit {0}
IsSizedBelow (Inner leaves) = (1 ≤ length leaves) × (length leaves ≤ 4) × AllByRecursion (λ (l : Leaf). IsRow l.stages) leaves

-- 1 to 16 groups
pub record IsSized (chain : Chain) : Type 0 where
  pub stages : IsRow chain.stages
  pub some : 1 ≤ length chain.groups
  pub few : length chain.groups ≤ 16
  pub groups : AllByRecursion (λ (g : Group). IsRow g.stages × IsSizedBelow g.below) chain.groups

-- ARRAYS

le_from : (m n : ℕ) → nat_le m n ≡ true → m ≤ n
le_from m n e = grind (arith, nat_tests)

pub if_ok : {A : Type 0} (b : Bool) (x y : A) (f : ChainFault) → ◌≡◌ {A = Read A} (cond b (Ok x) (Err f)) (Ok y) → (b ≡ true) × (x ≡ y)
if_ok true x y f e = (refl, same_ok x y e)
if_ok false x y f e = cc

array_sized : (place : ℕ) (key : List ℕ) (low high : ℕ) (d : Data) (ds : Items) → array_in place key low high d ≡ Ok ds → (low ≤ count ds) × (count ds ≤ high)
unfolding array_in
array_sized place key low high d ds e =
    let a = ok_then (or_fault (Range place key) (as_array d)) _ ds e in
    let b = if_ok (nat_le low (count a.0) && nat_le (count a.0) high) a.0 ds (Range place key) a.2 in
    let t = and_parts (nat_le low (count a.0)) (nat_le (count a.0) high) b.0 in
    subst (λ (xs : Items). (low ≤ count xs) × (count xs ≤ high)) b.1 (le_from low (count a.0) t.0, le_from (count a.0) high t.1)

all_more : {A : Type 0} (P : A → Type 0) (xs : List A) (x : A) → AllByRecursion P xs → P x → AllByRecursion P (xs ++ x ∷ [])
all_more P [] x h k = (k, tt)
all_more P (y ∷ ys) x (h, hs) k = (h, all_more P ys x hs k)

module _ {A : Type 0} (P : A → Type 0) (step : List A → Data → Read A) (one : (before : List A) (d : Data) (x : A) → step before d ≡ Ok x → P x) where
  each_is : (before : List A) (ds : Items) (xs : List A) → AllByRecursion P before → each_after step before ds ≡ Ok xs → AllByRecursion P xs × (length xs ≡ length before + count ds)
  unfolding each_after
  each_is before no_items xs h e =
      subst (λ (ys : List A). AllByRecursion P ys × (length ys ≡ length before + 0)) (same_ok before xs e) (h, omega arith)
  each_is before (item d ds) xs h e =
      let r = ok_then (step before d) (λ x. each_after step (before ++ x ∷ []) ds) xs e in
      let next = each_is (before ++ r.0 ∷ []) ds xs (all_more P before r.0 h (one before d r.0 r.1)) r.2 in
      (next.0, omega (arith, next.1, length-append before (r.0 ∷ [])))

  pub array_is : (place : ℕ) (key : List ℕ) (low high : ℕ) (d : Data) (xs : List A) → (array_in place key low high d >>= each_after step []) ≡ Ok xs → AllByRecursion P xs × (low ≤ length xs) × (length xs ≤ high)
  array_is place key low high d xs e =
      let a = ok_then (array_in place key low high d) (each_after step []) xs e in
      let sized = array_sized place key low high d a.0 a.1 in
      let all = each_is [] a.0 xs tt a.2 in
      (all.0, omega (arith, all.1, sized.0), omega (arith, all.1, sized.1))

-- ETHERNET ADDRESSES

six : (bytes mac : List ℕ) (b : Bool) → length bytes == 6 ≡ b → cond b (Some bytes) None ≡ Some mac → length mac ≡ 6
six bytes mac true t e = subst (λ (xs : List ℕ). length xs ≡ 6) (same bytes mac e) (is_six (length bytes) t) where
  is_six : (n : ℕ) → nat_eq n 6 ≡ true → n ≡ 6
  is_six n t = grind (arith, nat_tests)

  same : (xs ys : List ℕ) → ◌≡◌ {A = Option (List ℕ)} (Some xs) (Some ys) → xs ≡ ys
  same xs ys e = cc
six bytes mac false t e = cc

mac_six : (o : Option (List ℕ)) (mac : List ℕ) → texts.◌>>=◌ o (λ bytes. if length bytes == 6 then Some bytes else None) ≡ Some mac → length mac ≡ 6
mac_six None mac e = cc
mac_six (Some bytes) mac e = six bytes mac (length bytes == 6) refl e

given : (f : ChainFault) (o : Option (List ℕ)) (x : List ℕ) → or_fault f o ≡ Ok x → o ≡ Some x
given f None x e = cc
given f (Some y) x e = ap (λ (z : List ℕ). Some z) (same_ok y x e)

mac_written : (place : ℕ) (key : List ℕ) (d : Data) (mac : List ℕ) → written_in mac_of place key d ≡ Ok mac → length mac ≡ 6
unfolding written_in
mac_written place key d mac e =
    let t = ok_then (text_in place key d) _ mac e in
    mac_six (hex_pairs (slice_split (λ c. c == 58) t.0)) mac (given (Range place key) (mac_of t.0) mac t.2)

route_via : (place : ℕ) (before : List routes.Route) (d : Data) (r : routes.Route) → route_at place before d ≡ Ok r → length r.via ≡ 6
unfolding route_at route_values
route_via place before d r e =
    let a = ok_then (table_in place (codes "route") d) (route_values place) r e in
    let b = ok_then (known place route_row a.0) _ r a.2 in
    let t = ok_then (required place (codes "to") a.0) _ r b.2 in
    let p = ok_then (written_in any_prefix_of place (codes "to") t.0) _ r t.2 in
    let v = ok_then (required place (codes "via") a.0) _ r p.2 in
    let m = ok_then (written_in mac_of place (codes "via") v.0) _ r v.2 in
    let same : record { to = p.0; via = m.0 } ≡ r = same_ok (record { to = p.0; via = m.0 }) r m.2 in
    subst (λ (x : routes.Route). length x.via ≡ 6) same (mac_written place (codes "via") v.0 m.0 m.1)

backend_mac : (place : ℕ) (before : List Backend) (d : Data) (b : Backend) → backend_at place before d ≡ Ok b → length b.mac ≡ 6
unfolding backend_at backend_values
backend_mac place before d b e =
    let a = ok_then (table_in place (codes "backend") d) (backend_values place before) b e in
    let k = ok_then (known place backend_row a.0) _ b a.2 in
    let n = ok_then (required place (codes "name") a.0) _ b k.2 in
    let name = ok_then (name_in place (codes "name") (map (λ (x : Backend). x.name) before) n.0) _ b n.2 in
    let m = ok_then (required place (codes "mac") a.0) _ b name.2 in
    let mac = ok_then (written_in mac_of place (codes "mac") m.0) _ b m.2 in
    let same : record { name = name.0; mac = mac.0 } ≡ b = same_ok (record { name = name.0; mac = mac.0 }) b mac.2 in
    subst (λ (x : Backend). length x.mac ≡ 6) same (mac_written place (codes "mac") m.0 mac.0 mac.1)

backends_macs : (place : ℕ) (d : Data) (bs : List Backend) → backends_in place d ≡ Ok bs → HaveMacs bs
unfolding backends_in
backends_macs place d bs e = (array_is (λ (b : Backend). length b.mac ≡ 6) (backend_at place) (backend_mac place) place (codes "backend") 1 64 d bs e).0

epoch_macs : (place : ℕ) (before : List Change) (d : Data) (c : Change) → epoch_at place before d ≡ Ok c → HaveMacs c.backends
unfolding epoch_at epoch_values
epoch_macs place before d c e =
    let a = ok_then (table_in place (codes "epoch") d) (epoch_values place before) c e in
    let k = ok_then (known place epoch_row a.0) _ c a.2 in
    let f = ok_then (required place (codes "from") a.0) _ c k.2 in
    let from = ok_then (number_in place (codes "from") (last_begin before + 1) 4294967295 f.0) _ c f.2 in
    let b = ok_then (required place (codes "backend") a.0) _ c from.2 in
    let bs = ok_then (backends_in place b.0) _ c b.2 in
    let same : record { from = from.0; backends = bs.0 } ≡ c = same_ok (record { from = from.0; backends = bs.0 }) c bs.2 in
    subst (λ (x : Change). HaveMacs x.backends) same (backends_macs place b.0 bs.0 bs.1)

epochs_macs : (place : ℕ) (o : Option Data) (cs : List Change) → epochs_at place o ≡ Ok cs → AllByRecursion (λ (c : Change). HaveMacs c.backends) cs
unfolding epochs_at
epochs_macs place None cs e = subst (AllByRecursion (λ (c : Change). HaveMacs c.backends)) (same_ok [] cs e) tt
epochs_macs place (Some d) cs e = (array_is (λ (c : Change). HaveMacs c.backends) (epoch_at place) (epoch_macs place) place (codes "epoch") 0 15 d cs e).0

-- STAGES

sound_same : (place : ℕ) (rows : List routes.Route) (o : Option routes.RouteFault) (rs : List routes.Route) → sound_rows place rows o ≡ Ok rs → rows ≡ rs
sound_same place rows None rs e = same_ok rows rs e
sound_same place rows (Some f) rs e = cc

routes_via : (place : ℕ) (d : Data) (rows : List routes.Route) → routes_in place d ≡ Ok rows → AllByRecursion (λ (r : routes.Route). length r.via ≡ 6) rows
unfolding routes_in
routes_via place d rows e =
    let ds = ok_then (array_in place (codes "route") 1 4096 d) _ rows e in
    let rs = ok_then (each_after (route_at place) [] ds.0) _ rows ds.2 in
    subst (AllByRecursion (λ (r : routes.Route). length r.via ≡ 6)) (sound_same place rs.0 (routes.first_fault rs.0) rows rs.2)
    (each_is (λ (r : routes.Route). length r.via ≡ 6) (route_at place) (route_via place) [] ds.0 rs.0 tt rs.1).0

route_macs : (place : ℕ) (ms : Members) (s : Stage) → route_stage_values place ms ≡ Ok s → HasMacs s
unfolding route_stage_values
route_macs place ms s e =
    let m = ok_then (required place (codes "mac") ms) _ s e in
    let mac = ok_then (written_in mac_of place (codes "mac") m.0) _ s m.2 in
    let d = ok_then (required place (codes "route") ms) _ s mac.2 in
    let rows = ok_then (routes_in place d.0) _ s d.2 in
    subst HasMacs (same_ok (chains.Route mac.0 rows.0) s rows.2) (mac_written place (codes "mac") m.0 mac.0 mac.1, routes_via place d.0 rows.0 rows.1)

balance_macs : (place : ℕ) (ms : Members) (s : Stage) → balance_values place ms ≡ Ok s → HasMacs s
unfolding balance_values
balance_macs place ms s e =
    let d = ok_then (required place (codes "backend") ms) _ s e in
    let bs = ok_then (backends_in place d.0) _ s d.2 in
    let cs = ok_then (epochs_at place (get_member (codes "epoch") ms)) _ s bs.2 in
    subst HasMacs (same_ok (chains.Balance bs.0 cs.0) s cs.2) (backends_macs place d.0 bs.0 bs.1, epochs_macs place (get_member (codes "epoch") ms) cs.0 cs.1)

tos_macs : (place : ℕ) (ms : Members) (s : Stage) → set_tos_values place ms ≡ Ok s → HasMacs s
unfolding set_tos_values
tos_macs place ms s e =
    let d = ok_then (required place (codes "value") ms) _ s e in
    let tos = ok_then (number_in place (codes "value") 0 255 d.0) _ s d.2 in
    subst HasMacs (same_ok (chains.SetTos tos.0) s tos.2) tt

only_macs : (place : ℕ) (ms : Members) (s : Stage) → only_values place ms ≡ Ok s → HasMacs s
unfolding only_values
only_macs place ms s e =
    let d = ok_then (required place (codes "match") ms) _ s e in
    let wanted = ok_then (match_in place d.0) _ s d.2 in
    subst HasMacs (same_ok (chains.Only wanted.0) s wanted.2) tt

firewall_macs : (place : ℕ) (ms : Members) (s : Stage) → firewall_values place ms ≡ Ok s → HasMacs s
unfolding firewall_values
firewall_macs place ms s e =
    let d = ok_then (required place (codes "default") ms) _ s e in
    let default = ok_then (word_from place (codes "default") verdict_of d.0) _ s d.2 in
    let established = ok_then (truth_or_false place (codes "established") (get_member (codes "established") ms)) _ s default.2 in
    let rules = ok_then (rules_at place (get_member (codes "rule") ms)) _ s established.2 in
    subst HasMacs (same_ok (chains.Firewall default.0 established.0 rules.0) s rules.2) tt

window_macs : (place : ℕ) (ms : Members) (s : Stage) → window_values place ms ≡ Ok s → HasMacs s
unfolding window_values
window_macs place ms s e =
    let d = ok_then (required place (codes "size") ms) _ s e in
    let size = ok_then (number_in place (codes "size") 64 1460 d.0) _ s d.2 in
    let reach = ok_then (reach_at place ms) _ s size.2 in
    subst HasMacs (same_ok (chains.Window size.0 reach.0) s reach.2) tt

scan_macs : (place : ℕ) (ms : Members) (s : Stage) → scan_values place ms ≡ Ok s → HasMacs s
unfolding scan_values
scan_macs place ms s e =
    let d = ok_then (required place (codes "find") ms) _ s e in
    let find = ok_then (bytes_in 1 64 place (codes "find") d.0) _ s d.2 in
    let reach = ok_then (reach_at place ms) _ s find.2 in
    subst HasMacs (same_ok (chains.Scan find.0 reach.0) s reach.2) tt

values_macs : (place : ℕ) (kind : Kind) (ms : Members) (s : Stage) → stage_values place kind ms ≡ Ok s → HasMacs s
unfolding stage_values
values_macs place TtlKind ms s e = subst HasMacs (same_ok chains.Ttl s e) tt
values_macs place SetTosKind ms s e = tos_macs place ms s e
values_macs place OnlyKind ms s e = only_macs place ms s e
values_macs place FirewallKind ms s e = firewall_macs place ms s e
values_macs place RouteKind ms s e = route_macs place ms s e
values_macs place NatKind ms s e = subst HasMacs (same_ok chains.Nat s e) tt
values_macs place BalanceKind ms s e = balance_macs place ms s e
values_macs place WindowKind ms s e = window_macs place ms s e
values_macs place ScanKind ms s e = scan_macs place ms s e

stage_macs : (place : ℕ) (before : List Stage) (d : Data) (s : Stage) → stage_at place before d ≡ Ok s → HasMacs s
unfolding stage_at
stage_macs place before d s e =
    let ms = ok_then (table_in place (codes "stages") d) _ s e in
    let named = ok_then (required place (codes "stage") ms.0) _ s ms.2 in
    let kind = ok_then (word_from place (codes "stage") kind_of named.0) _ s named.2 in
    let k = ok_then (known place (stage_row kind.0) ms.0) _ s kind.2 in
    values_macs place kind.0 ms.0 s k.2

row_sized : (place : ℕ) (o : Option Data) (ss : List Stage) → stages_at place o ≡ Ok ss → IsRow ss
unfolding stages_at
row_sized place None ss e = subst IsRow (same_ok [] ss e) (omega arith, tt)
row_sized place (Some d) ss e = let all = array_is HasMacs (stage_at place) (stage_macs place) place (codes "stages") 0 32 d ss e in (all.2, all.0)

-- GROUPS

abbrev LeafSized : NamedLeaf → Type 0
LeafSized l = IsRow l.stages

values_sized : (place : ℕ) (earlier : List (List ℕ)) (ms : Members) (l : NamedLeaf) → leaf_values place earlier ms ≡ Ok l → LeafSized l
unfolding leaf_values
values_sized place earlier ms l e =
    let named = ok_then (required place (codes "name") ms) _ l e in
    let name = ok_then (name_in place (codes "name") earlier named.0) _ l named.2 in
    let wanted = ok_then (match_at place (get_member (codes "match") ms)) _ l name.2 in
    let stages = ok_then (stages_at place (get_member (codes "stages") ms)) _ l wanted.2 in
    let into = ok_then (into_or place name.0 (get_member (codes "into") ms)) _ l stages.2 in
    let same : record { name = name.0; wanted = wanted.0; stages = stages.0; into = into.0 } ≡ l = same_ok (record { name = name.0; wanted = wanted.0; stages = stages.0; into = into.0 }) l into.2 in
    subst LeafSized same (row_sized place (get_member (codes "stages") ms) stages.0 stages.1)

leaf_sized : (place : ℕ) (before : List NamedLeaf) (d : Data) (l : NamedLeaf) → leaf_at place before d ≡ Ok l → LeafSized l
unfolding leaf_at
leaf_sized place before d l e =
    let ms = ok_then (table_in place (codes "group") d) _ l e in
    let k = ok_then (known place leaf_row ms.0) _ l ms.2 in
    values_sized place (map (λ (x : NamedLeaf). x.name) before) ms.0 l k.2

abbrev BelowSized : NamedBelow → Type 0
BelowSized (Into name) = Unit {0}
BelowSized (Within leaves) = (1 ≤ length leaves) × (length leaves ≤ 4) × AllByRecursion LeafSized leaves

within_sized : (place : ℕ) (d : Data) (leaves : List NamedLeaf) → leaves_in place d ≡ Ok leaves → BelowSized (Within leaves)
unfolding leaves_in
within_sized place d leaves e = let all = array_is LeafSized (leaf_at place) (leaf_sized place) place (codes "group") 1 4 d leaves e in (all.1, all.2, all.0)

below_sized : (place : ℕ) (has_into : Bool) (into : List ℕ) (o : Option Data) (b : NamedBelow) → below_at place has_into into o ≡ Ok b → BelowSized b
below_sized place has_into into None b e = subst BelowSized (same_ok (Into into) b e) tt
below_sized place true into (Some d) b e = cc
below_sized place false into (Some d) b e =
    let ls = ok_then (leaves_in place d) (λ leaves. Ok (Within leaves)) b e in
    subst BelowSized (same_ok (Within ls.0) b ls.2) (within_sized place d ls.0 ls.1)

abbrev GroupSized : NamedGroup → Type 0
GroupSized g = IsRow g.stages × BelowSized g.below

group_sized : (version place : ℕ) (before : List NamedGroup) (d : Data) (g : NamedGroup) → group_at version place before d ≡ Ok g → GroupSized g
unfolding group_at group_values
group_sized version place before d g e =
    let ms = ok_then (table_in place (codes "group") d) (group_values version place before) g e in
    let k = ok_then (known place (group_row version) ms.0) _ g ms.2 in
    let l = ok_then (leaf_values place (map (λ (x : NamedGroup). x.name) before) ms.0) _ g k.2 in
    let b = ok_then (below_at place (is_some (get_member (codes "into") ms.0)) l.0.into (get_member (codes "group") ms.0)) _ g l.2 in
    let made : NamedGroup = record { name = l.0.name; wanted = l.0.wanted; stages = l.0.stages; below = b.0 } in
    subst GroupSized (same_ok made g b.2) (
      values_sized place (map (λ (x : NamedGroup). x.name) before) ms.0 l.0 l.1,
      below_sized place (is_some (get_member (codes "into") ms.0)) l.0.into (get_member (codes "group") ms.0) b.0 b.1,
    )

groups_sized : (version place : ℕ) (ms : Members) (gs : List NamedGroup) → tenant_groups version place ms ≡ Ok gs → AllByRecursion GroupSized gs × (1 ≤ length gs) × (length gs ≤ 16)
unfolding tenant_groups groups_in
groups_sized version place ms gs e =
    let d = ok_then (required place (codes "group") ms) (groups_in version place) gs e in
    array_is GroupSized (group_at version place) (group_sized version place) place (codes "group") 1 most_groups d.0 gs d.2

-- CHAINS

leaves_with : (outs : List (List ℕ)) (leaves : List NamedLeaf) → AllByRecursion LeafSized leaves → AllByRecursion (λ (l : Leaf). IsRow l.stages) (map (leaf_with outs) leaves)
leaves_with outs [] h = tt
leaves_with outs (l ∷ ls) (h, hs) = (h, leaves_with outs ls hs)

with_below : (outs : List (List ℕ)) (b : NamedBelow) → BelowSized b → IsSizedBelow (below_with outs b)
with_below outs (Into name) h = tt
with_below outs (Within leaves) h = (omega (arith, h.0, length-map leaves (leaf_with outs)), omega (arith, h.1, length-map leaves (leaf_with outs)), leaves_with outs leaves h.2)

groups_with : (outs : List (List ℕ)) (gs : List NamedGroup) → AllByRecursion GroupSized gs → AllByRecursion (λ (g : Group). IsRow g.stages × IsSizedBelow g.below) (map (group_with outs) gs)
groups_with outs [] h = tt
groups_with outs (g ∷ gs) ((h, k), hs) = ((h, with_below outs g.below k), groups_with outs gs hs)

pub tenant_sized : (version : ℕ) (before : List Chain) (d : Data) (c : Chain) → tenant_at version before d ≡ Ok c → IsSized c
unfolding tenant_at tenant_values tenant_stages chain_of
tenant_sized version before d c e =
    let place : ℕ = length before + 1 in
    let earlier : List (List ℕ) = map (λ (x : Chain). x.name) before in
    let a = ok_then (table_in 0 (codes "tenant") d) (tenant_values version place earlier) c e in
    let b = ok_then (known place tenant_row a.0) _ c a.2 in
    let n = ok_then (tenant_name place earlier a.0) _ c b.2 in
    let p = ok_then (tenant_capture place a.0) _ c n.2 in
    let s = ok_then (settings_in place a.0) _ c p.2 in
    let t = ok_then (nat_at place (get_member (codes "nat") a.0)) _ c s.2 in
    let g = ok_then (stages_at place (get_member (codes "stages") a.0)) _ c t.2 in
    let h = ok_then (tenant_groups version place a.0) _ c g.2 in
    let sized = groups_sized version place a.0 h.0 h.1 in
    subst IsSized (fits_same place (chain_of n.0 p.0 s.0 t.0 g.0 h.0) c h.2) (record {
      stages = row_sized place (get_member (codes "stages") a.0) g.0 g.1;
      some = omega (arith, sized.1, length-map h.0 (group_with (outputs_of h.0)));
      few = omega (arith, sized.2, length-map h.0 (group_with (outputs_of h.0)));
      groups = groups_with (outputs_of h.0) h.0 sized.0;
    })

pub accepted_sized : (chain : Chain) → IsAccepted chain → IsSized chain
accepted_sized chain h = accepted_is IsSized tenant_sized chain h

-- all stages, wherever they stand

all_both : {X : Type 0} (P : X → Type 0) (xs ys : List X) → AllByRecursion P xs → AllByRecursion P ys → AllByRecursion P (xs ++ ys)
all_both P [] ys h k = k
all_both P (x ∷ xs) ys (h, hs) k = (h, all_both P xs ys hs k)

macs_below : (b : Below) → IsSizedBelow b → AllByRecursion HasMacs (stages_below b)
macs_below (Output o) h = tt
macs_below (Inner leaves) h = each leaves h.2 where
  each : (ls : List Leaf) → AllByRecursion (λ (l : Leaf). IsRow l.stages) ls → AllByRecursion HasMacs (flat_map (λ (l : Leaf). l.stages) ls)
  each [] h = tt
  each (l ∷ ls) (h, hs) = all_both HasMacs l.stages (flat_map (λ (l : Leaf). l.stages) ls) h.1 (each ls hs)

macs_in : (gs : List Group) → AllByRecursion (λ (g : Group). IsRow g.stages × IsSizedBelow g.below) gs → AllByRecursion HasMacs (flat_map (λ (g : Group). g.stages ++ stages_below g.below) gs)
macs_in [] h = tt
macs_in (g ∷ gs) ((row, below), hs) = all_both HasMacs (g.stages ++ stages_below g.below) _ (all_both HasMacs g.stages (stages_below g.below) row.1 (macs_below g.below below)) (macs_in gs hs)

pub all_macs : (chain : Chain) → IsSized chain → AllByRecursion HasMacs (all_stages chain)
all_macs chain h = all_both HasMacs chain.stages _ h.stages.1 (macs_in chain.groups h.groups)
