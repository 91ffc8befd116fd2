-- What the code relies on of each chain of an accepted chain file.
use Rattle.std.proofs.Common.{◌≡◌, ℕ, ◌+◌, ◌<◌, ◌≤◌, Bool, true, false, not, ◌&&◌, cond, List, [], ◌∷◌, ◌++◌, length, map, nat_le, Option, Some, None, is_some, is_none, refl, sym, ap, subst, ◌∙◌, arith, codes}
use Rattle.std.proofs.lemmas.Bool.Decides.{nat_tests}
use Rattle.std.proofs.lemmas.Bool.{and_parts, and_from}
use Rattle.std.proofs.lemmas.List.{length-map, map-append}
use Rattle.std.specs.Prelude.{Ok, Err, IsTrue, option_and_then}
use Rattle.brick_spec.specs.Firewall.{Rule}
use Rattle.std.specs.List.{AllByRecursion, list_all}
use Rattle.toml.specs.Data.{Data, Items, no_items, item, Members, get_member, as_integer}
use Rattle.brick_spec.specs.Name.{is_name}
use Rattle.brick_spec.specs.Route as routes
use Rattle.flow_spec.specs.Balancing.{Backend, Change}
use Rattle.chain_spec.proofs.Lists.{distinct_push, rising_push, all_push}
use Rattle.chain_spec.proofs.Outputs.{place_there, groups_there, below_right, outputs_named, outputs_distinct, outputs_some}
use Rattle.chain_spec.specs.ChainText.{mac_of}
use Rattle.chain_spec.specs.ChainFault.{ChainFault, Range, Name, ◌>>=◌, or_fault}
use Rattle.chain_spec.specs.ChainSet as chains
use Rattle.chain_spec.specs.ChainSet.{Stage, Leaf, Below, Output, Inner, Group, Chain, NamedLeaf, NamedBelow, Into, Within, NamedGroup, Settings, is_among, are_distinct, outputs_of, place_of, leaf_with, below_with, group_with, chain_of, is_between, are_rising, are_backends_right, is_stage_right, are_stages_right, is_below_right, is_named_below_right, has_plan_for_nat, has_one_window, IsChainRight}
use Rattle.chain_spec.specs.Fields.{each_after, required, text_in, table_in, array_in, within, natural, number_from, number_in, number_or, written_in, known, word_from, truth_or_false, bytes_in, name_in}
use Rattle.chain_spec.specs.StageWalk.{Kind, TtlKind, SetTosKind, OnlyKind, FirewallKind, RouteKind, NatKind, BalanceKind, WindowKind, ScanKind, kind_of, stage_row, stage_values, stage_at, stages_at, match_in, match_at, verdict_of, rule_at, rules_at, reach_at, set_tos_values, only_values, firewall_values, route_at, sound_rows, routes_in, route_stage_values, backend_row, backend_values, backend_at, backends_in, epoch_row, last_begin, epoch_values, epoch_at, epochs_at, balance_values, window_values, scan_values}
use Rattle.chain_spec.specs.ChainWalk.{any_name_in, into_or, leaf_row, leaf_values, leaf_at, leaves_in, group_row, below_at, group_values, group_at, most_groups, groups_in, capture_in, dry_or_wait, unparsed_or_pass, settings_in, nat_at, tenant_row, tenant_name, tenant_capture, tenant_groups, tenant_stages, tenant_values, tenant_at, read_chains}
use Rattle.chain_laws.specs.Accepted.{all_stages}
use Rattle.chain_laws.specs.Right.{IsLeafRight, AreLeavesRight, IsGroupRight, HasMacs, IsRight, AcceptedIsRight}
use Rattle.chain_laws.proofs.Walk.{Read, ok_then, same_ok, fits_same, fits_fit, accepted_is, read_are}
use Rattle.chain_laws.proofs.Sizes.{if_ok, array_is, tenant_sized, all_macs}

-- NUMBERS

within_ok : (low high n m : ℕ) → within low high n ≡ Some m → is_between low high m ≡ true
within_ok low high n m e = by (is_between low high n) refl e where
  same : (x y : ℕ) → ◌≡◌ {A = Option ℕ} (Some x) (Some y) → x ≡ y
  same x y e = cc

  by : (b : Bool) → is_between low high n ≡ b → cond b (Some n) None ≡ Some m → is_between low high m ≡ true
  by true t e = subst (λ (k : ℕ). is_between low high k ≡ true) (same n m e) t
  by false t e = cc

then_ok : (o : Option ℕ) (low high m : ℕ) → option_and_then (within low high) o ≡ Some m → is_between low high m ≡ true
then_ok None low high m e = cc
then_ok (Some n) low high m e = within_ok low high n m e

given : (f : ChainFault) (o : Option ℕ) (x : ℕ) → or_fault f o ≡ Ok x → o ≡ Some x
given f None x e = cc
given f (Some y) x e = ap (λ (z : ℕ). Some z) (same_ok y x e)

number_ok : (place : ℕ) (key : List ℕ) (low high : ℕ) (d : Data) (n : ℕ) → number_in place key low high d ≡ Ok n → is_between low high n ≡ true
unfolding number_in
number_ok place key low high d n e = then_ok (option_and_then natural (as_integer d)) low high n (given (Range place key) (number_from low high d) n e)

default_ok : (place : ℕ) (key : List ℕ) (low high default : ℕ) (o : Option Data) (n : ℕ) → is_between low high default ≡ true → number_or place key low high default o ≡ Ok n → is_between low high n ≡ true
default_ok place key low high default None n here e = subst (λ (k : ℕ). is_between low high k ≡ true) (same_ok default n e) here
default_ok place key low high default (Some d) n here e = number_ok place key low high d n e

le_from : (m n : ℕ) → nat_le m n ≡ true → m ≤ n
le_from m n e = grind (arith, nat_tests)

le_to : (m n : ℕ) → m ≤ n → nat_le m n ≡ true
le_to m n e = grind (arith, nat_tests)

between : (low high n : ℕ) → low ≤ n → n ≤ high → is_between low high n ≡ true
between low high n l h = and_from (nat_le low n) (nat_le n high) (le_to low n l) (le_to n high h)

within_both : (low high n : ℕ) → is_between low high n ≡ true → (low ≤ n) × (n ≤ high)
within_both low high n e = let t = and_parts (nat_le low n) (nat_le n high) e in (le_from low n t.0, le_from n high t.1)

bytes_ok : (low high place : ℕ) (key : List ℕ) (d : Data) (t : List ℕ) → bytes_in low high place key d ≡ Ok t → is_between low high (length t) ≡ true
unfolding bytes_in
bytes_ok low high place key d t e =
    let a = ok_then (text_in place key d) _ t e in
    let b = if_ok (nat_le low (length a.0) && nat_le (length a.0) high) a.0 t (Range place key) a.2 in
    subst (λ (x : List ℕ). is_between low high (length x) ≡ true) b.1 b.0

-- ARRAYS whose members know those before them

module _ {A : Type 0} (Q : List A → Type 0) (step : List A → Data → Read A) (one : (before : List A) (d : Data) (x : A) → Q before → step before d ≡ Ok x → Q (before ++ x ∷ [])) where
  each_keeps : (before : List A) (ds : Items) (xs : List A) → Q before → each_after step before ds ≡ Ok xs → Q xs
  unfolding each_after
  each_keeps before no_items xs q e = subst Q (same_ok before xs e) q
  each_keeps before (item d ds) xs q e =
      let r = ok_then (step before d) (λ x. each_after step (before ++ x ∷ []) ds) xs e in
      each_keeps (before ++ r.0 ∷ []) ds xs (one before d r.0 q r.1) r.2

  array_keeps : (place : ℕ) (key : List ℕ) (low high : ℕ) (d : Data) (xs : List A) → Q [] → (array_in place key low high d >>= each_after step []) ≡ Ok xs → Q xs × (low ≤ length xs) × (length xs ≤ high)
  array_keeps place key low high d xs q e =
      let a = ok_then (array_in place key low high d) (each_after step []) xs e in
      let all = array_is (λ (x : A). Unit {0}) step (λ before d x e. tt) place key low high d xs e in
      (each_keeps [] a.0 xs q a.2, all.1, all.2)

-- NAMES

one_name : (x y : Bool) (f : ChainFault) (t name : List ℕ) → cond (x && not y) (Ok t) (Err f) ≡ Ok name → (x ≡ true) × (y ≡ false) × (t ≡ name)
one_name true false f t name e = (refl, refl, same_ok t name e)
one_name true true f t name e = cc
one_name false y f t name e = cc

name_ok : (place : ℕ) (key : List ℕ) (earlier : List (List ℕ)) (d : Data) (name : List ℕ) → name_in place key earlier d ≡ Ok name → (is_name name ≡ true) × (is_among name earlier ≡ false)
unfolding name_in
name_ok place key earlier d name e =
    let b = ok_then (text_in place key d) _ name e in
    let k = one_name (is_name b.0) (is_among b.0 earlier) (Name place) b.0 name b.2 in
    (subst (λ (n : List ℕ). is_name n ≡ true) k.2 k.0, subst (λ (n : List ℕ). is_among n earlier ≡ false) k.2 k.1)

-- a member more whose name is not among those before it
more_distinct : {A : Type 0} (name : A → List ℕ) (before : List A) (x : A) → are_distinct (map name before) ≡ true → is_among (name x) (map name before) ≡ false → are_distinct (map name (before ++ x ∷ [])) ≡ true
more_distinct name before x h fresh = ap are_distinct (map-append name before (x ∷ [])) ∙ distinct_push (map name before) (name x) h fresh

-- BACKENDS AND EPOCHS

backend_fresh : (place : ℕ) (before : List Backend) (d : Data) (b : Backend) → backend_at place before d ≡ Ok b → is_among b.name (map (λ (x : Backend). x.name) before) ≡ false
unfolding backend_at backend_values
backend_fresh place before d b e =
    let a = ok_then (table_in place (codes "backend") d) (backend_values place before) b e in
    let k = ok_then (known place backend_row a.0) _ b a.2 in
    let n = ok_then (required place (codes "name") a.0) _ b k.2 in
    let name = ok_then (name_in place (codes "name") (map (λ (x : Backend). x.name) before) n.0) _ b n.2 in
    let m = ok_then (required place (codes "mac") a.0) _ b name.2 in
    let mac = ok_then (written_in mac_of place (codes "mac") m.0) _ b m.2 in
    let same : record { name = name.0; mac = mac.0 } ≡ b = same_ok (record { name = name.0; mac = mac.0 }) b mac.2 in
    subst (λ (x : Backend). is_among x.name (map (λ (y : Backend). y.name) before) ≡ false) same (name_ok place (codes "name") (map (λ (x : Backend). x.name) before) n.0 name.0 name.1).1

abbrev BackendsDiffer : List Backend → Type 0
BackendsDiffer bs = are_distinct (map (λ (b : Backend). b.name) bs) ≡ true

backends_ok : (place : ℕ) (d : Data) (bs : List Backend) → backends_in place d ≡ Ok bs → are_backends_right bs ≡ true
unfolding backends_in
backends_ok place d bs e =
    let all = array_keeps BackendsDiffer (backend_at place) (λ before d b h k. more_distinct (λ (x : Backend). x.name) before b h (backend_fresh place before d b k)) place (codes "backend") 1 64 d bs refl e in
    and_from (is_between 1 64 (length bs)) (are_distinct (map (λ (b : Backend). b.name) bs)) (between 1 64 (length bs) all.1 all.2) all.0

epoch_ok : (place : ℕ) (before : List Change) (d : Data) (c : Change) → epoch_at place before d ≡ Ok c → (last_begin before < c.from) × (are_backends_right c.backends ≡ true)
unfolding epoch_at epoch_values
epoch_ok place before d c e =
    let a = ok_then (table_in place (codes "epoch") d) (epoch_values place before) c e in
    let k = ok_then (known place epoch_row a.0) _ c a.2 in
    let f = ok_then (required place (codes "from") a.0) _ c k.2 in
    let from = ok_then (number_in place (codes "from") (last_begin before + 1) 4294967295 f.0) _ c f.2 in
    let b = ok_then (required place (codes "backend") a.0) _ c from.2 in
    let bs = ok_then (backends_in place b.0) _ c b.2 in
    let same : record { from = from.0; backends = bs.0 } ≡ c = same_ok (record { from = from.0; backends = bs.0 }) c bs.2 in
    let range = within_both (last_begin before + 1) 4294967295 from.0 (number_ok place (codes "from") (last_begin before + 1) 4294967295 f.0 from.0 from.1) in
    subst (λ (x : Change). (last_begin before < x.from) × (are_backends_right x.backends ≡ true)) same (omega (arith, range.0), backends_ok place b.0 bs.0 bs.1)

abbrev ChangesRight : List Change → Type 0
ChangesRight cs = (are_rising 0 cs ≡ true) × (list_all (λ (c : Change). are_backends_right c.backends) cs ≡ true)

epochs_ok : (place : ℕ) (o : Option Data) (cs : List Change) → epochs_at place o ≡ Ok cs → ChangesRight cs × (length cs ≤ 15)
unfolding epochs_at
epochs_ok place None cs e = subst (λ (x : List Change). ChangesRight x × (length x ≤ 15)) (same_ok [] cs e) ((refl, refl), omega arith)
epochs_ok place (Some d) cs e =
    let all = array_keeps ChangesRight (epoch_at place) (λ before d c h k. let one = epoch_ok place before d c k in (rising_push before c h.0 one.0, all_push (λ (c : Change). are_backends_right c.backends) before c h.1 one.1)) place (codes "epoch") 0 15 d cs (refl, refl) e in
    (all.0, all.2)

-- STAGES

abbrev StageRight : Stage → Type 0
StageRight s = is_stage_right s ≡ true

tos_right : (place : ℕ) (ms : Members) (s : Stage) → set_tos_values place ms ≡ Ok s → StageRight s
unfolding set_tos_values
tos_right place ms s e =
    let d = ok_then (required place (codes "value") ms) _ s e in
    let tos = ok_then (number_in place (codes "value") 0 255 d.0) _ s d.2 in
    subst StageRight (same_ok (chains.SetTos tos.0) s tos.2) (le_to tos.0 255 (within_both 0 255 tos.0 (number_ok place (codes "value") 0 255 d.0 tos.0 tos.1)).1)

only_right : (place : ℕ) (ms : Members) (s : Stage) → only_values place ms ≡ Ok s → StageRight s
unfolding only_values
only_right place ms s e =
    let d = ok_then (required place (codes "match") ms) _ s e in
    let wanted = ok_then (match_in place d.0) _ s d.2 in
    subst StageRight (same_ok (chains.Only wanted.0) s wanted.2) refl

rules_few : {R : Type 0} (place : ℕ) (step : List R → Data → Read R) (d : Data) (rs : List R) → (array_in place (codes "rule") 0 256 d >>= each_after step []) ≡ Ok rs → nat_le (length rs) 256 ≡ true
rules_few {R = R} place step d rs e = le_to (length rs) 256 (array_is (λ (x : R). Unit {0}) step (λ before d x e. tt) place (codes "rule") 0 256 d rs e).2

firewall_right : (place : ℕ) (ms : Members) (s : Stage) → firewall_values place ms ≡ Ok s → StageRight s
unfolding firewall_values rules_at
firewall_right place ms s e =
    let d = ok_then (required place (codes "default") ms) _ s e in
    let default = ok_then (word_from place (codes "default") verdict_of d.0) _ s d.2 in
    let established = ok_then (truth_or_false place (codes "established") (get_member (codes "established") ms)) _ s default.2 in
    let rules = ok_then (rules_at place (get_member (codes "rule") ms)) _ s established.2 in
    subst StageRight (same_ok (chains.Firewall default.0 established.0 rules.0) s rules.2) (by (get_member (codes "rule") ms) rules.0 rules.1) where
      by : (o : Option Data) (rs : List Rule) → rules_at place o ≡ Ok rs → nat_le (length rs) 256 ≡ true
      by None rs k = subst (λ (x : List Rule). nat_le (length x) 256 ≡ true) (same_ok [] rs k) refl
      by (Some d) rs k = rules_few place (rule_at place) d rs k

sound_ok : (place : ℕ) (rows rs : List routes.Route) → sound_rows place rows (routes.first_fault rows) ≡ Ok rs → (is_none (routes.first_fault rows) ≡ true) × (rows ≡ rs)
sound_ok place rows rs e = by (routes.first_fault rows) e where
  by : (o : Option routes.RouteFault) → sound_rows place rows o ≡ Ok rs → (is_none o ≡ true) × (rows ≡ rs)
  by None k = (refl, same_ok rows rs k)
  by (Some f) k = cc

routes_ok : (place : ℕ) (d : Data) (rows : List routes.Route) → routes_in place d ≡ Ok rows → (is_between 1 4096 (length rows) && is_none (routes.first_fault rows)) ≡ true
unfolding routes_in
routes_ok place d rows e =
    let ds = ok_then (array_in place (codes "route") 1 4096 d) _ rows e in
    let rs = ok_then (each_after (route_at place) [] ds.0) _ rows ds.2 in
    let sound = sound_ok place rs.0 rows rs.2 in
    let both : (array_in place (codes "route") 1 4096 d >>= each_after (route_at place) []) ≡ Ok rs.0 = ap (λ (r : Read Items). r >>= each_after (route_at place) []) ds.1 ∙ rs.1 in
    let all = array_is (λ (x : routes.Route). Unit {0}) (route_at place) (λ before d x e. tt) place (codes "route") 1 4096 d rs.0 both in
    subst (λ (x : List routes.Route). (is_between 1 4096 (length x) && is_none (routes.first_fault x)) ≡ true) sound.1
    (and_from (is_between 1 4096 (length rs.0)) (is_none (routes.first_fault rs.0)) (between 1 4096 (length rs.0) all.1 all.2) sound.0)

route_right : (place : ℕ) (ms : Members) (s : Stage) → route_stage_values place ms ≡ Ok s → StageRight s
unfolding route_stage_values
route_right place ms s e =
    let m = ok_then (required place (codes "mac") ms) _ s e in
    let mac = ok_then (written_in mac_of place (codes "mac") m.0) _ s m.2 in
    let d = ok_then (required place (codes "route") ms) _ s mac.2 in
    let rows = ok_then (routes_in place d.0) _ s d.2 in
    subst StageRight (same_ok (chains.Route mac.0 rows.0) s rows.2) (routes_ok place d.0 rows.0 rows.1)

balance_right : (place : ℕ) (ms : Members) (s : Stage) → balance_values place ms ≡ Ok s → StageRight s
unfolding balance_values
balance_right place ms s e =
    let d = ok_then (required place (codes "backend") ms) _ s e in
    let bs = ok_then (backends_in place d.0) _ s d.2 in
    let cs = ok_then (epochs_at place (get_member (codes "epoch") ms)) _ s bs.2 in
    let right = epochs_ok place (get_member (codes "epoch") ms) cs.0 cs.1 in
    subst StageRight (same_ok (chains.Balance bs.0 cs.0) s cs.2)
    (and_from (are_backends_right bs.0) _ (backends_ok place d.0 bs.0 bs.1) (and_from (nat_le (length cs.0) 15) _ (le_to (length cs.0) 15 right.1) (and_from (list_all (λ (c : Change). are_backends_right c.backends) cs.0) (are_rising 0 cs.0) right.0.1 right.0.0)))

reach_right : (place : ℕ) (ms : Members) (reach : ℕ) → reach_at place ms ≡ Ok reach → is_between 1460 1048576 reach ≡ true
reach_right place ms reach e = default_ok place (codes "reach") 1460 1048576 65536 (get_member (codes "reach") ms) reach refl e

window_right : (place : ℕ) (ms : Members) (s : Stage) → window_values place ms ≡ Ok s → StageRight s
unfolding window_values
window_right place ms s e =
    let d = ok_then (required place (codes "size") ms) _ s e in
    let size = ok_then (number_in place (codes "size") 64 1460 d.0) _ s d.2 in
    let reach = ok_then (reach_at place ms) _ s size.2 in
    subst StageRight (same_ok (chains.Window size.0 reach.0) s reach.2) (and_from (is_between 64 1460 size.0) (is_between 1460 1048576 reach.0) (number_ok place (codes "size") 64 1460 d.0 size.0 size.1) (reach_right place ms reach.0 reach.1))

scan_right : (place : ℕ) (ms : Members) (s : Stage) → scan_values place ms ≡ Ok s → StageRight s
unfolding scan_values
scan_right place ms s e =
    let d = ok_then (required place (codes "find") ms) _ s e in
    let find = ok_then (bytes_in 1 64 place (codes "find") d.0) _ s d.2 in
    let reach = ok_then (reach_at place ms) _ s find.2 in
    subst StageRight (same_ok (chains.Scan find.0 reach.0) s reach.2) (and_from (is_between 1 64 (length find.0)) (is_between 1460 1048576 reach.0) (bytes_ok 1 64 place (codes "find") d.0 find.0 find.1) (reach_right place ms reach.0 reach.1))

values_right : (place : ℕ) (kind : Kind) (ms : Members) (s : Stage) → stage_values place kind ms ≡ Ok s → StageRight s
unfolding stage_values
values_right place TtlKind ms s e = subst StageRight (same_ok chains.Ttl s e) refl
values_right place SetTosKind ms s e = tos_right place ms s e
values_right place OnlyKind ms s e = only_right place ms s e
values_right place FirewallKind ms s e = firewall_right place ms s e
values_right place RouteKind ms s e = route_right place ms s e
values_right place NatKind ms s e = subst StageRight (same_ok chains.Nat s e) refl
values_right place BalanceKind ms s e = balance_right place ms s e
values_right place WindowKind ms s e = window_right place ms s e
values_right place ScanKind ms s e = scan_right place ms s e

stage_right : (place : ℕ) (before : List Stage) (d : Data) (s : Stage) → stage_at place before d ≡ Ok s → StageRight s
unfolding stage_at
stage_right place before d s e =
    let ms = ok_then (table_in place (codes "stages") d) _ s e in
    let named = ok_then (required place (codes "stage") ms.0) _ s ms.2 in
    let kind = ok_then (word_from place (codes "stage") kind_of named.0) _ s named.2 in
    let k = ok_then (known place (stage_row kind.0) ms.0) _ s kind.2 in
    values_right place kind.0 ms.0 s k.2

abbrev AllStages : List Stage → Type 0
AllStages ss = list_all is_stage_right ss ≡ true

stages_right : (place : ℕ) (o : Option Data) (ss : List Stage) → stages_at place o ≡ Ok ss → are_stages_right ss ≡ true
unfolding stages_at
stages_right place None ss e = subst (λ (x : List Stage). are_stages_right x ≡ true) (same_ok [] ss e) refl
stages_right place (Some d) ss e =
    let all = array_keeps AllStages (stage_at place) (λ before d s h k. all_push is_stage_right before s h (stage_right place before d s k)) place (codes "stages") 0 32 d ss refl e in
    and_from (nat_le (length ss) 32) (list_all is_stage_right ss) (le_to (length ss) 32 all.2) all.0

-- GROUPS

record LeafIs (earlier : List (List ℕ)) (l : NamedLeaf) : Type 0 where
  named : is_name l.name ≡ true
  fresh : is_among l.name earlier ≡ false
  stages : are_stages_right l.stages ≡ true
  into : is_name l.into ≡ true

into_ok : (place : ℕ) (name : List ℕ) (o : Option Data) (into : List ℕ) → is_name name ≡ true → into_or place name o ≡ Ok into → is_name into ≡ true
unfolding any_name_in
into_ok place name None into named e = subst (λ (n : List ℕ). is_name n ≡ true) (same_ok name into e) named
into_ok place name (Some d) into named e =
    let t = ok_then (text_in place (codes "into") d) _ into e in
    let b = if_ok (is_name t.0) t.0 into (Name place) t.2 in
    subst (λ (n : List ℕ). is_name n ≡ true) b.1 b.0

leaf_is : (place : ℕ) (earlier : List (List ℕ)) (ms : Members) (l : NamedLeaf) → leaf_values place earlier ms ≡ Ok l → LeafIs earlier l
unfolding leaf_values
leaf_is place earlier ms l e =
    let named = ok_then (required place (codes "name") ms) _ l e in
    let name = ok_then (name_in place (codes "name") earlier named.0) _ l named.2 in
    let wanted = ok_then (match_at place (get_member (codes "match") ms)) _ l name.2 in
    let stages = ok_then (stages_at place (get_member (codes "stages") ms)) _ l wanted.2 in
    let into = ok_then (into_or place name.0 (get_member (codes "into") ms)) _ l stages.2 in
    let made : NamedLeaf = record { name = name.0; wanted = wanted.0; stages = stages.0; into = into.0 } in
    let ok = name_ok place (codes "name") earlier named.0 name.0 name.1 in
    subst (LeafIs earlier) (same_ok made l into.2) (record {
      named = ok.0;
      fresh = ok.1;
      stages = stages_right place (get_member (codes "stages") ms) stages.0 stages.1;
      into = into_ok place name.0 (get_member (codes "into") ms) into.0 ok.0 into.1;
    })

abbrev IsLeaf : NamedLeaf → Type 0
IsLeaf l = (is_name l.name ≡ true) × (are_stages_right l.stages ≡ true)

-- leaves with different names, each of them right
record LeavesAre (ls : List NamedLeaf) : Type 0 where
  differ : are_distinct (map (λ (l : NamedLeaf). l.name) ls) ≡ true
  into : list_all is_name (map (λ (l : NamedLeaf). l.into) ls) ≡ true
  each : AllByRecursion IsLeaf ls

more : {A : Type 0} (P : A → Type 0) (xs : List A) (x : A) → AllByRecursion P xs → P x → AllByRecursion P (xs ++ x ∷ [])
more P [] x h k = (k, tt)
more P (y ∷ ys) x (h, hs) k = (h, more P ys x hs k)

leaf_at_is : (place : ℕ) (before : List NamedLeaf) (d : Data) (l : NamedLeaf) → LeavesAre before → leaf_at place before d ≡ Ok l → LeavesAre (before ++ l ∷ [])
unfolding leaf_at
leaf_at_is place before d l h e =
    let ms = ok_then (table_in place (codes "group") d) _ l e in
    let k = ok_then (known place leaf_row ms.0) _ l ms.2 in
    let is = leaf_is place (map (λ (x : NamedLeaf). x.name) before) ms.0 l k.2 in
    record {
      differ = more_distinct (λ (x : NamedLeaf). x.name) before l h.differ is.fresh;
      into = ap (list_all is_name) (map-append (λ (x : NamedLeaf). x.into) before (l ∷ [])) ∙ all_push is_name (map (λ (x : NamedLeaf). x.into) before) l.into h.into is.into;
      each = more IsLeaf before l h.each (is.named, is.stages);
    }

abbrev BelowIs : NamedBelow → Type 0
BelowIs (Into name) = Unit {0}
BelowIs (Within leaves) = AllByRecursion IsLeaf leaves

abbrev Under : NamedBelow → Type 0
Under b = (is_named_below_right b ≡ true) × BelowIs b

below_is : (place : ℕ) (has_into : Bool) (into : List ℕ) (o : Option Data) (b : NamedBelow) → is_name into ≡ true → below_at place has_into into o ≡ Ok b → Under b
unfolding leaves_in
below_is place has_into into None b named e = subst Under (same_ok (Into into) b e) (named, tt)
below_is place true into (Some d) b named e = cc
below_is place false into (Some d) b named e =
    let ls = ok_then (leaves_in place d) (λ leaves. Ok (Within leaves)) b e in
    let all = array_keeps LeavesAre (leaf_at place) (leaf_at_is place) place (codes "group") 1 4 d ls.0 (record { differ = refl; into = refl; each = tt }) ls.1 in
    subst Under (same_ok (Within ls.0) b ls.2) (
      and_from (is_between 1 4 (length ls.0) && are_distinct (map (λ (l : NamedLeaf). l.name) ls.0)) (list_all is_name (map (λ (l : NamedLeaf). l.into) ls.0))
          (and_from (is_between 1 4 (length ls.0)) (are_distinct (map (λ (l : NamedLeaf). l.name) ls.0)) (between 1 4 (length ls.0) all.1 all.2) all.0.differ) all.0.into,
      all.0.each,
    )

abbrev IsNamedGroup : NamedGroup → Type 0
IsNamedGroup g = (is_name g.name ≡ true) × (are_stages_right g.stages ≡ true) × Under g.below

record GroupsAre (gs : List NamedGroup) : Type 0 where
  differ : are_distinct (map (λ (g : NamedGroup). g.name) gs) ≡ true
  below : list_all (λ (g : NamedGroup). is_named_below_right g.below) gs ≡ true
  each : AllByRecursion IsNamedGroup gs

group_at_is : (version place : ℕ) (before : List NamedGroup) (d : Data) (g : NamedGroup) → GroupsAre before → group_at version place before d ≡ Ok g → GroupsAre (before ++ g ∷ [])
unfolding group_at group_values
group_at_is version place before d g h e =
    let earlier : List (List ℕ) = map (λ (x : NamedGroup). x.name) before in
    let ms = ok_then (table_in place (codes "group") d) (group_values version place before) g e in
    let k = ok_then (known place (group_row version) ms.0) _ g ms.2 in
    let l = ok_then (leaf_values place earlier ms.0) _ g k.2 in
    let b = ok_then (below_at place (is_some (get_member (codes "into") ms.0)) l.0.into (get_member (codes "group") ms.0)) _ g l.2 in
    let is = leaf_is place earlier ms.0 l.0 l.1 in
    let under = below_is place (is_some (get_member (codes "into") ms.0)) l.0.into (get_member (codes "group") ms.0) b.0 is.into b.1 in
    let made : NamedGroup = record { name = l.0.name; wanted = l.0.wanted; stages = l.0.stages; below = b.0 } in
    subst (λ (x : NamedGroup). GroupsAre (before ++ x ∷ [])) (same_ok made g b.2) (record {
      differ = more_distinct (λ (x : NamedGroup). x.name) before made h.differ is.fresh;
      below = all_push (λ (x : NamedGroup). is_named_below_right x.below) before made h.below under.0;
      each = more IsNamedGroup before made h.each (is.named, is.stages, under);
    })

groups_are : (version place : ℕ) (ms : Members) (gs : List NamedGroup) → tenant_groups version place ms ≡ Ok gs → GroupsAre gs × (1 ≤ length gs) × (length gs ≤ 16)
unfolding tenant_groups groups_in
groups_are version place ms gs e =
    let d = ok_then (required place (codes "group") ms) (groups_in version place) gs e in
    array_keeps GroupsAre (group_at version place) (group_at_is version place) place (codes "group") 1 most_groups d.0 gs (record { differ = refl; below = refl; each = tt }) d.2

-- CHAINS

leaves_with : (outs : List (List ℕ)) (leaves : List NamedLeaf) → AllByRecursion IsLeaf leaves → AllByRecursion IsLeafRight (map (leaf_with outs) leaves)
leaves_with outs [] h = tt
leaves_with outs (l ∷ ls) (h, hs) = (h, leaves_with outs ls hs)

with_below : (outs : List (List ℕ)) (b : NamedBelow) → BelowIs b → AreLeavesRight (below_with outs b)
with_below outs (Into name) h = tt
with_below outs (Within leaves) h = leaves_with outs leaves h

groups_with : (outs : List (List ℕ)) (gs : List NamedGroup) → AllByRecursion IsNamedGroup gs → AllByRecursion IsGroupRight (map (group_with outs) gs)
groups_with outs [] h = tt
groups_with outs (g ∷ gs) ((name, stages, under), hs) =
    (record { named = name; stages_right = stages; below_right = below_right outs g.below under.0; leaves_right = with_below outs g.below under.1 }, groups_with outs gs hs)

names_with : (outs : List (List ℕ)) (gs : List NamedGroup) → map (λ (g : Group). g.name) (map (group_with outs) gs) ≡ map (λ (g : NamedGroup). g.name) gs
names_with outs [] = refl
names_with outs (g ∷ gs) = ap (λ ns. g.name ∷ ns) (names_with outs gs)

settings_ok : (place : ℕ) (ms : Members) (s : Settings) → settings_in place ms ≡ Ok s → (is_between 1 1024 s.buffers ≡ true) × (is_between 64 65600 s.bytes ≡ true)
unfolding settings_in
settings_ok place ms s e =
    let buffers = ok_then (number_or place (codes "buffers") 1 1024 256 (get_member (codes "buffers") ms)) _ s e in
    let bytes = ok_then (number_or place (codes "bytes") 64 65600 65600 (get_member (codes "bytes") ms)) _ s buffers.2 in
    let dry = ok_then (dry_or_wait place (get_member (codes "dry") ms)) _ s bytes.2 in
    let unparsed = ok_then (unparsed_or_pass place (get_member (codes "unparsed") ms)) _ s dry.2 in
    let made : Settings = record { buffers = buffers.0; bytes = bytes.0; dry = dry.0; unparsed = unparsed.0 } in
    subst (λ (x : Settings). (is_between 1 1024 x.buffers ≡ true) × (is_between 64 65600 x.bytes ≡ true)) (same_ok made s unparsed.2) (
      default_ok place (codes "buffers") 1 1024 256 (get_member (codes "buffers") ms) buffers.0 refl buffers.1,
      default_ok place (codes "bytes") 64 65600 65600 (get_member (codes "bytes") ms) bytes.0 refl bytes.1,
    )

tenant_right : (version : ℕ) (before : List Chain) (d : Data) (c : Chain) → tenant_at version before d ≡ Ok c → IsRight c
unfolding tenant_at tenant_values tenant_stages tenant_name tenant_capture capture_in chain_of
tenant_right version before d c e =
    let place : ℕ = length before + 1 in
    let earlier : List (List ℕ) = map (λ (x : Chain). x.name) before in
    let a = ok_then (table_in 0 (codes "tenant") d) (tenant_values version place earlier) c e in
    let b = ok_then (known place tenant_row a.0) _ c a.2 in
    let n = ok_then (tenant_name place earlier a.0) _ c b.2 in
    let p = ok_then (tenant_capture place a.0) _ c n.2 in
    let s = ok_then (settings_in place a.0) _ c p.2 in
    let t = ok_then (nat_at place (get_member (codes "nat") a.0)) _ c s.2 in
    let g = ok_then (stages_at place (get_member (codes "stages") a.0)) _ c t.2 in
    let h = ok_then (tenant_groups version place a.0) _ c g.2 in
    let nd = ok_then (required place (codes "name") a.0) (name_in place (codes "name") earlier) n.0 n.1 in
    let cd = ok_then (required place (codes "capture") a.0) (capture_in place) p.0 p.1 in
    let ranges = settings_ok place a.0 s.0 s.1 in
    let groups = groups_are version place a.0 h.0 h.1 in
    let outs : List (List ℕ) = outputs_of h.0 in
    let some = outputs_some h.0 groups.0.below (omega (arith, groups.1)) in
    let made : Chain = chain_of n.0 p.0 s.0 t.0 g.0 h.0 in
    let fit = fits_fit place made c h.2 in
    let same = fits_same place made c h.2 in
    let back = subst (λ (x : Chain). IsTrue (has_plan_for_nat x) × IsTrue (has_one_window x)) (sym same) fit in
    subst IsRight same (record {
      named = (name_ok place (codes "name") earlier nd.0 n.0 nd.2).0;
      capture_length = within_both 1 255 (length p.0) (bytes_ok 1 255 place (codes "capture") cd.0 p.0 cd.2);
      buffers_range = within_both 1 1024 s.0.buffers ranges.0;
      bytes_range = within_both 64 65600 s.0.bytes ranges.1;
      stages_right = stages_right place (get_member (codes "stages") a.0) g.0 g.1;
      some_groups = (omega (arith, groups.1, length-map h.0 (group_with outs)), omega (arith, groups.2, length-map h.0 (group_with outs)));
      groups_distinct = ap are_distinct (names_with outs h.0) ∙ groups.0.differ;
      groups_right = groups_with outs h.0 groups.0.each;
      outputs_named = outputs_named h.0 groups.0.below;
      outputs_distinct = outputs_distinct h.0;
      right = (back.0, (back.1, groups_there outs (length outs) (λ name. place_there outs name some) h.0));
      macs = subst (λ (x : Chain). AllByRecursion HasMacs (all_stages x)) (sym same) (all_macs c (tenant_sized version before d c e));
    })

pub accepted_right : AcceptedIsRight
accepted_right chain h = accepted_is IsRight tenant_right chain h

-- the same of all chains of the set
pub set_right : (own out bytes : List ℕ) (set : List Chain) → read_chains own out bytes ≡ Ok set → AllByRecursion IsRight set
set_right own out bytes set e = read_are IsRight tenant_right own out bytes set e
