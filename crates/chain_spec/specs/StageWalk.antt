-- The walk of a stage's table, and of the tables in it: matches, rules, routes, backends and epochs.
use Rattle.std.specs.Prelude.{ℕ, ◌+◌, List, [], ◌∷◌, map, Option, Some, None, Result, Ok, Err, if◌then◌else◌, codes}
use Rattle.std.specs.List.{last_or}
use Rattle.std.specs.Str.{bytes_eq}
use Rattle.toml.specs.Data.{Data, Members, get_member}
use Rattle.brick_spec.specs.Firewall.{Verdict, Allow, Deny, Rule}
use Rattle.brick_spec.specs.Match.{Match}
use Rattle.brick_spec.specs.Route as routes
use Rattle.flow_spec.specs.Balancing.{Backend, Change}
use Rattle.chain_spec.specs.ChainText.{any_prefix_of, mac_of}
use Rattle.chain_spec.specs.ChainFault as faults
use Rattle.chain_spec.specs.ChainFault.{ChainFault, Range, ◌>>=◌}
use Rattle.chain_spec.specs.ChainSet.{Stage, Ttl, SetTos, Only, Firewall, Route, Nat, Balance, Window, Scan}
use Rattle.chain_spec.specs.Fields.{Text, known, required, table_in, number_in, number_or, number_at, written_in}
use Rattle.chain_spec.specs.Fields.{prefix_at, bytes_in, truth_or_false, name_in, word_from, array_in, each}

-- MATCHES

abbrev pub match_row : List Text
match_row = codes "proto" ∷ codes "src" ∷ codes "dst" ∷ codes "sport" ∷ codes "dport" ∷ codes "port" ∷ []

-- the number of a protocol in an IPv4 header (IANA, protocol numbers)
abbrev pub protocol_of : Text → Option ℕ
protocol_of t = if bytes_eq t (codes "tcp") then Some 6
    else (if bytes_eq t (codes "udp") then Some 17
    else (if bytes_eq t (codes "icmp") then Some 1 else None))

abbrev pub protocol_at : ℕ → Option Data → Result (Option ℕ) ChainFault
protocol_at place None = Ok None
protocol_at place (Some d) = word_from place (codes "proto") protocol_of d >>= λ p. Ok (Some p)

unfoldable pub match_in : ℕ → Data → Result Match ChainFault
match_in place d = do
  ms ← table_in place (codes "match") d
  _ ← known place match_row ms
  proto ← protocol_at place (get_member (codes "proto") ms)
  src ← prefix_at place (codes "src") (get_member (codes "src") ms)
  dst ← prefix_at place (codes "dst") (get_member (codes "dst") ms)
  sport ← number_at place (codes "sport") 0 65535 (get_member (codes "sport") ms)
  dport ← number_at place (codes "dport") 0 65535 (get_member (codes "dport") ms)
  port ← number_at place (codes "port") 0 65535 (get_member (codes "port") ms)
  Ok (record { proto = proto; src = src; dst = dst; sport = sport; dport = dport; port = port })

-- A match, where there may be none.
abbrev pub match_at : ℕ → Option Data → Result (Option Match) ChainFault
match_at place None = Ok None
match_at place (Some d) = match_in place d >>= λ m. Ok (Some m)

-- RULES of a firewall: `verdict`, and `match`

abbrev pub rule_row : List Text
rule_row = codes "verdict" ∷ codes "match" ∷ []

abbrev pub verdict_of : Text → Option Verdict
verdict_of t =
    if bytes_eq t (codes "allow") then Some Allow else (if bytes_eq t (codes "deny") then Some Deny else None)

unfoldable pub rule_values : ℕ → Members → Result Rule ChainFault
rule_values place ms = do
  _ ← known place rule_row ms
  d ← required place (codes "verdict") ms
  verdict ← word_from place (codes "verdict") verdict_of d
  wanted ← match_at place (get_member (codes "match") ms)
  Ok (record { verdict = verdict; wanted = wanted })

unfoldable pub rule_at : ℕ → List Rule → Data → Result Rule ChainFault
rule_at place before d = table_in place (codes "rule") d >>= rule_values place

-- 0 to 256 rules
unfoldable pub rules_at : ℕ → Option Data → Result (List Rule) ChainFault
rules_at place None = Ok []
rules_at place (Some d) = array_in place (codes "rule") 0 256 d >>= each (rule_at place)

-- ROUTES: `to`, whose host bits are looked at after the last row, and `via`

abbrev pub route_row : List Text
route_row = codes "to" ∷ codes "via" ∷ []

unfoldable pub route_values : ℕ → Members → Result routes.Route ChainFault
route_values place ms = do
  _ ← known place route_row ms
  t ← required place (codes "to") ms
  to ← written_in any_prefix_of place (codes "to") t
  v ← required place (codes "via") ms
  via ← written_in mac_of place (codes "via") v
  Ok (record { to = to; via = via })

unfoldable pub route_at : ℕ → List routes.Route → Data → Result routes.Route ChainFault
route_at place before d = table_in place (codes "route") d >>= route_values place

-- the rows, where they have no fault
abbrev pub sound_rows : ℕ → List routes.Route → Option routes.RouteFault → Result (List routes.Route) ChainFault
sound_rows place rows None = Ok rows
sound_rows place rows (Some fault) = Err (faults.Route place fault)

-- 1 to 4096 rows
unfoldable pub routes_in : ℕ → Data → Result (List routes.Route) ChainFault
routes_in place d = do
  ds ← array_in place (codes "route") 1 4096 d
  rows ← each (route_at place) ds
  sound_rows place rows (routes.first_fault rows)

-- BACKENDS: `name` and `mac`

abbrev pub backend_row : List Text
backend_row = codes "name" ∷ codes "mac" ∷ []

unfoldable pub backend_values : ℕ → List Backend → Members → Result Backend ChainFault
backend_values place before ms = do
  _ ← known place backend_row ms
  n ← required place (codes "name") ms
  name ← name_in place (codes "name") (map (λ b. b.name) before) n
  m ← required place (codes "mac") ms
  mac ← written_in mac_of place (codes "mac") m
  Ok (record { name = name; mac = mac })

unfoldable pub backend_at : ℕ → List Backend → Data → Result Backend ChainFault
backend_at place before d = table_in place (codes "backend") d >>= backend_values place before

-- 1 to 64 backends
unfoldable pub backends_in : ℕ → Data → Result (List Backend) ChainFault
backends_in place d = array_in place (codes "backend") 1 64 d >>= each (backend_at place)

-- EPOCHS: `from`, which rises from table to table, and `backend`

abbrev pub epoch_row : List Text
epoch_row = codes "from" ∷ codes "backend" ∷ []

-- where the last epoch begins
abbrev pub last_begin : List Change → ℕ
last_begin before = last_or_zero (last_or None before)
  where
    last_or_zero : Option Change → ℕ
    last_or_zero None = 0
    last_or_zero (Some c) = c.from

unfoldable pub epoch_values : ℕ → List Change → Members → Result Change ChainFault
epoch_values place before ms = do
  _ ← known place epoch_row ms
  f ← required place (codes "from") ms
  from ← number_in place (codes "from") (last_begin before + 1) 4294967295 f
  b ← required place (codes "backend") ms
  backends ← backends_in place b
  Ok (record { from = from; backends = backends })

unfoldable pub epoch_at : ℕ → List Change → Data → Result Change ChainFault
epoch_at place before d = table_in place (codes "epoch") d >>= epoch_values place before

-- 0 to 15 epochs, behind the one that begins at record 0
unfoldable pub epochs_at : ℕ → Option Data → Result (List Change) ChainFault
epochs_at place None = Ok []
epochs_at place (Some d) = array_in place (codes "epoch") 0 15 d >>= each (epoch_at place)

-- STAGES

pub data Kind : Type 0 where
  TtlKind : Kind
  SetTosKind : Kind
  OnlyKind : Kind
  FirewallKind : Kind
  RouteKind : Kind
  NatKind : Kind
  BalanceKind : Kind
  WindowKind : Kind
  ScanKind : Kind

-- the first of the texts that is this one, with its kind
abbrev pub kind_among : List (Text × Kind) → Text → Option Kind
kind_among [] t = None
kind_among (k ∷ ks) t = if bytes_eq t k.0 then Some k.1 else kind_among ks t

-- the stages that a file may name
abbrev pub kinds : List (Text × Kind)
kinds = (codes "ttl", TtlKind) ∷ (codes "set_tos", SetTosKind) ∷ (codes "only", OnlyKind)
    ∷ (codes "firewall", FirewallKind) ∷ (codes "route", RouteKind)
    ∷ (codes "nat", NatKind) ∷ (codes "balance", BalanceKind) ∷ (codes "window", WindowKind) ∷ (codes "scan", ScanKind)
    ∷ []

abbrev pub kind_of : Text → Option Kind
kind_of t = kind_among kinds t

-- the keys of a stage's table, beside `stage`
abbrev pub keys_of : Kind → List Text
keys_of TtlKind = []
keys_of SetTosKind = codes "value" ∷ []
keys_of OnlyKind = codes "match" ∷ []
keys_of FirewallKind = codes "default" ∷ codes "established" ∷ codes "rule" ∷ []
keys_of RouteKind = codes "mac" ∷ codes "route" ∷ []
keys_of NatKind = []
keys_of BalanceKind = codes "backend" ∷ codes "epoch" ∷ []
keys_of WindowKind = codes "size" ∷ codes "reach" ∷ []
keys_of ScanKind = codes "find" ∷ codes "reach" ∷ []

abbrev pub stage_row : Kind → List Text
stage_row kind = codes "stage" ∷ keys_of kind

unfoldable pub set_tos_values : ℕ → Members → Result Stage ChainFault
set_tos_values place ms = do
  d ← required place (codes "value") ms
  tos ← number_in place (codes "value") 0 255 d
  Ok (SetTos tos)

unfoldable pub only_values : ℕ → Members → Result Stage ChainFault
only_values place ms = do
  d ← required place (codes "match") ms
  wanted ← match_in place d
  Ok (Only wanted)

unfoldable pub firewall_values : ℕ → Members → Result Stage ChainFault
firewall_values place ms = do
  d ← required place (codes "default") ms
  default ← word_from place (codes "default") verdict_of d
  established ← truth_or_false place (codes "established") (get_member (codes "established") ms)
  rules ← rules_at place (get_member (codes "rule") ms)
  Ok (Firewall default established rules)

unfoldable pub route_stage_values : ℕ → Members → Result Stage ChainFault
route_stage_values place ms = do
  m ← required place (codes "mac") ms
  mac ← written_in mac_of place (codes "mac") m
  d ← required place (codes "route") ms
  rows ← routes_in place d
  Ok (Route mac rows)

unfoldable pub balance_values : ℕ → Members → Result Stage ChainFault
balance_values place ms = do
  d ← required place (codes "backend") ms
  backends ← backends_in place d
  changes ← epochs_at place (get_member (codes "epoch") ms)
  Ok (Balance backends changes)

-- how far behind the first gap of a stream data may end
abbrev pub reach_at : ℕ → Members → Result ℕ ChainFault
reach_at place ms = number_or place (codes "reach") 1460 1048576 65536 (get_member (codes "reach") ms)

unfoldable pub window_values : ℕ → Members → Result Stage ChainFault
window_values place ms = do
  d ← required place (codes "size") ms
  size ← number_in place (codes "size") 64 1460 d
  reach ← reach_at place ms
  Ok (Window size reach)

unfoldable pub scan_values : ℕ → Members → Result Stage ChainFault
scan_values place ms = do
  d ← required place (codes "find") ms
  find ← bytes_in 1 64 place (codes "find") d
  reach ← reach_at place ms
  Ok (Scan find reach)

-- the values of a stage's keys
unfoldable pub stage_values : ℕ → Kind → Members → Result Stage ChainFault
stage_values place TtlKind ms = Ok Ttl
stage_values place SetTosKind ms = set_tos_values place ms
stage_values place OnlyKind ms = only_values place ms
stage_values place FirewallKind ms = firewall_values place ms
stage_values place RouteKind ms = route_stage_values place ms
stage_values place NatKind ms = Ok Nat
stage_values place BalanceKind ms = balance_values place ms
stage_values place WindowKind ms = window_values place ms
stage_values place ScanKind ms = scan_values place ms

-- `stage` is read first, and then the table with that stage's row
unfoldable pub stage_at : ℕ → List Stage → Data → Result Stage ChainFault
stage_at place before d = do
  ms ← table_in place (codes "stages") d
  named ← required place (codes "stage") ms
  kind ← word_from place (codes "stage") kind_of named
  _ ← known place (stage_row kind) ms
  stage_values place kind ms

-- 0 to 32 stages
unfoldable pub stages_at : ℕ → Option Data → Result (List Stage) ChainFault
stages_at place None = Ok []
stages_at place (Some d) = array_in place (codes "stages") 0 32 d >>= each (stage_at place)
