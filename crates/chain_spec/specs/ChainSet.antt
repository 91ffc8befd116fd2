-- The chains that a chain file gives: a chain for each tenant, and the names of its files.
use Rattle.std.specs.Prelude.{ℕ, List, [], ◌∷◌, ◌++◌, map, flat_map, length, count_by, Bool, true, false, not, ◌&&◌}
use Rattle.std.specs.Prelude.{◌||◌, nat_le, nat_lt, Option, is_some, is_none, unwrap_or, codes, if◌then◌else◌, IsTrue}
use Rattle.std.specs.List.{list_any, list_all, position}
use Rattle.std.specs.Str.{bytes_eq}
use Rattle.brick_spec.specs.Firewall.{Verdict, Rule}
use Rattle.brick_spec.specs.FlowClass.{NatPlan}
use Rattle.brick_spec.specs.Match.{Match}
use Rattle.brick_spec.specs.Name.{is_name}
use Rattle.brick_spec.specs.Route as routes
use Rattle.flow_spec.specs.Balancing.{Backend, Change}

-- what a tenant does where no buffer is free: it waits, or drops the record
pub data Dry : Type 0 where
  DryWait : Dry
  DryDrop : Dry

-- what becomes of a frame of class Other: it passes to the groups, or is dropped as Unparsed
pub data Unparsed : Type 0 where
  UnparsedPass : Unparsed
  UnparsedDrop : Unparsed

pub data Stage : Type 0 where
  Ttl : Stage
  SetTos : ℕ → Stage
  Only : Match → Stage
  -- the default, `established`, and the rules
  Firewall : Verdict → Bool → List Rule → Stage
  -- the Ethernet address from which frames go on, and the rows
  Route : List ℕ → List routes.Route → Stage
  -- by the tenant's plan
  Nat : Stage
  -- the backends, and how they change
  Balance : List Backend → List Change → Stage
  -- the size and the reach
  Window : ℕ → ℕ → Stage
  -- the text that stops a flow, and the reach
  Scan : List ℕ → ℕ → Stage

-- a group in a group
pub record Leaf : Type 0 where
  pub name : List ℕ
  -- none takes every frame
  pub wanted : Option Match
  pub stages : List Stage
  -- the place of its output among the tenant's outputs
  pub output : ℕ

-- what stands behind a group's stages: an output, by its place, or groups in it
pub data Below : Type 0 where
  Output : ℕ → Below
  Inner : List Leaf → Below

pub record Group : Type 0 where
  pub name : List ℕ
  pub wanted : Option Match
  pub stages : List Stage
  pub below : Below

pub record Chain : Type 0 where
  pub name : List ℕ
  -- the name of its capture
  pub capture : List ℕ
  -- how many buffers it has
  pub buffers : ℕ
  -- the most bytes that a frame may have; a longer one is Big
  pub bytes : ℕ
  pub dry : Dry
  pub unparsed : Unparsed
  pub nat : Option NatPlan
  pub stages : List Stage
  pub groups : List Group
  pub outputs : List (List ℕ)

-- LEAF GROUPS AND PATHS. A group with no groups in it is a leaf group.

abbrev pub leaves_in : Group → Below → List Leaf
leaves_in g (Output o) = record { name = g.name; wanted = g.wanted; stages = g.stages; output = o } ∷ []
leaves_in g (Inner leaves) = leaves

-- the leaf groups, in the order of the chain file
abbrev pub leaves_of : Chain → List Leaf
leaves_of chain = flat_map (λ g. leaves_in g g.below) chain.groups

-- the place of each leaf group's output
abbrev pub leaf_outputs : Chain → List ℕ
leaf_outputs chain = map (λ l. l.output) (leaves_of chain)

-- the stages on each way through what stands behind some stages
abbrev pub paths_below : List Stage → Below → List (List Stage)
paths_below stages (Output o) = stages ∷ []
paths_below stages (Inner leaves) = map (λ l. stages ++ l.stages) leaves

-- A path: the tenant's stages, then one group's, then, where that group has groups in it, those of one of these.
abbrev pub paths_through : List Stage → List Group → List (List Stage)
paths_through stages groups = flat_map (λ g. paths_below (stages ++ g.stages) g.below) groups

abbrev pub paths_of : Chain → List (List Stage)
paths_of chain = paths_through chain.stages chain.groups

abbrev pub is_nat : Stage → Bool
is_nat Nat = true
is_nat _ = false

abbrev pub is_window : Stage → Bool
is_window (Window size reach) = true
is_window _ = false

-- a stage `nat` stands somewhere
abbrev pub has_nat : Chain → Bool
has_nat chain = list_any (list_any is_nat) (paths_of chain)

abbrev pub windows_in : List Stage → ℕ
windows_in path = count_by is_window path

-- at most one `window` stands on each path
abbrev pub has_one_window : Chain → Bool
has_one_window chain = list_all (λ path. nat_le (windows_in path) 1) (paths_of chain)

-- LISTS OF NAMES

abbrev pub is_among : List ℕ → List (List ℕ) → Bool
is_among name names = list_any (λ n. bytes_eq n name) names

-- the names, and one more behind them where it is not among them
abbrev pub with_name : List (List ℕ) → List ℕ → List (List ℕ)
with_name names name = if is_among name names then names else names ++ name ∷ []

abbrev pub distinct_after : List (List ℕ) → List (List ℕ) → List (List ℕ)
distinct_after before [] = before
distinct_after before (n ∷ ns) = distinct_after (with_name before n) ns

-- the distinct ones among the names, in the order of first mention
abbrev pub distinct_of : List (List ℕ) → List (List ℕ)
distinct_of names = distinct_after [] names

-- no name stands twice in the list, nor in it and before it
abbrev pub are_new : List (List ℕ) → List (List ℕ) → Bool
are_new before [] = true
are_new before (n ∷ ns) = not (is_among n before) && are_new (before ++ n ∷ []) ns

-- no name stands twice
abbrev pub are_distinct : List (List ℕ) → Bool
are_distinct names = are_new [] names

-- the place of a name among the names
abbrev pub place_of : List (List ℕ) → List ℕ → ℕ
place_of names name = unwrap_or (position (λ n. bytes_eq n name) names) 0

-- OUTPUTS

-- a group in a group as the chain file has it, with the name of its output
pub record NamedLeaf : Type 0 where
  pub name : List ℕ
  pub wanted : Option Match
  pub stages : List Stage
  pub into : List ℕ

pub data NamedBelow : Type 0 where
  Into : List ℕ → NamedBelow
  Within : List NamedLeaf → NamedBelow

-- a group as the chain file has it
pub record NamedGroup : Type 0 where
  pub name : List ℕ
  pub wanted : Option Match
  pub stages : List Stage
  pub below : NamedBelow

abbrev pub outputs_below : NamedBelow → List (List ℕ)
outputs_below (Into name) = name ∷ []
outputs_below (Within leaves) = map (λ l. l.into) leaves

-- the outputs of a tenant with these groups: the distinct ones of its leaf groups
abbrev pub outputs_of : List NamedGroup → List (List ℕ)
outputs_of groups = distinct_of (flat_map (λ g. outputs_below g.below) groups)

-- with each output known by its place among the outputs
abbrev pub leaf_with : List (List ℕ) → NamedLeaf → Leaf
leaf_with outputs l = record { name = l.name; wanted = l.wanted; stages = l.stages; output = place_of outputs l.into }

abbrev pub below_with : List (List ℕ) → NamedBelow → Below
below_with outputs (Into name) = Output (place_of outputs name)
below_with outputs (Within leaves) = Inner (map (leaf_with outputs) leaves)

abbrev pub group_with : List (List ℕ) → NamedGroup → Group
group_with outputs g = record {
  name = g.name;
  wanted = g.wanted;
  stages = g.stages;
  below = below_with outputs g.below;
}

-- a tenant's numbers and words
pub record Settings : Type 0 where
  pub buffers : ℕ
  pub bytes : ℕ
  pub dry : Dry
  pub unparsed : Unparsed

-- the chain of a tenant with these groups
unfoldable pub chain_of : List ℕ → List ℕ → Settings → Option NatPlan → List Stage → List NamedGroup → Chain
chain_of name capture settings nat stages groups = record {
  name = name;
  capture = capture;
  buffers = settings.buffers;
  bytes = settings.bytes;
  dry = settings.dry;
  unparsed = settings.unparsed;
  nat = nat;
  stages = stages;
  groups = map (group_with (outputs_of groups)) groups;
  outputs = outputs_of groups;
}

-- WHAT IS TRUE OF EACH CHAIN of an accepted chain file

abbrev pub is_between : ℕ → ℕ → ℕ → Bool
is_between low high n = nat_le low n && nat_le n high

-- each record number in the list is above the one before it, the first above n
abbrev pub are_rising : ℕ → List Change → Bool
are_rising n [] = true
are_rising n (c ∷ cs) = nat_lt n c.from && are_rising c.from cs

-- 1 to 64 backends with different names
abbrev pub are_backends_right : List Backend → Bool
are_backends_right backends = is_between 1 64 (length backends) && are_distinct (map (λ b. b.name) backends)

-- The ranges of a stage's numbers, and the lengths of its lists. The rows of a table of routes have no fault, and the
-- records of the changes rise.
abbrev pub is_stage_right : Stage → Bool
is_stage_right (SetTos value) = nat_le value 255
is_stage_right (Firewall default established rules) = nat_le (length rules) 256
is_stage_right (Route mac rows) = is_between 1 4096 (length rows) && is_none (routes.first_fault rows)
is_stage_right (Balance backends changes) =
    are_backends_right backends
    && (nat_le (length changes) 15
    && (list_all (λ c. are_backends_right c.backends) changes && are_rising 0 changes))
is_stage_right (Window size reach) = is_between 64 1460 size && is_between 1460 1048576 reach
is_stage_right (Scan text reach) = is_between 1 64 (length text) && is_between 1460 1048576 reach
is_stage_right _ = true

-- at most 32 stages
abbrev pub are_stages_right : List Stage → Bool
are_stages_right stages = nat_le (length stages) 32 && list_all is_stage_right stages

-- what is behind a group's stages: 1 to 4 groups with different names, where it has groups in it
abbrev pub is_below_right : Below → Bool
is_below_right (Output o) = true
is_below_right (Inner leaves) = is_between 1 4 (length leaves) && are_distinct (map (λ l. l.name) leaves)

-- what is behind a group's stages: one name, or 1 to 4 groups with different names, each with a name of its output
abbrev pub is_named_below_right : NamedBelow → Bool
is_named_below_right (Into name) = is_name name
is_named_below_right (Within leaves) = (is_between 1 4 (length leaves) && are_distinct (map (λ l. l.name) leaves))
    && list_all is_name (map (λ l. l.into) leaves)

-- a stage `nat` stands only beside a plan
abbrev pub has_plan_for_nat : Chain → Bool
has_plan_for_nat chain = not (has_nat chain) || is_some chain.nat

-- the output of each leaf group is one of the chain's
abbrev pub has_outputs : Chain → Bool
has_outputs chain = list_all (λ o. nat_lt o (length chain.outputs)) (leaf_outputs chain)

-- the three facts that join the parts of a chain
abbrev pub IsChainRight : Chain → Type 0
IsChainRight chain = IsTrue (has_plan_for_nat chain) × (IsTrue (has_one_window chain) × IsTrue (has_outputs chain))

-- FILES

-- the file of an output, `OUT/NAME.OUTPUT.pcap`
abbrev pub output_file : List ℕ → List ℕ → List ℕ → List ℕ
output_file out name output = out ++ (codes "/" ++ (name ++ (codes "." ++ (output ++ codes ".pcap"))))

-- the file of the numbers of the refused records, `OUT/NAME.refused`
abbrev pub refused_file : List ℕ → List ℕ → List ℕ
refused_file out name = out ++ (codes "/" ++ (name ++ codes ".refused"))

-- the files of a tenant, in the order in which they are written: one for each output, and then that of the refused
-- records
abbrev pub file_names : List ℕ → Chain → List (List ℕ)
file_names out chain = map (output_file out chain.name) chain.outputs ++ refused_file out chain.name ∷ []

-- the files of a run
abbrev pub run_files : List ℕ → List Chain → List (List ℕ)
run_files out chains = flat_map (file_names out) chains
