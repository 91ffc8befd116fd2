-- Balance tables and addresses that are built of backends, epoch by epoch.
use Rattle.std.proofs.Common.{◌≡◌, ℕ, zero, suc, ◌<◌, ◌≤◌, List, [], ◌∷◌, map, length, Some, refl, ap, sym, subst, ◌∙◌, arith}
use Rattle.std.specs.Global.{Vec}
use Rattle.std.specs.List.{AllByRecursion, slice_get, slice_index_or}
use Rattle.brick_spec.specs.Balance.{balance_table, backend_in}
use Rattle.brick_spec.specs.Flow.{Flow}
use Rattle.brick_spec.specs.FlowStage.{alone}
use Rattle.flow_spec.specs.Balancing as spec
use Rattle.flow_spec.specs.Balancing.{epoch_of, begins_of, backends_of, backends_for, mac_for, balanced, balance_stage}
use Rattle.lb_maglev.specs.EpochTables.{EpochTables, epoch_tables, table_of_epoch, IsNamed, AreNamed}
use Rattle.lb_maglev.specs.declared.epochs.Epoch.{Epoch}
use Rattle.chain_types.specs.StageView.{backends_view, change_view}
use Rattle.chain_types.specs.declared.stage.Backend.{Backend}
use Rattle.chain_types.specs.declared.stage.Change.{Change}
use Rattle.flow_stages.specs.EpochMacs.{flow_mac, HasMacs, balance_by}
use Rattle.flow_stages.specs.Rows.{AreFew, change_few, names_in, macs_in, begins_in, rows_in, begins_built, names_built, macs_built}

-- THE STAGE

names_same : (bs : List Backend) → names_in bs ≡ map (λ (b : spec.Backend). b.name) (backends_view bs)
names_same [] = refl
names_same (b ∷ bs) = ap (λ ns. b.name ∷ ns) (names_same bs)

macs_same : (bs : List Backend) → macs_in bs ≡ map (λ (b : spec.Backend). b.mac) (backends_view bs)
macs_same [] = refl
macs_same (b ∷ bs) = ap (λ ns. b.mac ∷ ns) (macs_same bs)

begins_same : (cs : List Change) → map (λ (c : Change). c.from) cs ≡ map (λ (c : spec.Change). c.from) (map change_view cs)
begins_same [] = refl
begins_same (c ∷ cs) = ap (λ ns. c.from ∷ ns) (begins_same cs)

table : List spec.Backend → List ℕ
table bs = balance_table (map (λ (b : spec.Backend). b.name) bs)

addresses : List spec.Backend → List (List ℕ)
addresses bs = map (λ (b : spec.Backend). b.mac) bs

later_tables : (cs : List Change) → map balance_table (map (λ (c : Change). names_in c.backends.items) cs) ≡ map table (map (λ (c : spec.Change). c.backends) (map change_view cs))
unfolding table
later_tables [] = refl
later_tables (c ∷ cs) = λ i. balance_table (names_same c.backends.items i) ∷ later_tables cs i

later_addresses : (cs : List Change) → map (λ (c : Change). macs_in c.backends.items) cs ≡ map addresses (map (λ (c : spec.Change). c.backends) (map change_view cs))
unfolding addresses
later_addresses [] = refl
later_addresses (c ∷ cs) = λ i. macs_same c.backends.items i ∷ later_addresses cs i

all_tables : (bs : List Backend) (cs : List Change) → map balance_table (rows_in names_in bs cs) ≡ map table (backends_of (backends_view bs) (map change_view cs))
unfolding table
all_tables bs cs = λ i. balance_table (names_same bs i) ∷ later_tables cs i

all_addresses : (bs : List Backend) (cs : List Change) → rows_in macs_in bs cs ≡ map addresses (backends_of (backends_view bs) (map change_view cs))
unfolding addresses
all_addresses bs cs = λ i. macs_same bs i ∷ later_addresses cs i

-- the address that an epoch's table and addresses give, whether or not there is such an epoch
same_mac : (backs : List (List spec.Backend)) (e hash : ℕ) → slice_index_or (slice_index_or (map addresses backs) e []) (backend_in (slice_index_or (map table backs) e []) hash) [] ≡ mac_for (slice_index_or backs e []) hash
unfolding table addresses
same_mac [] e hash = refl
same_mac (b ∷ bs) zero hash = refl
same_mac (b ∷ bs) (suc e) hash = same_mac bs e hash

tables_built : (rows : List Epoch) → map table_of_epoch rows ≡ map balance_table (names_built rows)
tables_built [] = refl
tables_built (r ∷ rs) = ap (λ ts. table_of_epoch r ∷ ts) (tables_built rs)

pub stage_built : (bs : List Backend) (cs : List Change) (rows : List Epoch) (epochs : EpochTables) (macs : List (Vec (List ℕ))) (flow : Flow) → begins_built rows ≡ begins_in cs → names_built rows ≡ rows_in names_in bs cs → epochs ≡ epoch_tables rows
    → macs_built macs ≡ rows_in macs_in bs cs → balance_by epochs macs flow ≡ balance_stage (backends_view bs) (map change_view cs) flow
stage_built bs cs rows epochs macs flow begins names is addressed =
    let starts : epochs.begins ≡ begins_of (map change_view cs) = ap (λ (t : EpochTables). t.begins) is ∙ (begins ∙ ap (λ ns. 0 ∷ ns) (begins_same cs)) in
    let tables : epochs.tables ≡ map table (backends_of (backends_view bs) (map change_view cs)) = ap (λ (t : EpochTables). t.tables) is ∙ (tables_built rows ∙ (ap (map balance_table) names ∙ all_tables bs cs)) in
    let lists : macs_built macs ≡ map addresses (backends_of (backends_view bs) (map change_view cs)) = addressed ∙ all_addresses bs cs in
    let mac : flow_mac epochs macs flow.opened flow.hash ≡ mac_for (backends_for (backends_view bs) (map change_view cs) flow.opened) flow.hash =
    (λ i. slice_index_or (slice_index_or (lists i) (epoch_of (starts i) flow.opened) []) (backend_in (slice_index_or (tables i) (epoch_of (starts i) flow.opened) []) flow.hash) [])
    ∙ same_mac (backends_of (backends_view bs) (map change_view cs)) (epoch_of (begins_of (map change_view cs)) flow.opened) flow.hash in
    ap (λ m. alone (balanced m)) mac

-- HOW MANY

length-of : {A B : Type 0} (f : A → B) (xs : List A) → length (map f xs) ≡ length xs
length-of f [] = refl
length-of f (x ∷ xs) = ap suc (length-of f xs)

-- a list of lists of which each has 1 to 64 elements
abbrev Fits : List (List ℕ) → Type 0
Fits xs = (1 ≤ length xs) × (length xs ≤ 64)

names_few : (bs : List Backend) → AreFew bs → Fits (names_in bs)
names_few bs few = let e = length-of (λ (b : Backend). b.name) bs in let least = few.0 in let most = few.1 in (omega arith, omega arith)

later_few : (cs : List Change) → AllByRecursion change_few cs → AllByRecursion Fits (map (λ (c : Change). names_in c.backends.items) cs)
later_few [] few = tt
later_few (c ∷ cs) few = (names_few c.backends.items few.0, later_few cs few.1)

one_named : (rows : List Epoch) → AllByRecursion Fits (names_built rows) → AreNamed rows
one_named [] few k e at = cc
one_named (r ∷ rs) few zero e at = let same : r ≡ e = cc in subst (λ (x : Epoch). IsNamed x) same (record { some = few.0.0; few = few.0.1 })
one_named (r ∷ rs) few (suc k) e at = one_named rs few.1 k e at

pub rows_named : (bs : List Backend) (cs : List Change) (rows : List Epoch) → names_built rows ≡ rows_in names_in bs cs → AreFew bs → AllByRecursion change_few cs → AreNamed rows
rows_named bs cs rows names first later = one_named rows (subst (AllByRecursion Fits) (sym names) (names_few bs first, later_few cs later))

-- ADDRESSES OF EACH

same_long : (cs : List Change) → map length (map (λ (c : Change). names_in c.backends.items) cs) ≡ map length (map (λ (c : Change). macs_in c.backends.items) cs)
same_long [] = refl
same_long (c ∷ cs) = λ i. (length-of (λ (b : Backend). b.name) c.backends.items ∙ sym (length-of (λ (b : Backend). b.mac) c.backends.items)) i ∷ same_long cs i

all_long : (bs : List Backend) (cs : List Change) → map length (rows_in names_in bs cs) ≡ map length (rows_in macs_in bs cs)
all_long bs cs = λ i. (length-of (λ (b : Backend). b.name) bs ∙ sym (length-of (λ (b : Backend). b.mac) bs)) i ∷ same_long cs i

-- two lists of lists of the same lengths: where one has a list, so has the other
beside : {A B : Type 0} (f : A → List (List ℕ)) (g : B → List (List ℕ)) (xs : List A) (ys : List B) → map length (map f xs) ≡ map length (map g ys) → (e : ℕ) (y : B) → slice_get ys e ≡ Some y → (x : A) × (slice_get xs e ≡ Some x) × (length (f x) ≡ length (g y))
beside f g [] [] same e y at = cc
beside f g [] (z ∷ zs) same e y at = cc
beside f g (x ∷ xs) [] same e y at = cc
beside f g (x ∷ xs) (z ∷ zs) same zero y at = let is : z ≡ y = cc in let long : length (f x) ≡ length (g z) = cc in (x, refl, long ∙ ap (λ w. length (g w)) is)
beside f g (x ∷ xs) (z ∷ zs) same (suc e) y at = let rest : map length (map f xs) ≡ map length (map g zs) = cc in beside f g xs zs rest e y at

pub macs_there : (bs : List Backend) (cs : List Change) (rows : List Epoch) (epochs : EpochTables) (macs : List (Vec (List ℕ))) → begins_built rows ≡ begins_in cs → names_built rows ≡ rows_in names_in bs cs → epochs ≡ epoch_tables rows
    → macs_built macs ≡ rows_in macs_in bs cs → ((e hash : ℕ) (row : Epoch) → slice_get rows e ≡ Some row → backend_in (slice_index_or epochs.tables e []) hash < length row.names.items) → HasMacs epochs macs
macs_there bs cs rows epochs macs begins names is addressed within =
    let same : map length (names_built rows) ≡ map length (macs_built macs) = ap (map length) names ∙ (all_long bs cs ∙ ap (map length) (sym addressed)) in
    record {
      each = sym (length-of (λ (v : Vec (List ℕ)). v.items) macs) ∙ (ap length addressed ∙ (ap suc (length-of (λ (c : Change). macs_in c.backends.items) cs ∙ sym (length-of (λ (c : Change). c.from) cs)) ∙ (sym (ap length begins) ∙ sym (ap (λ (t : EpochTables). length t.begins) is))));
      backends = λ e hash row at.
          let other = beside (λ (r : Epoch). r.names.items) (λ (v : Vec (List ℕ)). v.items) rows macs same e row at in
          subst (λ n. backend_in (slice_index_or epochs.tables e []) hash < n) other.2 (within e hash other.0 other.1);
    }
