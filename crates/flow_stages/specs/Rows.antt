-- The backends of a stage, epoch by epoch: those of epoch 0, and then those of each change.
use Rattle.std.specs.Prelude.{ℕ, ◌≤◌, List, ◌∷◌, map, length}
use Rattle.std.specs.Global.{Vec}
use Rattle.lb_maglev.specs.declared.epochs.Epoch.{Epoch}
use Rattle.chain_types.specs.declared.stage.Backend.{Backend}
use Rattle.chain_types.specs.declared.stage.Change.{Change}

-- there are 1 to 64
abbrev pub AreFew : List Backend → Type 0
AreFew bs = (1 ≤ length bs) × (length bs ≤ 64)

abbrev pub change_few : Change → Type 0
change_few c = AreFew c.backends.items

abbrev pub names_in : List Backend → List (List ℕ)
names_in bs = map (λ (b : Backend). b.name) bs

abbrev pub macs_in : List Backend → List (List ℕ)
macs_in bs = map (λ (b : Backend). b.mac) bs

-- where each epoch begins, and its backends' names and Ethernet addresses
abbrev pub begins_in : List Change → List ℕ
begins_in cs = 0 ∷ map (λ (c : Change). c.from) cs

abbrev pub rows_in : (List Backend → List (List ℕ)) → List Backend → List Change → List (List (List ℕ))
rows_in f bs cs = f bs ∷ map (λ (c : Change). f c.backends.items) cs

-- the same of what is built of them
abbrev pub begins_built : List Epoch → List ℕ
begins_built rows = map (λ (e : Epoch). e.from) rows

abbrev pub names_built : List Epoch → List (List (List ℕ))
names_built rows = map (λ (e : Epoch). e.names.items) rows

abbrev pub macs_built : List (Vec (List ℕ)) → List (List (List ℕ))
macs_built macs = map (λ (v : Vec (List ℕ)). v.items) macs
