-- The backends of a stage `balance`, and their changes.
use Rattle.std.proofs.Common.{◌≡◌, ◌&&◌, ◌≤◌, List, [], ◌∷◌, map, length, true, nat_le, arith}
use Rattle.std.proofs.lemmas.Bool.{and_parts, leb-true}
use Rattle.std.proofs.lemmas.List.{length-map}
use Rattle.std.specs.List.{AllByRecursion, list_all}
use Rattle.chain_spec.specs.ChainSet as spec
use Rattle.chain_spec.specs.ChainSet.{are_backends_right, are_distinct, are_rising, is_between, is_stage_right}
use Rattle.chain_types.specs.StageView.{backend_view, backends_view, change_view}
use Rattle.chain_types.specs.declared.stage.Backend.{Backend}
use Rattle.chain_types.specs.declared.stage.Change.{Change}
use Rattle.flow_stages.specs.Rows.{AreFew, change_few}

backends_few : (bs : List Backend) → are_backends_right (backends_view bs) ≡ true → AreFew bs
backends_few bs h =
    let n = length (backends_view bs) in
    let parts = and_parts (is_between 1 64 n) (are_distinct (map (λ b. b.name) (backends_view bs))) h in
    let range = and_parts (nat_le 1 n) (nat_le n 64) parts.0 in
    let low = leb-true 1 n range.0 in
    let high = leb-true n 64 range.1 in
    let e = length-map bs backend_view in
    (omega (arith, low, e), omega (arith, high, e))

changes_few : (cs : List Change) → list_all (λ c. are_backends_right c.backends) (map change_view cs) ≡ true → AllByRecursion change_few cs
changes_few [] h = tt
changes_few (c ∷ cs) h =
    let parts = and_parts (are_backends_right (backends_view c.backends.items)) (list_all (λ c. are_backends_right c.backends) (map change_view cs)) h in
    (backends_few c.backends.items parts.0, changes_few cs parts.1)

pub balance_few : (bs : List Backend) (cs : List Change) → is_stage_right (spec.Balance (backends_view bs) (map change_view cs)) ≡ true → AreFew bs × AllByRecursion change_few cs × (length cs ≤ 15)
balance_few bs cs h =
    let vs = map change_view cs in
    let own = and_parts (are_backends_right (backends_view bs)) (nat_le (length vs) 15 && (list_all (λ c. are_backends_right c.backends) vs && are_rising 0 vs)) h in
    let few = and_parts (nat_le (length vs) 15) (list_all (λ c. are_backends_right c.backends) vs && are_rising 0 vs) own.1 in
    let each = and_parts (list_all (λ c. are_backends_right c.backends) vs) (are_rising 0 vs) few.1 in
    let high = leb-true (length vs) 15 few.0 in
    let e = length-map cs change_view in
    (backends_few bs own.0, changes_few cs each.0, omega (arith, high, e))
