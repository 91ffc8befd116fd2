use Rattle.std.proofs.Common.{◌≡◌, ap, subst, map, List, ℕ}
use Rattle.toml.specs.View.{table_view}
use Rattle.chain_spec.specs.ChainWalk.{known, tenant_row}
use Rattle.chain_text.specs.Gives.{Gives}
use Rattle.chain_file.proofs.tenants.tenant_keys.Goals as goal

pub returns : goal.returns
unfolding tenant_row
returns c =
    let row : map (λ r. r.now) c.as_slice.result.now ≡ tenant_row = ap (map (λ r. r.now)) c.as_slice.ensures in
    subst (λ (r : List (List ℕ)). Gives (λ _. tt) c.known.result (known c.args.place r (table_view c.args.table.now))) row c.known.ensures
