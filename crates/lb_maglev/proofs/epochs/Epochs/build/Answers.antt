-- The backends of an epoch are those of its table.
use Rattle.std.proofs.Common.{◌∙◌, ◌<◌, sym, ap, subst, List, ℕ, [], length, map, get_or, arith}
use Rattle.std.proofs.lemmas.List.{take_all}
use Rattle.brick_spec.specs.Balance.{backend_in}
use Rattle.lb_maglev.specs.EpochTables.{table_of_epoch}
use Rattle.lb_maglev.proofs.EpochLemmas.{table_at}
use Rattle.lb_maglev.proofs.ShareLemmas.{backend_within}
use Rattle.lb_maglev.proofs.epochs.Epochs.build.Goals as goal

pub returns-clause-backends : goal.returns-clause-backends
returns-clause-backends c e hash row at =
    let rows = c.args.rows.items in
    let ended = c.loop-k-test.false in
    let whole = c.loop-k.invariant ∙ ap (map table_of_epoch) (take_all c.loop-k.k rows (omega arith)) in
    subst (λ (t : List ℕ). backend_in t hash < length row.names.items) (sym (ap (λ (ts : List (List ℕ)). get_or ts e []) whole ∙ table_at rows e row at))
    (backend_within row.names.items hash (c.requires.named e row at).some)
