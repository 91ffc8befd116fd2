use Rattle.std.proofs.Common.{◌≡◌, map, option_map}
use Rattle.std.specs.Option.{option_or}
use Rattle.chain_text.proofs.Least.{first}
use Rattle.chain_text.proofs.fields.stranger.Given as goal

abbrev pub invariant-members : goal.invariant-members
invariant-members l =
    (goal.iterator-members).can_next l.key-iterator ×
    (goal.iterator-members).is_finite l.key-iterator ×
    (option_or (option_map (λ k. k.now) l.least) (first (map (λ r. r.now) l.row) l.key-iterator) ≡ first (map (λ r. r.now) l.row) l.table.entries)
