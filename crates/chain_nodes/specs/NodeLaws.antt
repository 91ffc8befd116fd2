-- Laws of places that stand in ghost members.
use Rattle.std.proofs.Common.{◌≡◌, ℕ, ◌+◌, ◌≤◌, List, [], ◌∷◌, ◌++◌, map, flat_map, length, ◌⊎◌, inl, inr, refl, ap}
use Rattle.std.proofs.Common.{sym, subst, ◌∙◌, arith, append-nil, append_assoc, length-append}
use Rattle.batch_ops.specs.declared.outlet.Passed.{Passed}
use Rattle.chain_nodes.specs.Node.{Took, PipeServes}

pub pipe_more : {P N : Type 0} (ready : P → Type 0) (spares least_room : P → ℕ) (serves : N → ℕ → ℕ → ℕ → Type 0)
    → ((n : N) (count bytes free all : ℕ) → free ≤ all → serves n count bytes free → serves n count bytes all)
    → (p : P) (n : N) (waiting : List Passed) (room count bytes free all : ℕ) → free ≤ all
    → PipeServes ready spares least_room serves p n waiting room count bytes free
    → PipeServes ready spares least_room serves p n waiting room count bytes all
pipe_more ready spares least_room serves more p n waiting room count bytes free all h s = record {
  ready_row = s.ready_row;
  within = s.within;
  enough = let e = s.enough in omega arith;
  long = s.long;
  behind = more n count bytes free all h s.behind;
  one_is_plain = s.one_is_plain;
  none_waits = s.none_waits;
  has_room = s.has_room;
}
