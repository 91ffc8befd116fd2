-- The turns leave the table, and its shares are even.
use Rattle.std.proofs.Common.{◌≡◌, ℕ, ◌+◌, ◌<◌, ◌≤◌, sym, ap, subst, ◌∙◌, map, sum, length, List, Some}
use Rattle.std.specs.List.{range_with_len}
use Rattle.std.proofs.lemmas.List.{take_at}
use Rattle.brick_spec.specs.Balance.{balance_table, backend_in, share_in}
use Rattle.lb_maglev.specs.Walks.{AreWalks}
use Rattle.lb_maglev.specs.declared.walk.Walk.{Walk}
use Rattle.lb_maglev.proofs.TurnLemmas.{turns_none, length-turns, turns_ended, turned}
use Rattle.lb_maglev.proofs.ShareLemmas.{shares_even, shares_whole, share_other, backend_within}
use Rattle.lb_maglev.proofs.table.Maglev.build.Goals as goal
use Rattle.lb_maglev.proofs.table.Maglev.build.Goals.{After-drop-walks-2}

pub take_turns-requires-clause-free : goal.take_turns-requires-clause-free
take_turns-requires-clause-free c = c.deref_mut.ensures.value ∙ c.in_ok-places.ensures ∙ sym (turns_none c.args.names.now)

pub take_turns-requires-clause-walks : goal.take_turns-requires-clause-walks
take_turns-requires-clause-walks c =
    subst (λ (walks : List Walk). AreWalks c.deref_mut.result.now c.args.names.now walks) (sym c.deref_mut-2.ensures.value) (c.in_ok-walks.ensures.walks c.deref_mut.result.now)

table : (c : After-drop-walks-2) → c.in_ok-backends.backends.items ≡ balance_table c.args.names.now
table c =
    c.in_ok-backends.ensures
    ∙ turned c.args.names.now _ (c.deref.ensures.value
    ∙ take_at _ _ _ (ap length c.take_turns.ensures ∙ length-turns c.args.names.now 251
    ∙ sym (sym c.deref_mut.ensures.len ∙ ap length (c.deref_mut.ensures.value ∙ c.in_ok-places.ensures ∙ sym (turns_none c.args.names.now)) ∙ length-turns c.args.names.now 0))
    ∙ c.take_turns.ensures)

pub returns-clause-table : goal.returns-clause-table
returns-clause-table c = table c

pub returns-clause-taken : goal.returns-clause-taken
returns-clause-taken c k ended = turns_ended c.args.names.now k ended ∙ ap (map (λ b. Some b)) (sym (table c))

pub returns-clause-backends : goal.returns-clause-backends
returns-clause-backends c hash =
    subst (λ (t : List ℕ). backend_in t hash < length c.args.names.now) (sym (table c)) (backend_within c.args.names.now hash c.requires.some)

pub returns-clause-whole : goal.returns-clause-whole
returns-clause-whole c =
    subst (λ (t : List ℕ). sum (map (share_in t) (range_with_len 0 (length c.args.names.now))) ≡ 251) (sym (table c)) (shares_whole c.args.names.now c.requires.some)

pub returns-clause-even : goal.returns-clause-even
returns-clause-even c a b h k =
    subst (λ (t : List ℕ). share_in t a ≤ share_in t b + 1) (sym (table c)) (shares_even c.args.names.now a b h k)

pub returns-clause-others : goal.returns-clause-others
returns-clause-others c b past =
    subst (λ (t : List ℕ). share_in t b ≡ 0) (sym (table c)) (share_other c.args.names.now b c.requires.some past)
