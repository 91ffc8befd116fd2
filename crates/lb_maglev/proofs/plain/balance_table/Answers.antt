-- The turns leave the table.
use Rattle.std.proofs.Common.{sym, ap, ◌∙◌, length}
use Rattle.std.proofs.lemmas.List.{take_at}
use Rattle.std.proofs.lemmas.Result.{IfOk-weaker}
use Rattle.lb_maglev.proofs.TurnLemmas.{turns_none, length-turns, turned}
use Rattle.lb_maglev.proofs.plain.balance_table.Goals as goal

pub take_turns-requires-clause-free : goal.take_turns-requires-clause-free
take_turns-requires-clause-free c = c.deref_mut.ensures.value ∙ c.in_ok-places.ensures ∙ sym (turns_none c.args.names.now)

pub returns : goal.returns
returns c =
    IfOk-weaker c.taken_places.result _ _ (λ table is.
    is ∙ turned c.args.names.now _ (c.deref.ensures.value
    ∙ take_at _ _ _ (ap length c.in_ok-take_turns.ensures ∙ length-turns c.args.names.now 251
    ∙ sym (sym c.deref_mut.ensures.len ∙ ap length (c.deref_mut.ensures.value ∙ c.in_ok-places.ensures ∙ sym (turns_none c.args.names.now)) ∙ length-turns c.args.names.now 0))
    ∙ c.in_ok-take_turns.ensures)) c.taken_places.ensures
