use Rattle.std.proofs.Common.{◌≡◌, ◌+◌, List, [], refl, sym, ap, ◌∙◌, subst, arith}
use Rattle.std.proofs.lemmas.List.{length-map, ext_get_or}
use Rattle.lane_spec.specs.Counts.{IsEachOnce}
use Rattle.lane_spec.specs.Pairs.{Pair}
use Rattle.lane_core.specs.View.{pairs_in}
use Rattle.lane_core.specs.Seats.{log_of}
use Rattle.lane_table.specs.declared.view.Stored.TheVariants.{Free}
use Rattle.lane_table.proofs.AtEnd.{all_received, all_home}
use Rattle.lane_table.proofs.Ends.{ended_from, all_roles, all_once}
use Rattle.lane_table.proofs.lane.TableLane.shut.Goals as goal

pub join_all-requires-clause-workers : goal.join_all-requires-clause-workers
join_all-requires-clause-workers c = ended_from _ 0 c.args.workers.items (λ w x at. let r = c.requires.workers w x at in let e : w ≡ 0 + w = omega arith in (r.0.table, r.1 ∙ e, r.2, r.3))

pub emptied-home-requires-clause-full : goal.emptied-home-requires-clause-full
emptied-home-requires-clause-full c = λ i lt. let l = c.args.self in let f = c.close_with.ensures.values.2 in let j = c.join_all.ensures.joined in let n = l.key.0 in let w = l.key.2 in let q = c.requires.count in let s = l.shares in let b = l.small.2 in
    let h = all_home l.table.shared.key f.0 f.1.0 c.join_all.new.all.id c.join_all.new.all.me.0 f.1.1 j.found (omega arith) (λ r lt'. all_roles _ _ _ _ j r (omega arith)) (λ r lt'. j.ended r (omega arith)) i (omega arith) in
    (h.0, f.4 i (Free h.0) h.1, h.2)

pub returns : goal.returns
returns c = let l = c.args.self in let g = c.args.ingest in let f = c.close_with.ensures.values.2 in let j = c.join_all.ensures.joined in let w = l.key.2 in let q = c.requires.count in let s = l.shares in let b = l.small.2 in
    let got = all_received l.table.shared.key f.0 f.1.0 c.join_all.new.all.id c.join_all.new.all.me.0 f.1.1 j.found (omega arith) (λ r lt'. all_roles _ _ _ _ j r (omega arith)) (λ r lt'. j.ended r (omega arith)) in
    let received : List (List Pair) = pairs_in c.join_all.new.received.items in let sent : List (List Pair) = pairs_in g.sent.items in let m = length-map g.sent.items (λ l. l.pairs) in let o = c.requires.ingest.0.count in let k = j.count in
    let same = ext_get_or [] received sent (omega arith) (λ r lt. sym (j.logs r (omega arith)) ∙ (got r (omega arith)).0 ∙ ap (λ (t : List (List Pair)). log_of t r) (j.sent_is ∙ sym g.logs)) in
    record {
      buffers = refl;
      sent = refl;
      received = c.join_all.ensures.received;
      missed = refl;
      whole = record { same = same; home = subst (IsEachOnce l.buffers) (sym (c.of.ensures ∙ c.emptied-home.ensures)) (all_once l.buffers) };
    }
