use Rattle.std.proofs.Common.{◌≡◌, ℕ, Some, drop, slice_index, sym, ◌∙◌, ap, arith}
use Rattle.std.proofs.lemmas.Grind.{common_steps}
use Rattle.pcap_io.specs.Reading.{front_entry}
use Rattle.pcap_io.specs.View.{order_view}
use Rattle.pcap_io.proofs.Captures.{entry_there, entries_count}
use Rattle.pcap_io.proofs.capture.Capture.entry.Goals as goal

pub returns-clause-entry : goal.returns-clause-entry
returns-clause-entry c =
    let count = entries_count (order_view c.self.inside.order) (drop 24 c.self.inside.bytes.items) c.self.inside.places.items in
    let within = rw (← c.self.view_is) at c.requires in
    let there = entry_there (order_view c.self.inside.order) (drop 24 c.self.inside.bytes.items) c.self.inside.places.items c.args.k (omega (arith, count, within)) in
    let place : c.index.result.now ≡ slice_index c.self.inside.places.items c.args.k = grind (arith, common_steps) in
    let records : c.split_at.result.1.now ≡ drop 24 c.self.inside.bytes.items = c.split_at.ensures.back ∙ ap (drop 24) c.deref.ensures.value in
    let rest : c.split_at-2.result.1.now ≡ drop (slice_index c.self.inside.places.items c.args.k) (drop 24 c.self.inside.bytes.items) = c.split_at-2.ensures.back ∙ ap (λ (at : ℕ). drop at c.split_at.result.1.now) place ∙ ap (drop (slice_index c.self.inside.places.items c.args.k)) records in
    rw (← c.self.view_is) (there ∙ ap Some (sym (c.record_at_front.ensures.entry ∙ ap (front_entry (order_view c.self.inside.order)) rest)))
