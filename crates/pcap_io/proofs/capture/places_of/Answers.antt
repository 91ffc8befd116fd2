use Rattle.std.proofs.Common.{◌≡◌, ◌+◌, [], ◌∷◌, length-drop, length-append, length, drop, subst, arith}
use Rattle.std.proofs.lemmas.Grind.{elements}
use Rattle.brick_spec.specs.Bytes.{IsBytes}
use Rattle.brick_spec.specs.CaptureFault.{captured_length}
use Rattle.pcap_io.specs.Reading.{IsRecord}
use Rattle.pcap_io.specs.View.{order_view, IsStuckBy}
use Rattle.pcap_io.proofs.Places.{places_more, fits_more}
use Rattle.pcap_io.proofs.Refusals.{stuck_there}
use Rattle.pcap_io.proofs.capture.places_of.Goals as goal

pub returns-in-Err-clause-fault : goal.returns-in-Err-clause-fault
returns-in-Err-clause-fault c =
    let stuck : IsStuckBy (order_view c.args.order) (drop c.loop-at.at c.args.records.now) c.in-Err.stuck = subst (λ rest. IsStuckBy (order_view c.args.order) rest c.in-Err.stuck) c.split_at.ensures.back c.in-Err.ensures.stuck in
    let there = stuck_there (order_view c.args.order) c.args.records.now c.loop-at.places.items c.loop-at.at c.in-Err.stuck c.loop-at.invariant.text c.loop-at.invariant.fit c.loop-at.invariant.within stuck in
    let number : c.len.result ≡ length c.loop-at.places.items = omega (arith, c.len.ensures) in
    rw (c.record_fault.ensures, number) there

pub loop-at-preserved : goal.loop-at-preserved
loop-at-preserved c =
    let found : IsRecord (order_view c.args.order) (drop c.loop-at.at c.args.records.now) × (c.in-Ok.size ≡ 16 + captured_length (order_view c.args.order) (drop c.loop-at.at c.args.records.now)) = rw (← c.split_at.ensures.back) c.in-Ok.ensures.whole in
    let bytes : IsBytes c.args.records.now = λ i. omega (arith, c.type_inv.records i) in
    record {
      text = rw c.in_ok-push-in-Ok.ensures.items (places_more (order_view c.args.order) c.args.records.now c.loop-at.places.items c.loop-at.at c.in-Ok.size bytes c.loop-at.invariant.text found.0 found.1);
      fit = rw c.in_ok-push-in-Ok.ensures.items (fits_more (order_view c.args.order) c.args.records.now c.loop-at.places.items c.loop-at.at bytes c.loop-at.invariant.fit found.0);
      whole = grind (arith, elements, c.in_ok-push-in-Ok.ensures.items, c.loop-at.invariant.whole, found.0);
      few = rw c.in_ok-push-in-Ok.ensures.items (omega (arith, length-append c.loop-at.places.items (c.loop-at.at ∷ []), found.1));
      within = omega (arith, found.0.there, found.1, length-drop c.loop-at.at c.args.records.now);
    }
