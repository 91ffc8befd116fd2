-- A record more.
use Rattle.std.proofs.Common.{◌∙◌, ap, take, arith}
use Rattle.std.specs.Option.{option_map}
use Rattle.std.proofs.lemmas.List.{length-map, length-take-le}
use Rattle.std.proofs.lemmas.Option.{slice_get_within}
use Rattle.brick_spec.specs.Capture.{Entry}
use Rattle.pcap_io.specs.View.{entry_view}
use Rattle.flow_key.specs.View.{plan_view}
use Rattle.flow_key.specs.Frames.{frames_of}
use Rattle.flow_key.specs.Maps.{ClassifierModel}
use Rattle.flow_key.proofs.Known.{records_counted}
use Rattle.flow_key.proofs.Captures.{frame_at, so_far_more}
use Rattle.flow_key.proofs.classes.classify_all.Goals as goal

pub loop-k-preserved : goal.loop-k-preserved
loop-k-preserved c =
    let plan = option_map plan_view c.args.nat in
    let frames = frames_of c.args.capture.now in
    let entries = c.args.capture.now.entries in
    let within = slice_get_within entries c.loop-k.k (entry_view c.entry.result) c.entry.ensures.entry in
    let same = length-map entries (λ (x : Entry). x.frame) in
    so_far_more plan frames c.loop-k.k c.loop-k.classifier c.classify.new.self c.loop-k.classes.items c.push.new.self.items c.in_ok-class.class c.entry.result.frame.now
    c.loop-k.invariant (omega arith) (frame_at entries c.loop-k.k (entry_view c.entry.result) c.entry.ensures.entry)
    (c.in_ok-class.ensures.class plan (take c.loop-k.k frames) c.loop-k.invariant.known_is)
    (c.in_ok-class.ensures.known plan (take c.loop-k.k frames) c.loop-k.invariant.known_is)
    c.in_ok-push.ensures.items

-- there are fewer records than 2^32
pub classify-requires : goal.classify-requires
classify-requires c =
    let plan = option_map plan_view c.args.nat in
    let frames = frames_of c.args.capture.now in
    let entries = c.args.capture.now.entries in
    let within = slice_get_within entries c.loop-k.k (entry_view c.entry.result) c.entry.ensures.entry in
    let same = length-map entries (λ (x : Entry). x.frame) in
    let long = length-take-le c.loop-k.k frames (omega arith) in
    let known = ap (λ (m : ClassifierModel). m.known.records) c.loop-k.invariant.known_is ∙ records_counted plan (take c.loop-k.k frames) in
    let below = c.loop-k-test.true in
    let fits = c.count-k-end.type_inv in
    omega arith
