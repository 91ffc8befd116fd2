-- The definitions speak of frames, and the classifier of five-tuples.
use Rattle.std.proofs.Common.{◌∙◌, sym, ap, arith, length, option_map}
use Rattle.std.proofs.lemmas.List.{length-map}
use Rattle.brick_base.specs.Flow.{dir_view}
use Rattle.brick_spec.specs.FlowClass as spec
use Rattle.tcp_udp.specs.View.{tuple_view}
use Rattle.flow_key.specs.OpenedView.{opened_view}
use Rattle.flow_key.specs.Maps.{ClassifierModel, after_frames, class_of_record, class_found}
use Rattle.flow_key.proofs.Known.{class_is}
use Rattle.flow_key.proofs.Views.{flow_viewed}
use Rattle.flow_key.proofs.classifier.Classifier.classify.Goals as goal

pub returns-clause-class : goal.returns-clause-class
returns-clause-class c plan frames e =
    let n = c.in_ok-flow.flow in
    let dir = dir_view c.in_ok-flow.dir in
    let flows = c.self.inside.flows.items in
    let viewed = ap (λ (m : ClassifierModel). m.known.flows) c.self.view_is in
    let below = c.in_ok-flow.ensures.within in
    let long = ap length viewed in
    let same = length-map flows opened_view in
    c.class_of.ensures
    ∙ ap (λ (o : spec.Opened). record { flow = spec.flow_with n o; dir = dir }) (sym (flow_viewed flows n c.index.result.now c.index.ensures (omega arith)))
    ∙ ap (λ fs. class_found fs (n, dir)) viewed
    ∙ c.in_ok-flow.ensures.class
    ∙ ap (λ (m : ClassifierModel). class_of_record m (option_map tuple_view c.read.result)) e
    ∙ ap (class_of_record (after_frames plan frames)) c.read.ensures
    ∙ class_is plan frames c.args.frame.now
