use Rattle.std.proofs.Common.{◌≡◌, refl, true, false, ◌∙◌, ◌++◌, ◌∷◌, [], sym, take, arith}
use Rattle.std.proofs.lemmas.Bool.Decides.{nat_tests}
use Rattle.brick_base.specs.Flow.{class_view}
use Rattle.brick_spec.specs.FlowClass.{class_of}
use Rattle.brick_spec.specs.Item.{item_of}
use Rattle.pcap_io.specs.View.{entry_view}
use Rattle.flow_key.specs.Frames.{frames_of}
use Rattle.chain_types.specs.View.{chain_view}
use Rattle.tenant_spec.specs.Records.{is_big}
use Rattle.tenant_run.specs.Made.{accepted_upto}
use Rattle.tenant_run.proofs.InOrder.{waits_next, counts_accepted, waits_still, counts_big}
use Rattle.tenant_run.proofs.Making.{few_known, class_there, known_next}
use Rattle.tenant_run.proofs.records.take_record.Goals as goal

pub note_big-requires : goal.note_big-requires
note_big-requires g c = few_known (chain_view c.args.chain.now).nat c.args.capture.now c.args.k c.args.classifier.now (entry_view c.entry-entry.result) c.entry-entry.ensures.entry c.requires.known c.requires.below

pub returns-then-entry-chain-clause-known : goal.returns-then-entry-chain-clause-known
returns-then-entry-chain-clause-known g c =
    let nat = (chain_view c.args.chain.now).nat in
    known_next nat c.args.capture.now c.args.k c.note_big.new.classifier (entry_view c.entry-entry.result) c.entry-entry.ensures.entry (c.in_ok-note_big.ensures nat (take c.args.k (frames_of c.args.capture.now)) c.requires.known)

pub returns-then-entry-chain-clause-waits : goal.returns-then-entry-chain-clause-waits
returns-then-entry-chain-clause-waits g c = λ h.
    let chain = chain_view c.args.chain.now in
    let e = entry_view c.entry-entry.result in
    let told = class_of chain.nat (take c.args.k (frames_of c.args.capture.now)) e.frame in
    let class = class_there chain.nat c.args.capture.now c.args.k told e c.entry-entry.ensures.entry refl in
    let long : is_big chain (item_of c.args.k e) ≡ true = grind (arith, nat_tests) in
    (h.0, h.1, waits_still chain c.args.capture.now c.args.k told e class c.entry-entry.ensures.entry long ∙ h.2)

pub returns-then-entry-chain-clause-counted : goal.returns-then-entry-chain-clause-counted
returns-then-entry-chain-clause-counted g c =
    let chain = chain_view c.args.chain.now in
    let e = entry_view c.entry-entry.result in
    let told = class_of chain.nat (take c.args.k (frames_of c.args.capture.now)) e.frame in
    let class = class_there chain.nat c.args.capture.now c.args.k told e c.entry-entry.ensures.entry refl in
    let long : is_big chain (item_of c.args.k e) ≡ true = grind (arith, nat_tests) in
    counts_big chain c.args.capture.now c.args.k told e class c.entry-entry.ensures.entry long c.args.counts.now c.requires.counted

pub classify-requires : goal.classify-requires
classify-requires g c = few_known (chain_view c.args.chain.now).nat c.args.capture.now c.args.k c.args.classifier.now (entry_view c.entry-entry.result) c.entry-entry.ensures.entry c.requires.known c.requires.below

pub returns-clause-known : goal.returns-clause-known
returns-clause-known g c =
    let nat = (chain_view c.args.chain.now).nat in
    known_next nat c.args.capture.now c.args.k c.classify.new.self (entry_view c.entry-entry.result) c.entry-entry.ensures.entry (c.in_ok-class.ensures.known nat (take c.args.k (frames_of c.args.capture.now)) c.requires.known)

pub returns-clause-waits : goal.returns-clause-waits
returns-clause-waits g c = λ h.
    let chain = chain_view c.args.chain.now in
    let e = entry_view c.entry-entry.result in
    let told = c.in_ok-class.ensures.class chain.nat (take c.args.k (frames_of c.args.capture.now)) c.requires.known in
    let class = class_there chain.nat c.args.capture.now c.args.k (class_view c.in_ok-class.class) e c.entry-entry.ensures.entry told in
    let small : is_big chain (item_of c.args.k e) ≡ false = grind (arith, nat_tests) in
    let before = accepted_upto chain c.args.capture.now c.args.k in
    let next = c.let_wait.ensures.waits before (c.in_ok-packet.ensures.waits before h) in (
      next.0,
      next.1,
      waits_next chain c.args.capture.now c.args.k (class_view c.in_ok-class.class) e class c.entry-entry.ensures.entry small
          ∙ ((λ i. before ++ record { class = class_view c.in_ok-class.class; item = sym c.in_ok-packet.ensures.item i } ∷ []) ∙ next.2),
    )

pub returns-clause-counted : goal.returns-clause-counted
returns-clause-counted g c =
    let chain = chain_view c.args.chain.now in
    let e = entry_view c.entry-entry.result in
    let told = c.in_ok-class.ensures.class chain.nat (take c.args.k (frames_of c.args.capture.now)) c.requires.known in
    let class = class_there chain.nat c.args.capture.now c.args.k (class_view c.in_ok-class.class) e c.entry-entry.ensures.entry told in
    let small : is_big chain (item_of c.args.k e) ≡ false = grind (arith, nat_tests) in
    counts_accepted chain c.args.capture.now c.args.k (class_view c.in_ok-class.class) e class c.entry-entry.ensures.entry small c.args.counts.now c.requires.counted
