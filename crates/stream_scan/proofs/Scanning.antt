-- How a scan goes on to stand for the segments.
use Rattle.std.proofs.Common.{◌≡◌, ℕ, zero, ◌+◌, ◌-◌, ◌<◌, ◌≤◌, Bool, true, false, List, [], ◌∷◌, ◌++◌, Option, Some, None, length, refl, sym, ◌∙◌, ap, subst, arith}
use Rattle.std.specs.Prelude.{is_some}
use Rattle.brick_spec.specs.Stream.{StreamSegment, Payload, IsReady, bytes_of, ready_of, reassembly}
use Rattle.brick_spec.proofs.Streams.{ready_is, one_ready}
use Rattle.flow_spec.specs.FlowStream.{bytes_in_order}
use Rattle.flow_spec.specs.Scan.{first_occurrence}
use Rattle.window_stream.specs.StreamModel.{StreamModel, StandsFor}
use Rattle.stream_scan.specs.declared.search.Search.{Search}
use Rattle.stream_scan.specs.LastBytes.{last_bytes}
use Rattle.stream_scan.specs.Searched.{Searched, SearchedTo}
use Rattle.stream_scan.specs.ScanModel.{ScanModel, GoesOn, ScansFor, IsScan}
use Rattle.stream_scan.proofs.Finding.{stays}
use Rattle.stream_scan.proofs.Runs.{run_long}
use Rattle.stream_scan.proofs.Grown.{more, in_order_grows, before_same}

not_none : (o : Option ℕ) → is_some o ≡ true → o ≡ None → ⊥
not_none None h e = cc
not_none (Some x) h e = cc

is_none : (o : Option ℕ) → is_some o ≡ false → o ≡ None
is_none None h = refl
is_none (Some x) h = cc

-- what was found stays found
pub stays_found : (s : ScanModel) (segments : List StreamSegment) (c : StreamSegment) → 0 < length s.needle → ScansFor s segments → is_some s.found ≡ true
    → (s.found ≡ first_occurrence s.needle (bytes_in_order (reassembly s.stream.reach (segments ++ c ∷ [])))) × ScansFor s (segments ++ c ∷ [])
stays_found s segments c some h f =
    let found : s.found ≡ first_occurrence s.needle (bytes_in_order (reassembly s.stream.reach (segments ++ c ∷ []))) =
    stays s.needle some (bytes_in_order (reassembly s.stream.reach segments)) (more s.stream.reach segments c) s.found h.found f
    ∙ ap (first_occurrence s.needle) (sym (in_order_grows s.stream.reach segments c)) in
    (found, record { found = found; goes_on = λ e. absurd (not_none s.found f e) })

-- what a scan is seen as
abbrev seen : Search → StreamModel → ScanModel
seen s stream = record { needle = s.needle.items; found = s.found; tail = s.tail.items; searched = s.searched; stream = stream }

-- What the code has made: the stream took a segment, the search went on, and windows were let go.
pub record Made (search : Search) (stream : StreamModel) (c : StreamSegment) (searched : Search) (taken cut : StreamModel) : Type 0 where
  pub none : is_some search.found ≡ false
  pub same_place : search.searched ≡ stream.ready
  pub takes : (segments : List StreamSegment) → StandsFor stream segments → StandsFor taken (segments ++ c ∷ [])
  pub same_reach : taken.reach ≡ stream.reach
  pub searches : (segments : List StreamSegment) → StandsFor taken segments → SearchedTo search segments taken.reach → SearchedTo searched segments taken.reach
  pub same_needle : searched.needle ≡ search.needle
  pub place : searched.searched ≡ taken.ready
  pub cuts : (segments : List StreamSegment) → StandsFor taken segments → StandsFor cut segments
  pub reach_stays : cut.reach ≡ taken.reach

-- what a search knows of the bytes in order
in_order : (s : Search) (stream : StreamModel) (segments : List StreamSegment) → s.searched ≡ stream.ready → is_some s.found ≡ false → ScansFor (seen s stream) segments → Searched s (bytes_in_order (reassembly stream.reach segments))
in_order s stream segments e f h =
    let payloads = (reassembly stream.reach segments).payloads in
    let goes_on : GoesOn (seen s stream) segments = h.goes_on (is_none s.found f) in
    record {
      count = e ∙ one_ready payloads stream.ready (ready_of payloads) goes_on.stream.in_order (ready_is payloads) ∙ sym (run_long payloads (ready_of payloads) (ready_is payloads) 0 (ready_of payloads) (omega arith));
      tail = goes_on.tail;
      found = h.found;
    }

module _ (search : Search) (stream : StreamModel) (c : StreamSegment) (searched : Search) (taken cut : StreamModel) (m : Made search stream c searched taken cut) where
  -- the search before it, of the stream behind it
  before : (segments : List StreamSegment) → ScansFor (seen search stream) segments → SearchedTo search (segments ++ c ∷ []) stream.reach
  before segments h =
      let payloads = (reassembly stream.reach segments).payloads in
      let goes_on : GoesOn (seen search stream) segments = h.goes_on (is_none search.found m.none) in
      let place : search.searched ≡ ready_of payloads = m.same_place ∙ one_ready payloads stream.ready (ready_of payloads) goes_on.stream.in_order (ready_is payloads) in
      subst (λ (xs : List ℕ). Searched search xs)
      (sym (before_same stream.reach segments c (ready_of payloads) (ready_is payloads)) ∙ ap (bytes_of (reassembly stream.reach (segments ++ c ∷ [])).payloads 0) (sym place))
      (in_order search stream segments m.same_place m.none h)

  after : (segments : List StreamSegment) → ScansFor (seen search stream) segments → Searched searched (bytes_in_order (reassembly stream.reach (segments ++ c ∷ [])))
  after segments h =
      let all = segments ++ c ∷ [] in
      let payloads = (reassembly stream.reach all).payloads in
      let goes_on : GoesOn (seen search stream) segments = h.goes_on (is_none search.found m.none) in
      let stands : StandsFor taken all = m.takes segments goes_on.stream in
      let ready : IsReady payloads taken.ready = subst (λ (r : ℕ). IsReady (reassembly r all).payloads taken.ready) m.same_reach stands.in_order in
      let place : searched.searched ≡ ready_of payloads = m.place ∙ one_ready payloads taken.ready (ready_of payloads) ready (ready_is payloads) in
      let on : SearchedTo search all stream.reach → SearchedTo searched all stream.reach = subst (λ (r : ℕ). SearchedTo search all r → SearchedTo searched all r) m.same_reach (m.searches all stands) in
      subst (λ (xs : List ℕ). Searched searched xs) (ap (bytes_of payloads 0) place) (on (before segments h))

  pub goes_on : (segments : List StreamSegment) → ScansFor (seen search stream) segments
      → (searched.found ≡ first_occurrence search.needle.items (bytes_in_order (reassembly stream.reach (segments ++ c ∷ [])))) × ScansFor (seen searched cut) (segments ++ c ∷ [])
  goes_on segments h =
      let all = segments ++ c ∷ [] in
      let old : GoesOn (seen search stream) segments = h.goes_on (is_none search.found m.none) in
      let reach : stream.reach ≡ cut.reach = sym (m.reach_stays ∙ m.same_reach) in
      let known : Searched searched (bytes_in_order (reassembly cut.reach all)) = subst (λ (r : ℕ). Searched searched (bytes_in_order (reassembly r all))) reach (after segments h) in (
        (after segments h).found ∙ ap (λ (n : List ℕ). first_occurrence n (bytes_in_order (reassembly stream.reach all))) (ap (λ n. n.items) m.same_needle),
        record {
          found = known.found;
          goes_on = λ e. record { stream = m.cuts all (m.takes segments old.stream); tail = known.tail };
        },
      )
