use Rattle.std.proofs.Common.{◌≡◌, ◌<◌, List, [], ◌∷◌, ◌++◌, length, subst, sym, ◌∙◌, arith}
use Rattle.brick_spec.specs.Stream.{StreamSegment, reassembly}
use Rattle.window_stream.specs.Answers.{segment_of}
use Rattle.flow_spec.specs.FlowStream.{bytes_in_order}
use Rattle.flow_spec.specs.Scan.{first_occurrence}
use Rattle.stream_scan.specs.ScanModel.{ScanModel, ScansFor}
use Rattle.stream_scan.specs.contracts.scan.Scan.{the_view}
use Rattle.stream_scan.proofs.Scanning.{stays_found, goes_on}
use Rattle.stream_scan.proofs.scan.Scan.take.Goals as goal

pub returns-then-is_some-clause-ok : goal.returns-then-is_some-clause-ok
returns-then-is_some-clause-ok c =
    subst (λ (s : ScanModel). (segments : List StreamSegment) → ScansFor s segments
    → (c.self.inside.search.found ≡ first_occurrence s.needle (bytes_in_order (reassembly s.stream.reach (segments ++ segment_of c.args.segment ∷ [])))) × ScansFor s (segments ++ segment_of c.args.segment ∷ [])) c.self.view_is
    (λ segments h. stays_found (the_view c.self.inside) segments (segment_of c.args.segment) (omega (arith, c.self.inside.search.length)) h (sym c.is_some.ensures ∙ c.if-is_some.true))

pub returns-clause-ok : goal.returns-clause-ok
returns-clause-ok c =
    subst (λ (s : ScanModel). (segments : List StreamSegment) → ScansFor s segments
    → (c.search_on.new.search.found ≡ first_occurrence s.needle (bytes_in_order (reassembly s.stream.reach (segments ++ segment_of c.args.segment ∷ [])))) × ScansFor (the_view (record { search = c.search_on.new.search; stream = c.drop_before.new.self })) (segments ++ segment_of c.args.segment ∷ [])) c.self.view_is
    (goes_on c.self.inside.search c.self.inside.stream (segment_of c.args.segment) c.search_on.new.search c.take.new.self c.drop_before.new.self
    (record {
      none = sym c.is_some.ensures ∙ c.if-is_some.false;
      same_place = c.self.invariant.searched;
      takes = λ segments h. (c.in_ok-take.ensures.ok segments h).1;
      same_reach = c.in_ok-take.ensures.same.1;
      searches = c.search_on.ensures.goes_on;
      same_needle = c.search_on.ensures.needle;
      place = c.search_on.ensures.searched;
      cuts = c.drop_before.ensures.segments;
      reach_stays = c.drop_before.ensures.same.1;
    }))
