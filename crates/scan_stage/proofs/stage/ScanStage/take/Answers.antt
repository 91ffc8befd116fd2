use Rattle.std.proofs.Common.{◌≡◌, List, [], ◌∷◌, ◌++◌, Option, Some, refl, sym, subst, ◌∙◌}
use Rattle.std.specs.Option.{IsSome}
use Rattle.std.specs.Ordering.{nat_cmp}
use Rattle.std.specs.BTreeMap.{get}
use Rattle.flow_spec.specs.Scan.{is_found}
use Rattle.scan_stage.specs.FlowScans.{AreOf, FlowScansFit}
use Rattle.scan_stage.specs.ScanKind.{FitsAt}
use Rattle.scan_stage.specs.declared.flow_scans.FlowScans.{FlowScans}
use Rattle.scan_stage.proofs.MapSteps.{written_all}
use Rattle.scan_stage.proofs.Treating.{ok_map}
use Rattle.scan_stage.proofs.stage.ScanStage.take.Goals as goal

pub invariant_of-self-2 : goal.invariant_of-self-2
invariant_of-self-2 c =
    let s = c.open.new.self in
    let k = s.kinds c.args.flow c.in-Some.scans.now (sym c.in-Some.ensures.value) in
    let there : IsSome (get nat_cmp s.scans c.args.flow) = subst (λ (o : Option FlowScans). IsSome o) c.in-Some.ensures.value refl in
    record {
      length = s.length;
      within = s.within;
      kinds = written_all s.scans (c.get_mut.follows.lender c.take.new.self) c.args.flow c.take.new.self ((c.get_mut.follows.holds c.take.new.self).3 there) (AreOf s.text.items s.reach) (c.take.ensures.of s.text.items s.reach k) s.kinds;
    }

pub returns-clause-ok : goal.returns-clause-ok
returns-clause-ok c = λ items x fit d is.
    let s = c.open.new.self in
    let same = c.open.ensures.same in
    let k = s.kinds c.args.flow c.in-Some.scans.now (sym c.in-Some.ensures.value) in
    let fits : FlowScansFit c.in-Some.scans.now items = subst (λ (o : Option FlowScans). FitsAt o items) (sym c.in-Some.ensures.value) (c.in_ok-open.ensures.fits items fit) in
    let found : IsSome (get nat_cmp s.scans c.args.flow) = subst (λ (o : Option FlowScans). IsSome o) c.in-Some.ensures.value refl in
    let there : Some c.take.new.self ≡ get nat_cmp (c.get_mut.follows.lender c.take.new.self) c.args.flow = sym ((c.get_mut.follows.holds c.take.new.self).3 found).1 in
    ok_map c.take.result _ _ (λ found done. (
      done.0 ∙ (λ i. is_found (same.0 i).items (same.1 i) (items ++ x ∷ [])),
      subst (λ (o : Option FlowScans). FitsAt o (items ++ x ∷ [])) there done.1,
    )) (c.take.ensures.ok s.text.items s.reach items x k fits d is)
