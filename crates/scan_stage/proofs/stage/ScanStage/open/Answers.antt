use Rattle.scan_stage.specs.FlowScans.{AreOf}
use Rattle.scan_stage.proofs.MapSteps.{inserted_all}
use Rattle.scan_stage.proofs.stage.ScanStage.open.Goals as goal

pub invariant_of-self : goal.invariant_of-self
invariant_of-self c =
    let s = c.args.self.now in
    record {
      length = s.length;
      within = s.within;
      kinds = inserted_all c.insert.result s.scans c.insert.new.self c.args.flow c.in_ok-scans.scans c.insert.ensures.updates c.insert.ensures.err (AreOf s.text.items s.reach) (rw c.deref.ensures.value at c.in_ok-scans.ensures.of) s.kinds;
    }
