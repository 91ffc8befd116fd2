-- What the values of the code say, in the words of the definitions.
use Rattle.std.specs.Prelude.{Option, Some, None, map}
use Rattle.brick_spec.specs.CaptureFault as spec_fault
use Rattle.chain_spec.specs.ChainFault as spec_chains
use Rattle.tenant_spec.specs.Tenant as spec_tenant
use Rattle.run_spec.specs.Report as spec_report
use Rattle.chain_text.specs.Gives.{seen}
use Rattle.run_report.specs.declared.report.Output.{Output}
use Rattle.run_report.specs.declared.report.Tally.{Tally}
use Rattle.run_report.specs.declared.report.TenantEnd.{TenantEnd}
use Rattle.run_report.specs.declared.report.TenantEnd.TheVariants.{Done, TooLong, BadCapture, ReadFault, WriteFault}
use Rattle.run_report.specs.declared.refusal.Refusal.{Refusal}
use Rattle.run_report.specs.declared.refusal.Refusal.TheVariants.{ShortHeader, Magic, Version, Link, CutRecord}
use Rattle.run_report.specs.declared.refusal.Refusal.TheVariants.{LongRecord}
use Rattle.run_report.specs.declared.report.Line.{Line}
use Rattle.run_report.specs.declared.report.Outcome.{Outcome}
use Rattle.run_report.specs.declared.report.Outcome.TheVariants.{Usage, ChainsRefused, StoreFault, NoMemory, Checked}
use Rattle.run_report.specs.declared.report.Outcome.TheVariants.{Reported}

abbrev pub output_view : Output → spec_tenant.Output
output_view o = record { name = o.name; items = o.items }

abbrev pub tally_view : Tally → spec_tenant.Tally
tally_view t = record {
  accepted = t.accepted;
  refused = t.refused;
  drops = t.drops;
  outputs = map output_view t.outputs.items;
}

abbrev pub refusal_view : Refusal → spec_fault.CaptureFault
refusal_view (ShortHeader len) = spec_fault.ShortHeader len
refusal_view (Magic word) = spec_fault.Magic word
refusal_view (Version major minor) = spec_fault.Version major minor
refusal_view (Link word) = spec_fault.Link word
refusal_view (CutRecord number at) = spec_fault.CutRecord number at
refusal_view (LongRecord number len) = spec_fault.LongRecord number len

abbrev pub end_view : TenantEnd → spec_report.TenantEnd
end_view (Done t) = spec_report.Done (tally_view t)
end_view TooLong = spec_report.TooLong
end_view (BadCapture refusal) = spec_report.BadCapture (refusal_view refusal)
end_view ReadFault = spec_report.ReadFault
end_view WriteFault = spec_report.WriteFault

abbrev pub line_view : Line → spec_report.Line
line_view l = record { name = l.name; end = end_view l.end }

-- a chain file that is not accepted, or want of memory where its first fault was not found
abbrev pub refused_view : Option spec_chains.ChainFault → spec_report.Outcome
refused_view (Some fault) = spec_report.ChainsRefused fault
refused_view None = spec_report.NoMemory

abbrev pub outcome_view : Outcome → spec_report.Outcome
outcome_view Usage = spec_report.Usage
outcome_view (ChainsRefused fault) = refused_view (seen fault)
outcome_view StoreFault = spec_report.StoreFault
outcome_view NoMemory = spec_report.NoMemory
outcome_view (Checked names) = spec_report.Checked names.items
outcome_view (Reported lines) = spec_report.Reported (map line_view lines.items)
