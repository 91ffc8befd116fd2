-- What writing a tenant's files leaves.
use Rattle.std.specs.Prelude.{◌≡◌, ℕ, Bool, List, [], ◌∷◌, ◌++◌, length, map, Result, Ok, Err}
use Rattle.std.specs.List.{AllByRecursion, zip}
use Rattle.brick_base.specs.declared.memory.NoMemory.{NoMemory}
use Rattle.brick_spec.specs.Capture.{Contents}
use Rattle.brick_spec.specs.Cause.{writing_account}
use Rattle.brick_spec.specs.Item.{items_text}
use Rattle.brick_spec.specs.Texts.{Text, OthersStayOf, MayHold, SomeRose}
use Rattle.chain_spec.specs.ChainSet.{Chain, output_file, refused_file, file_names}
use Rattle.pcap_io.specs.declared.item.Item.{Item as ItemInCode}
use Rattle.tenant_spec.specs.Tenant.{Output, Tally, tally_of, texts_of, refused_text}
use Rattle.work_core.specs.Result.{items_view}
use Rattle.run_spec.specs.Report as report
use Rattle.run_spec.specs.Seen.{Held}
use Rattle.run_spec.specs.Subject.{tenant_subject, HasWritten, HasStopped}
use Rattle.run_report.specs.View.{end_view}
use Rattle.run_report.specs.declared.report.TenantEnd.{TenantEnd}
use Rattle.work_core.specs.declared.job.TenantDone.{TenantDone}

-- an output, and its file, by its name and its list
abbrev pub output_of : List ℕ × List ItemInCode → Output
output_of p = record { name = p.0; items = length p.1 }

abbrev pub text_of : List ℕ → List ℕ → Bool → List ℕ × List ItemInCode → Text
text_of out tenant nano p = record { name = output_file out tenant p.0; bytes = items_text nano (items_view p.1) }

-- what is counted, with outputs of these names
abbrev pub tally_with : List (List ℕ) → TenantDone → Tally
tally_with names done = record {
  accepted = done.accepted;
  refused = length done.refused;
  drops = done.drops;
  outputs = map output_of (zip names done.outputs.items);
}

-- the files of the tenant, with these lists for its outputs and these refused records
abbrev pub texts_with : List ℕ → Chain → Bool → List ℕ → List (List ItemInCode) → List Text
texts_with out chain nano refused lists =
    map (text_of out chain.name nano) (zip chain.outputs lists)
    ++ record { name = refused_file out chain.name; bytes = refused_text refused } ∷ []

-- a tenant's files were written, or writing stopped within them
abbrev pub WroteEnd : Type 0 → List ℕ → ℕ → Chain → List ℕ → Contents → Held → Held → report.TenantEnd → Type 0
WroteEnd tells out t chain refused c before now (report.Done tally) =
    (tally ≡ tally_of chain refused c)
    × (tells → HasWritten (tenant_subject out t chain refused) c now.files
    × OthersStayOf (file_names out chain) before.files now.files)
WroteEnd tells out t chain refused c before now report.WriteFault =
    SomeRose (writing_account t) (file_names out chain) before.faults now.faults
    × (tells → HasStopped (tenant_subject out t chain refused) c before now
    × OthersStayOf (file_names out chain) before.files now.files)
WroteEnd tells out t chain refused c before now report.TooLong = ⊥
WroteEnd tells out t chain refused c before now (report.BadCapture fault) = ⊥
WroteEnd tells out t chain refused c before now report.ReadFault = ⊥

-- or memory ran out, and each file may hold a prefix of its text
abbrev pub Wrote : Type 0 → List ℕ → ℕ → Chain → List ℕ → Contents → Held → Held → Result TenantEnd NoMemory → Type 0
Wrote tells out t chain refused c before now (Ok end) = WroteEnd tells out t chain refused c before now (end_view end)
Wrote tells out t chain refused c before now (Err no_memory) =
    tells → AllByRecursion (MayHold before.files now.files) (texts_of out chain refused c)
    × OthersStayOf (file_names out chain) before.files now.files
