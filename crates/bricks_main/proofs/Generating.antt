-- The promises of mode `gen`, from what its parts did.
use Rattle.std.proofs.Common.{◌≡◌, ◌≢◌, ◌⊎◌, inl, inr, ℕ, ◌*◌, ◌<◌, ◌≤◌, List, [], ◌∷◌, ◌++◌, length, refl, sym, ◌∙◌, ap, subst, arith, codes, true≢false}
use Rattle.std.specs.Prelude.{All, Option, Some, IsSomeAnd, IsTrue, IsErr, Result, Ok, Err, map}
use Rattle.std.specs.Global.{Vec}
use Rattle.std.specs.List.{AllByRecursion}
use Rattle.brick_base.specs.declared.memory.NoMemory.{NoMemory as NoMemoryInCode}
use Rattle.brick_spec.specs.Capture.{Contents, IsReadable}
use Rattle.brick_spec.specs.Cause.{Rose, generating_account, writing_account}
use Rattle.brick_spec.specs.Files.{Files, FaultCounts, IsReading, AppendsFront}
use Rattle.brick_spec.specs.Texts.{Holds, MayWrite, SomeRose, OthersStayOf}
use Rattle.words_spec.specs.AcceptedWords.{is_plain_folder, generated_number}
use Rattle.chain_spec.specs.ChainSet.{Chain, file_names}
use Rattle.chain_spec.specs.ChainWalk.{read_chains}
use Rattle.run_spec.specs.Generated.{capture_name, chains_name, generated_capture, generated_chains, generated_texts}
use Rattle.run_spec.specs.Generator.{StopsGenerating, RunsGenerated, GeneratorPromises, names_in}
use Rattle.run_spec.specs.Isolation.{none_refused, IsTrueOf}
use Rattle.run_spec.specs.Report.{TenantEnd, Line, ReadFault, Outcome, StoreFault, NoMemory, Reported, lines_of, status_of}
use Rattle.run_spec.specs.Seen.{Held, Printed, Seen, Captured}
use Rattle.run_spec.specs.Subject.{NoneTouched}
use Rattle.run_spec.specs.Tenants.{TenantRan, TenantMay}
use Rattle.run_spec.specs.Told.{Told, Shown}
use Rattle.capture_gen.specs.Accepted.{generated_chain}
use Rattle.capture_gen.specs.Contents.{generated_contents}
use Rattle.capture_gen.proofs.Accepted.{accepted}
use Rattle.capture_gen.proofs.Readable.{generated_readable}
use Rattle.capture_gen.proofs.Generator.{none_written, shown_no_memory, no_store_fault, report_no_store_fault, one_line, generator_kept, reports_one, counts_of_one, none_reads}
use Rattle.run_report.specs.View.{end_view, line_view}
use Rattle.run_report.specs.declared.report.TenantEnd.{TenantEnd as EndInCode}
use Rattle.run_report.specs.declared.report.Line.{Line as LineInCode}
use Rattle.tenant_files.specs.declared.inputs.TenantInput.TheVariants.{Whole}
use Rattle.tenant_files.specs.Run.{RanOn}
use Rattle.tenant_files.specs.Written.{WroteEnd}
use Rattle.tenant_files.proofs.Steps.{ran_one, may_one, may_failed}
use Rattle.bricks_main.specs.OneTenant.{OneRan}
use Rattle.bricks_main.proofs.Promises.{Ran, status_is, promises_kept, outcome_kept}

-- WHERE IT STOPPED

module _ (tells shows : Type 0) (first : ℕ) (out : List ℕ) (plain : IsTrue (is_plain_folder out)) (before now : Seen) (status : ℕ)
    (counts : (account : ℕ) (name : List ℕ) → IsReading account → now.store.faults account name ≡ before.store.faults account name)
    (files : tells → MayWrite (generated_texts first out) before.store.files now.store.files) where
  -- one of the two could not be written
  pub fault_kept : SomeRose generating_account (names_in (generated_texts first out)) before.store.faults now.store.faults
      → Told StoreFault status → (shows → Shown StoreFault before.sink now.sink status) → GeneratorPromises tells shows first out before now status
  fault_kept cause told shown = generator_kept tells shows first out plain before now status
      (inl (record { ends = status_is StoreFault status told; cause = λ e. cause; files = files; shown = shown })) counts

  -- memory ran out
  pub memory_kept : Told NoMemory status → (shows → Shown NoMemory before.sink now.sink status) → GeneratorPromises tells shows first out before now status
  memory_kept told shown =
      let six : status ≡ 6 = status_is NoMemory status told in
      generator_kept tells shows first out plain before now status (inl (record {
        ends = inr six;
        cause = λ e. absurd (omega arith);
        files = files;
        shown = λ w. subst (Shown StoreFault before.sink now.sink) (sym six) (shown_no_memory before.sink now.sink (subst (Shown NoMemory before.sink now.sink) six (shown w)));
      })) counts

-- WHERE IT RAN

-- each of the tenant's files may hold a prefix of its text
may_run : (tells : Type 0) (out : List ℕ) (plain : IsTrue (is_plain_folder out)) (mid now : Held) → (tells → mid.files (chains_name out) ≡ Some (generated_chains out))
    → (tells → TenantMay out 0 (generated_chain out) [] mid.files now.files) → IsTrueOf tells (chains_name out) out none_refused mid now NoMemory
may_run tells out plain mid now there may x = inr (
  generated_chain out ∷ [],
  subst (λ (o : Option (List ℕ)). IsSomeAnd o (λ bytes. read_chains (chains_name out) out bytes ≡ Ok (generated_chain out ∷ []))) (sym (there x)) (accepted out plain),
  ((may x).files, tt),
  λ name away. (may x).others name away,
)

module _ (tells shows : Type 0) (first : ℕ) (out : List ℕ) (plain : IsTrue (is_plain_folder out)) (before now : Seen) (mid : Held) (status : ℕ)
    (written : tells → AllByRecursion (Holds mid.files) (generated_texts first out) × OthersStayOf (names_in (generated_texts first out)) before.store.files mid.files)
    (later : (account : ℕ) (name : List ℕ) → before.store.faults account name ≤ mid.faults account name)
    (generating : (account : ℕ) (name : List ℕ) → account ≢ generating_account → mid.faults account name ≡ before.store.faults account name)
    (writing : (account : ℕ) (name : List ℕ) → account ≢ writing_account 0 → now.store.faults account name ≡ mid.faults account name)
    (sink : status ≡ 5 → Rose before.sink.faults now.sink.faults) where
  run_kept : (o : Outcome) → IsTrueOf tells (chains_name out) out none_refused mid now.store o → Told o status → (shows → Shown o before.sink now.sink status)
      → status_of o ≢ 4 → All (λ (line : Line). line.end ≢ ReadFault) (lines_of o) → GeneratorPromises tells shows first out before now status
  run_kept o true_of told shown other read =
      let r : Ran tells shows (chains_name out) out none_refused (record before { store = mid }) now o status = record {
        is_true = true_of;
        told = told;
        sink = sink;
        shown = shown;
        counts = λ account name above. writing account name (λ e. omega arith);
        tenants = counts_of_one tells first out plain mid now.store (λ x. (written x).0) writing;
      } in
      generator_kept tells shows first out plain before now status (inr (record {
        mid = mid;
        written = written;
        later = later;
        set = promises_kept tells shows (chains_name out) out none_refused (record before { store = mid }) now o status r;
        store_fault = no_store_fault o status told other;
        read_fault = subst (λ (x : Outcome). All (λ (line : Line). line.end ≢ ReadFault) (lines_of x))
            (sym (outcome_kept tells shows (chains_name out) out none_refused (record before { store = mid }) now o status r)) read;
      })) (none_reads before.store.faults mid.faults now.store.faults generating writing)

  -- the tenant's line is told
  pub told_kept : (o : Outcome) (line : Line) → o ≡ Reported (line ∷ []) → TenantRan tells out mid.faults 0 (generated_chain out) [] mid now.store line → line.end ≢ ReadFault
      → Told o status → (shows → Shown o before.sink now.sink status) → GeneratorPromises tells shows first out before now status
  told_kept o line is ran read told shown =
      run_kept (Reported (line ∷ [])) (reports_one tells first out plain mid now.store (λ x. (written x).0) line ran)
      (subst (λ (x : Outcome). Told x status) is told) (λ w. subst (λ (x : Outcome). Shown x before.sink now.sink status) is (shown w))
      (report_no_store_fault (line ∷ [])) (one_line line read)

  -- memory ran out
  pub ended_kept : (tells → TenantMay out 0 (generated_chain out) [] mid.files now.store.files) → Told NoMemory status → (shows → Shown NoMemory before.sink now.sink status)
      → GeneratorPromises tells shows first out before now status
  ended_kept may told shown =
      run_kept NoMemory (may_run tells out plain mid now.store (λ x. (written x).0.1.0) may) told shown (λ e. omega arith) (λ k d low. absurd (omega arith))

  -- there is a line of the one tenant
  pub one_kept : (chain : Chain) (lines : Vec LineInCode) → chain ≡ generated_chain out → OneRan tells out chain mid now.store (Ok lines)
      → Told (Reported (map line_view lines.items)) status → (shows → Shown (Reported (map line_view lines.items)) before.sink now.sink status) → GeneratorPromises tells shows first out before now status
  one_kept chain lines same ran told shown =
      let r = subst (λ (d : Chain). OneRan tells out d mid now.store (Ok lines)) same ran in
      told_kept (Reported (map line_view lines.items)) r.0 (ap Reported r.1) r.2 r.3 told shown

  -- there is none, for memory ran out
  pub none_kept : (chain : Chain) → chain ≡ generated_chain out → (tells → TenantMay out 0 chain [] mid.files now.store.files)
      → Told NoMemory status → (shows → Shown NoMemory before.sink now.sink status) → GeneratorPromises tells shows first out before now status
  none_kept chain same may told shown =
      ended_kept (subst (λ (d : Chain). tells → TenantMay out 0 d [] mid.files now.store.files) same may) told shown

-- its capture is at hand
pub made_captured : (first : ℕ) (out : List ℕ) (files : Files) (chain : Chain) (c : Contents) → chain ≡ generated_chain out → c ≡ generated_contents first 20000
    → files (capture_name out) ≡ Some (generated_capture first 20000) → Captured files chain.capture c
made_captured first out files chain c same says there =
    let read : Captured files (capture_name out) (generated_contents first 20000) =
    subst (λ (o : Option (List ℕ)). IsSomeAnd o (λ bytes. IsReadable bytes (generated_contents first 20000))) (sym there) (generated_readable first 20000 (omega arith)) in
    subst (λ (d : Chain). Captured files d.capture c) (sym same) (subst (λ (k : Contents). Captured files (capture_name out) k) (sym says) read)

-- WHERE MEMORY RAN OUT before the words were read

pub early_gen : (tells shows : Type 0) (first : ℕ) (out : List ℕ) (store : Held) (before now : Printed) (s : ℕ) → s ≡ 6 → (shows → AppendsFront (codes "out of memory\n") before.bytes now.bytes)
    → GeneratorPromises tells shows first out (record { store = store; sink = before }) (record { store = store; sink = now }) s
early_gen tells shows first out store before now s six front = subst (GeneratorPromises tells shows first out (record { store = store; sink = before }) (record { store = store; sink = now })) (sym six) (record {
  line = λ e. omega arith;
  run = inl (record {
    ends = inr refl;
    cause = λ e. absurd (omega arith);
    files = λ x. none_written (generated_texts first out) store.files;
    shown = λ w. record { front = front w; whole = inr (inl refl); report = λ low. absurd (omega arith) };
  });
  files = λ x four not_six. absurd (not_six refl);
  counts = λ account name reads. refl;
  completeness = λ x set says none. inr refl;
})

-- THE ONE TENANT, whose capture is at hand

untouched : (names : List (List ℕ)) (files : Files) → NoneTouched names files files
untouched [] files = tt
untouched (n ∷ ns) files = (refl, untouched ns files)

module _ (tells : Type 0) (out : List ℕ) (chain : Chain) (c : Contents) where
  not_read_fault : (before now : Held) (end : TenantEnd) → WroteEnd tells out 0 chain [] c before now end → end ≢ ReadFault
  not_read_fault before now end wrote e = subst (WroteEnd tells out 0 chain [] c before now) e wrote

  one_ran : (before now : Held) → (tells → Captured before.files chain.capture c) → ((account : ℕ) (name : List ℕ) → before.faults account name ≤ now.faults account name)
      → (end : EndInCode) → RanOn tells out 0 chain [] (Whole c) before now (Ok end)
      → TenantRan tells out before.faults 0 chain [] before now (record { name = chain.name; end = end_view end })
  one_ran before now captured more end ran = ran_one tells out 0 chain [] before before now (λ account name. omega arith) (λ x. refl) (Whole c) end captured more ran

  -- nothing was done
  pub one_none : (before : Held) → TenantMay out 0 chain [] before.files before.files
  one_none before = record { files = inl (untouched (file_names out chain) before.files); others = λ name away. refl }

  -- memory ran out
  pub one_failed : (before now : Held) (e : NoMemoryInCode) → (tells → Captured before.files chain.capture c) → RanOn tells out 0 chain [] (Whole c) before now (Err e)
      → tells → TenantMay out 0 chain [] before.files now.files
  one_failed before now e captured ran x = may_failed tells out 0 chain [] before before now (Whole c) e x (λ y. refl) captured ran

  -- memory ran out behind it
  pub one_unsaid : (before now : Held) → (tells → Captured before.files chain.capture c) → ((account : ℕ) (name : List ℕ) → before.faults account name ≤ now.faults account name)
      → (end : EndInCode) → RanOn tells out 0 chain [] (Whole c) before now (Ok end) → tells → TenantMay out 0 chain [] before.files now.files
  one_unsaid before now captured more end ran x =
      may_one tells out before.faults 0 chain [] before now (record { name = chain.name; end = end_view end }) x (one_ran before now captured more end ran)

  -- there is a line of it
  pub one_told : (before now : Held) → (tells → Captured before.files chain.capture c) → ((account : ℕ) (name : List ℕ) → before.faults account name ≤ now.faults account name)
      → (end : EndInCode) → RanOn tells out 0 chain [] (Whole c) before now (Ok end) → (lines : Vec LineInCode) (l : LineInCode) → lines.items ≡ l ∷ [] → l.name ≡ chain.name → l.end ≡ end
      → OneRan tells out chain before now (Ok lines)
  one_told before now captured more end ran lines l only named ends = (
    record { name = chain.name; end = end_view end },
    ap (map line_view) only ∙ same_line l.name chain.name l.end end named ends,
    one_ran before now captured more end ran,
    not_read_fault before now (end_view end) ran,
  )
    where
      same_line : (a b : List ℕ) (x y : EndInCode) → a ≡ b → x ≡ y → ◌≡◌ {A = List Line} (record { name = a; end = end_view x } ∷ []) (record { name = b; end = end_view y } ∷ [])
      same_line a b x y e f = λ i. record { name = e i; end = end_view (f i) } ∷ []

pub one_err : (tells : Type 0) (r : Result (Vec LineInCode) NoMemoryInCode) (out : List ℕ) (chain : Chain) (before now : Held) → IsErr r → (tells → TenantMay out 0 chain [] before.files now.files)
    → OneRan tells out chain before now r
one_err tells (Ok lines) out chain before now err may = absurd (true≢false (sym err))
one_err tells (Err e) out chain before now err may = may

-- THE NUMBER of the words is one

pub spelt_kept : (tells shows : Type 0) (number other : ℕ) (chains out : List ℕ) (before now : Seen) (status : ℕ) → generated_number chains ≡ Some number
    → GeneratorPromises tells shows number out before now status → generated_number chains ≡ Some other → GeneratorPromises tells shows other out before now status
spelt_kept tells shows number other chains out before now status is kept spelt = subst (λ (n : ℕ). GeneratorPromises tells shows n out before now status) (same (sym is ∙ spelt)) kept
  where
    same : ◌≡◌ {A = Option ℕ} (Some number) (Some other) → number ≡ other
    same e = cc
