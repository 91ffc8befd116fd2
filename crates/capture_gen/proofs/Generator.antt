-- The promises of mode `gen`, from what its parts do: the two files are written, and then all is as in mode `inline` on them.
use Rattle.std.proofs.Common.{◌≡◌, ◌≢◌, ◌⊎◌, inl, inr, ℕ, ◌*◌, ◌<◌, ◌≤◌, Bool, true, false, cond, List, [], ◌∷◌, ◌++◌, length, Ok, Some, refl, ap, sym, ◌∙◌, subst, arith, true≢false, append-nil}
use Rattle.std.specs.Prelude.{Result, Option, All, IsSomeAnd, IsTrue, codes}
use Rattle.std.specs.List.{AllByRecursion, list_all}
use Rattle.std.specs.Str.{bytes_eq}
use Rattle.std.proofs.lemmas.List.{append_cancel_left}
use Rattle.std.proofs.lemmas.List.Elements.{All-cons}
use Rattle.std.proofs.lemmas.Slice.Eq.{bytes_eq-Decides}
use Rattle.words_spec.specs.AcceptedWords.{is_plain_folder}
use Rattle.brick_spec.specs.Capture.{IsReadable}
use Rattle.brick_spec.specs.Cause.{Rose, generating_account, writing_account}
use Rattle.brick_spec.specs.Files.{Files, FaultCounts, IsReading, IsPrefix}
use Rattle.brick_spec.specs.Texts.{Text, Holds, MayHold, Untouched, StopsWithin, WritesTexts, MayWrite, SomeRose, OthersStayOf}
use Rattle.chain_spec.specs.ChainFault.{ChainFault}
use Rattle.chain_spec.specs.ChainSet.{Chain, file_names, run_files}
use Rattle.chain_spec.specs.ChainWalk.{read_chains}
use Rattle.run_spec.specs.Generated.{capture_name, chains_name, generated_capture, generated_chains, generated_texts}
use Rattle.run_spec.specs.Generator.{StopsGenerating, RunsGenerated, GeneratorPromises, names_in}
use Rattle.tenant_spec.specs.Tenant.{texts_of}
use Rattle.run_spec.specs.Isolation.{IsTrueOf, none_refused}
use Rattle.run_spec.specs.Report.{Line, ReadFault, Outcome, StoreFault, NoMemory, Reported, is_done, status_of}
use Rattle.run_spec.specs.Seen.{Held, Printed, Seen, NoneRose, Says, Captured}
use Rattle.run_spec.specs.Tenants.{TenantRan}
use Rattle.run_spec.specs.Told.{Told, Shown}
use Rattle.run_spec.proofs.Set.{reported}
use Rattle.capture_gen.specs.Accepted.{generated_chain}
use Rattle.capture_gen.specs.Contents.{generated_contents}
use Rattle.capture_gen.proofs.Accepted.{accepted}
use Rattle.capture_gen.proofs.Readable.{generated_readable}

-- WHAT THE TWO FILES SAY, where they are there

says_chain : (out : List ℕ) (files : Files) → IsTrue (is_plain_folder out) → files (chains_name out) ≡ Some (generated_chains out) → Says (chains_name out) out files (generated_chain out ∷ [])
says_chain out files plain there =
    subst (λ (o : Option (List ℕ)). IsSomeAnd o (λ bytes. read_chains (chains_name out) out bytes ≡ Ok (generated_chain out ∷ []))) (sym there) (accepted out plain)

says_no_other : (out : List ℕ) (files : Files) (set : List Chain) → IsTrue (is_plain_folder out) → files (chains_name out) ≡ Some (generated_chains out) → Says (chains_name out) out files set
    → generated_chain out ∷ [] ≡ set
says_no_other out files set plain there says =
    same (sym (accepted out plain) ∙ subst (λ (o : Option (List ℕ)). IsSomeAnd o (λ bytes. read_chains (chains_name out) out bytes ≡ Ok set)) there says)
  where
    same : ◌≡◌ {A = Result (List Chain) ChainFault} (Ok (generated_chain out ∷ [])) (Ok set) → generated_chain out ∷ [] ≡ set
    same e = cc

captured : (first : ℕ) (out : List ℕ) (files : Files) → files (capture_name out) ≡ Some (generated_capture first 20000) → Captured files (capture_name out) (generated_contents first 20000)
captured first out files there =
    subst (λ (o : Option (List ℕ)). IsSomeAnd o (λ bytes. IsReadable bytes (generated_contents first 20000))) (sym there) (generated_readable first 20000 (omega arith))

-- NAMES: neither is a file of the run

apart : (out a b : List ℕ) → bytes_eq a b ≡ false → out ++ a ≢ out ++ b
apart out a b h e = true≢false (sym ((bytes_eq-Decides a b).1 (append_cancel_left out a b e)) ∙ h)

capture_apart : (out : List ℕ) → AllByRecursion (λ file. capture_name out ≢ file) (run_files out (generated_chain out ∷ []))
capture_apart out =
    let own : List ℕ = codes "/gen.pcap" in
    (apart out own (codes "/gen.web.pcap") refl, (apart out own (codes "/gen.rest.pcap") refl, (apart out own (codes "/gen.refused") refl, tt)))

chains_apart : (out : List ℕ) → AllByRecursion (λ file. chains_name out ≢ file) (run_files out (generated_chain out ∷ []))
chains_apart out =
    let own : List ℕ = codes "/gen.toml" in
    (apart out own (codes "/gen.web.pcap") refl, (apart out own (codes "/gen.rest.pcap") refl, (apart out own (codes "/gen.refused") refl, tt)))

pub names_differ : (out : List ℕ) → capture_name out ≢ chains_name out
names_differ out = apart out (codes "/gen.pcap") (codes "/gen.toml") refl

-- COUNTS

rose_since : (a b c : ℕ) → a ≤ b → Rose b c → Rose a c
rose_since a b c below rose = omega arith

some_rose : (account : ℕ) (names : List (List ℕ)) (before now : FaultCounts) → ((a : ℕ) (n : List ℕ) → ¬ (Rose (before a n) (now a n))) → SomeRose account names before now → ⊥
some_rose account [] before now none r = r
some_rose account (n ∷ ns) before now none (inl r) = none account n r
some_rose account (n ∷ ns) before now none (inr r) = some_rose account ns before now none r

-- WRITING

whole_may : (old new : Files) (t : Text) → Holds new t → MayHold old new t
whole_may old new t h = inr (subst (λ (o : Option (List ℕ)). IsSomeAnd o (λ bytes. IsPrefix bytes t.bytes)) (sym h) ([], sym (append-nil t.bytes)))

untouched_may : (old new : Files) (texts : List Text) → Untouched old new texts → AllByRecursion (MayHold old new) texts
untouched_may old new [] h = tt
untouched_may old new (t ∷ ts) h = (inl h.0, untouched_may old new ts h.1)

stopped_may : (why : Text → Type 0) (old new : Files) (texts : List Text) → StopsWithin why old new texts → AllByRecursion (MayHold old new) texts
stopped_may why old new [] h = absurd h
stopped_may why old new (t ∷ ts) (inl stop) = (stop.1, untouched_may old new ts stop.2)
stopped_may why old new (t ∷ ts) (inr goes) = (whole_may old new t goes.0, stopped_may why old new ts goes.1)

whole_each : (old new : Files) (texts : List Text) → AllByRecursion (Holds new) texts → AllByRecursion (MayHold old new) texts
whole_each old new [] h = tt
whole_each old new (t ∷ ts) h = (whole_may old new t h.0, whole_each old new ts h.1)

-- where writing stopped, each may hold a prefix
pub stopped_writes : (done : Type 0) (why : Text → Type 0) (texts : List Text) (old new : Files) → ¬ done → WritesTexts done why texts old new → MayWrite texts old new
stopped_writes done why texts old new stopped w = record { each = stopped_may why old new texts (w.stops stopped); others = w.others }

-- where memory ran out before, nothing was touched
pub none_written : (texts : List Text) (files : Files) → MayWrite texts files files
none_written texts files = record { each = untouched_may files files texts (same texts); others = λ name apart. refl }
  where
    same : (ts : List Text) → Untouched files files ts
    same [] = tt
    same (t ∷ ts) = (refl, same ts)

-- OUTCOMES

-- want of memory is told as it is told where the store failed and memory ran out
pub shown_no_memory : (before now : Printed) → Shown NoMemory before now 6 → Shown StoreFault before now 6
shown_no_memory before now s = record { front = s.front; whole = inr (inl refl); report = λ low. absurd (omega arith) }

-- status 4 is that of no outcome but a fault of the store
pub no_store_fault : (outcome : Outcome) (status : ℕ) → Told outcome status → status_of outcome ≢ 4 → status ≢ 4
no_store_fault outcome status (inl e) other four = other (sym e ∙ four)
no_store_fault outcome status (inr (inl e)) other four = omega (arith, e.0)
no_store_fault outcome status (inr (inr e)) other four = omega arith

pub report_no_store_fault : (lines : List Line) → status_of (Reported lines) ≢ 4
report_no_store_fault lines = by (list_all is_done lines)
  where
    by : (b : Bool) → ◌≢◌ {A = ℕ} (cond b 0 1) 4
    by true e = omega arith
    by false e = omega arith

-- the line of one tenant, whose capture was at hand
pub one_line : (line : Line) → line.end ≢ ReadFault → All (λ (l : Line). l.end ≢ ReadFault) (line ∷ [])
one_line line read = All-cons (λ (l : Line). l.end ≢ ReadFault) line [] read (λ k d low. absurd (omega arith))

-- THE PROMISES

module _ (tells shows : Type 0) (first : ℕ) (out : List ℕ) (plain : IsTrue (is_plain_folder out)) (before now : Seen) (status : ℕ) where
  -- no file of the run is one of the two, so they are there at the end
  still_there : tells → RunsGenerated tells shows first out before now status → AllByRecursion (Holds now.store.files) (generated_texts first out)
  still_there x r =
      let w = (r.written x).0 in
      let stay : (name : List ℕ) → AllByRecursion (λ file. name ≢ file) (run_files out (generated_chain out ∷ [])) → now.store.files name ≡ r.mid.files name =
      λ name away. (r.set.untouched x).stay name
      (λ set says. subst (λ (s : List Chain). AllByRecursion (λ file. name ≢ file) (run_files out s)) (says_no_other out r.mid.files set plain w.1.0 says) away) in
      (stay (capture_name out) (capture_apart out) ∙ w.0, (stay (chains_name out) (chains_apart out) ∙ w.1.0, tt))

  none_since : (r : RunsGenerated tells shows first out before now status) → NoneRose before now → NoneRose (record before { store = r.mid }) now
  none_since r none = record {
    store = λ account name rose. none.store account name (rose_since (before.store.faults account name) (r.mid.faults account name) (now.store.faults account name) (r.later account name) rose);
    sink = none.sink;
  }

  completes : tells → StopsGenerating tells shows first out before now status ⊎ RunsGenerated tells shows first out before now status → NoneRose before now → (status ≡ 0) ⊎ (status ≡ 6)
  completes x (inl s) none = by s.ends
    where
      by : (status ≡ 4) ⊎ (status ≡ 6) → (status ≡ 0) ⊎ (status ≡ 6)
      by (inl e) = absurd (some_rose generating_account (names_in (generated_texts first out)) before.store.faults now.store.faults none.store (s.cause e))
      by (inr e) = inr e
  completes x (inr r) none =
      let w = (r.written x).0 in
      (r.set.completeness x).succeeds (generated_chain out ∷ []) (generated_contents first 20000 ∷ []) (says_chain out r.mid.files plain w.1.0) (captured first out r.mid.files w.0, tt) (none_since r none)

  both_there : tells → StopsGenerating tells shows first out before now status ⊎ RunsGenerated tells shows first out before now status → status ≢ 4 → status ≢ 6
      → AllByRecursion (Holds now.store.files) (generated_texts first out)
  both_there x (inl s) four six = by s.ends
    where
      by : (status ≡ 4) ⊎ (status ≡ 6) → AllByRecursion (Holds now.store.files) (generated_texts first out)
      by (inl e) = absurd (four e)
      by (inr e) = absurd (six e)
  both_there x (inr r) four six = still_there x r

  -- whatever the status, each of the two is untouched or holds a prefix of its text
  pub at_most : tells → StopsGenerating tells shows first out before now status ⊎ RunsGenerated tells shows first out before now status
      → AllByRecursion (MayHold before.store.files now.store.files) (generated_texts first out)
  at_most x (inl s) = (s.files x).each
  at_most x (inr r) = whole_each before.store.files now.store.files (generated_texts first out) (still_there x r)

  no_usage : StopsGenerating tells shows first out before now status ⊎ RunsGenerated tells shows first out before now status → status ≢ 2
  no_usage (inl s) = by s.ends
    where
      by : (status ≡ 4) ⊎ (status ≡ 6) → status ≢ 2
      by (inl e) = omega arith
      by (inr e) = omega arith
  no_usage (inr r) = r.set.reading.line

  -- It stopped, or it ran; and no account that reads was used.
  pub generator_kept : StopsGenerating tells shows first out before now status ⊎ RunsGenerated tells shows first out before now status
      → ((account : ℕ) (name : List ℕ) → IsReading account → now.store.faults account name ≡ before.store.faults account name) → GeneratorPromises tells shows first out before now status
  generator_kept run counts = record {
    line = no_usage run;
    run = run;
    files = λ x. both_there x run;
    counts = counts;
    completeness = λ x set says. completes x run;
  }

-- THE RUN of the one tenant, from where the two files were written

module _ (tells : Type 0) (first : ℕ) (out : List ℕ) (plain : IsTrue (is_plain_folder out)) (mid now : Held) (there : tells → AllByRecursion (Holds mid.files) (generated_texts first out)) where
  -- the report of its line
  pub reports_one : (line : Line) → TenantRan tells out mid.faults 0 (generated_chain out) [] mid now line
      → IsTrueOf tells (chains_name out) out none_refused mid now (Reported (line ∷ []))
  reports_one line ran =
      reported tells (chains_name out) out none_refused (generated_chain out ∷ []) mid mid now (line ∷ []) (λ x. says_chain out mid.files plain (there x).1.0) (tt, tt) (λ x name. refl)
      (now, ran, record { files = λ x name. refl; later = λ account name. omega arith })

  -- want of memory, where each of its files may hold a prefix of its text
  pub may_have_run : (tells → AllByRecursion (MayHold mid.files now.files) (texts_of out (generated_chain out) [] (generated_contents first 20000)) × OthersStayOf (file_names out (generated_chain out)) mid.files now.files)
      → IsTrueOf tells (chains_name out) out none_refused mid now NoMemory
  may_have_run may x =
      let w = there x in
      inr (
        generated_chain out ∷ [],
        says_chain out mid.files plain w.1.0,
        (inr (generated_contents first 20000, captured first out mid.files w.0, (may x).0), tt),
        λ name away. (may x).1 name away,
      )

  -- of the accounts above that which writes for it none is used
  pub counts_of_one : ((account : ℕ) (name : List ℕ) → account ≢ writing_account 0 → now.faults account name ≡ mid.faults account name)
      → tells → (set : List Chain) → Says (chains_name out) out mid.files set → (account : ℕ) (name : List ℕ) → 2 * length set < account → now.faults account name ≡ mid.faults account name
  counts_of_one others x set says account name above =
      let one : length (generated_chain out ∷ []) ≡ length set = ap length (says_no_other out mid.files set plain (there x).1.0 says) in
      others account name (λ e. omega arith)

-- no account that reads is used, where none was but that which writes what is generated and that which writes for the one tenant
pub none_reads : (before mid now : FaultCounts) → ((a : ℕ) (n : List ℕ) → a ≢ generating_account → mid a n ≡ before a n) → ((a : ℕ) (n : List ℕ) → a ≢ writing_account 0 → now a n ≡ mid a n)
    → (account : ℕ) (name : List ℕ) → IsReading account → now account name ≡ before account name
none_reads before mid now generating writing account name (inl e) = writing account name (λ f. omega arith) ∙ generating account name (λ f. omega arith)
none_reads before mid now generating writing account name (inr (below, odd)) = writing account name (λ f. omega arith) ∙ generating account name (λ f. omega arith)
