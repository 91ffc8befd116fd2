use Rattle.std.proofs.Common.{◌≡◌, ◌∙◌, List, ℕ, [], ◌∷◌, Err, ap, sym, subst}
use Rattle.std.specs.Prelude.{Result}
use Rattle.std.specs.List.{AllByRecursion}
use Rattle.brick_spec.specs.Texts.{Text, Holds, MayWrite, SomeRose}
use Rattle.brick_spec.specs.Cause.{generating_account}
use Rattle.brick_spec.specs.Files.{Files}
use Rattle.pcap_io.proofs.Captures.{readable_unique}
use Rattle.run_spec.specs.Generated.{capture_name, chains_name, generated_capture, generated_chains, generated_texts}
use Rattle.capture_gen.specs.Contents.{generated_contents}
use Rattle.capture_gen.proofs.Generator.{none_written, names_differ}
use Rattle.store_io.specs.declared.traits.IoFault.{IoFault}
use Rattle.store_io.specs.declared.traits.IoFault.TheVariants.{Failed}
use Rattle.generated_files.specs.TwoTexts.{two_texts}
use Rattle.generated_files.specs.declared.writing.Generated.{Generated}
use Rattle.generated_files.proofs.writing.write_generated.Goals as goal

same_texts : (number : ℕ) (out n b m d : List ℕ) → n ≡ capture_name out → b ≡ generated_capture number 20000 → m ≡ chains_name out → d ≡ generated_chains out
    → two_texts n b m d ≡ generated_texts number out
same_texts number out n b m d e f g h = λ i. record { name = e i; bytes = f i } ∷ record { name = g i; bytes = h i } ∷ []

pub returns-in_default-clause-stopped : goal.returns-in_default-clause-stopped
returns-in_default-clause-stopped g c = λ x. none_written (generated_texts c.args.number c.args.out.now) (g.S.Store.file c.args.store.now)

pub write_both-done-requires : goal.write_both-done-requires
write_both-done-requires g c = λ e. names_differ c.args.out.now (sym c.in-Ok.ensures.capture_name ∙ (e ∙ c.in-Ok.ensures.chains_name))

same_names : (out n m : List ℕ) → n ≡ capture_name out → m ≡ chains_name out → n ∷ m ∷ [] ≡ capture_name out ∷ chains_name out ∷ []
same_names out n m e f = λ i. e i ∷ f i ∷ []

may_be : (number : ℕ) (out : List ℕ) (texts : List Text) (old new : Files) → texts ≡ generated_texts number out → MayWrite texts old new → MayWrite (generated_texts number out) old new
may_be number out texts old new same may = subst (λ (ts : List Text). MayWrite ts old new) same may

fault_is : (a b : IoFault) → ◌≡◌ {A = Result Generated IoFault} (Err a) (Err b) → a ≡ b
fault_is a b e = cc

pub returns-in-Err-clause-stopped : goal.returns-in-Err-clause-stopped
returns-in-Err-clause-stopped g c =
    let same = same_texts c.args.number c.args.out.now _ _ _ _ c.in-Ok.ensures.capture_name (c.deref.ensures.value ∙ c.in-Ok.ensures.capture) c.in-Ok.ensures.chains_name (c.as_str.ensures.value ∙ c.in-Ok.ensures.chains) in
    λ x. may_be c.args.number c.args.out.now _ (g.S.Store.file c.args.store.now) (g.S.Store.file c.write_both-done.new.store) same (c.write_both-done.ensures.stopped x)

pub returns-in-Err-clause-cause : goal.returns-in-Err-clause-cause
returns-in-Err-clause-cause g c =
    λ e. subst (λ (names : List (List ℕ)). SomeRose generating_account names (g.S.Store.faults c.args.store.now) (g.S.Store.faults c.write_both-done.new.store))
    (same_names c.args.out.now _ _ c.in-Ok.ensures.capture_name c.in-Ok.ensures.chains_name) (c.in-Err.ensures.cause (ap Err (fault_is c.in-Err.fault Failed e)))

pub returns-in-Ok-read-clause-written : goal.returns-in-Ok-read-clause-written
returns-in-Ok-read-clause-written g c =
    let same = same_texts c.args.number c.args.out.now _ _ _ _ c.in-Ok.ensures.capture_name (c.deref.ensures.value ∙ c.in-Ok.ensures.capture) c.in-Ok.ensures.chains_name (c.as_str.ensures.value ∙ c.in-Ok.ensures.chains) in
    λ x. (
      subst (λ (ts : List Text). AllByRecursion (Holds (g.S.Store.file c.write_both-done.new.store)) ts) same (c.in_default-done.ensures.written x),
      (may_be c.args.number c.args.out.now _ (g.S.Store.file c.args.store.now) (g.S.Store.file c.write_both-done.new.store) same (c.write_both-done.ensures.stopped x)).others,
    )

pub returns-in-Ok-read-clause-capture : goal.returns-in-Ok-read-clause-capture
returns-in-Ok-read-clause-capture g c =
    readable_unique c.in-Ok.files.capture.items c.in-Ok-read.capture (generated_contents c.args.number 20000) (record { short = c.in-Ok.ensures.readable.short; whole = c.in-Ok-read.ensures.whole }) c.in-Ok.ensures.readable

pub returns-clause-stopped : goal.returns-clause-stopped
returns-clause-stopped g c =
    let same = same_texts c.args.number c.args.out.now _ _ _ _ c.in-Ok.ensures.capture_name (c.deref.ensures.value ∙ c.in-Ok.ensures.capture) c.in-Ok.ensures.chains_name (c.as_str.ensures.value ∙ c.in-Ok.ensures.chains) in
    λ x. may_be c.args.number c.args.out.now _ (g.S.Store.file c.args.store.now) (g.S.Store.file c.write_both-done.new.store) same (c.write_both-done.ensures.stopped x)
