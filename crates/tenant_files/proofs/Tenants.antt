-- What is promised of a tenant, from what its run left and why it failed.
use Rattle.std.proofs.Common.{◌≡◌, ◌⊎◌, inl, inr, ℕ, ◌≤◌, ◌<◌, List, [], ◌∷◌, length, refl, sym, ◌∙◌, ap, subst, arith, true≢false, Option, Some, None, IsSomeAnd}
use Rattle.brick_spec.specs.Capture.{Contents, IsReadable}
use Rattle.brick_spec.specs.CaptureFault.{CaptureFault, Stands}
use Rattle.brick_spec.specs.Cause.{reading_account, writing_account}
use Rattle.chain_spec.specs.ChainSet.{Chain, file_names}
use Rattle.std.specs.Prelude.{IsTrue}
use Rattle.std.specs.List.{AllByRecursion}
use Rattle.brick_spec.specs.Files.{Files, AllStay}
use Rattle.run_spec.specs.Report.{TenantEnd, Done, TooLong, BadCapture, ReadFault, WriteFault, end_is_done}
use Rattle.tenant_spec.specs.Tenant.{Tally, tally_of}
use Rattle.brick_spec.specs.Texts.{OthersStayOf, SomeRose}
use Rattle.run_spec.specs.Seen.{Held, CountRose, Captured, IsTooLong, IsBad}
use Rattle.run_spec.specs.Subject.{Subject, tenant_subject, HasWritten, NoneTouched, HasStopped, EndPromises}
use Rattle.pcap_io.proofs.Captures.{readable_unique}
use Rattle.pcap_io.proofs.Faults.{whole_no_fault, one_fault}

-- WHAT A TENANT'S RUN LEAVES, by its end

abbrev pub TenantLeaves : ℕ → List ℕ → Chain → List ℕ → Held → Held → TenantEnd → Type 0
TenantLeaves t out chain refused before now (Done tally) = (c : Contents) × Captured before.files chain.capture c × (tally ≡ tally_of chain refused c)
    × HasWritten (tenant_subject out t chain refused) c now.files × OthersStayOf (file_names out chain) before.files now.files
TenantLeaves t out chain refused before now TooLong = IsTooLong before.files chain.capture × AllStay before.files now.files
TenantLeaves t out chain refused before now (BadCapture fault) = IsBad before.files chain.capture fault × AllStay before.files now.files
TenantLeaves t out chain refused before now ReadFault = AllStay before.files now.files
TenantLeaves t out chain refused before now WriteFault = (c : Contents) × Captured before.files chain.capture c
    × HasStopped (tenant_subject out t chain refused) c before now × OthersStayOf (file_names out chain) before.files now.files

-- and why its reading or writing failed
abbrev pub TenantCause : ℕ → List ℕ → Chain → Held → Held → TenantEnd → Type 0
TenantCause t out chain before now (Done tally) = Unit {0}
TenantCause t out chain before now TooLong = Unit {0}
TenantCause t out chain before now (BadCapture fault) = Unit {0}
TenantCause t out chain before now ReadFault = CountRose (reading_account t) chain.capture before now
TenantCause t out chain before now WriteFault = SomeRose (writing_account t) (file_names out chain) before.faults now.faults

-- where every name stays, those of the files do
pub all_none : (names : List (List ℕ)) (old new : Files) → AllStay old new → AllByRecursion (λ name. new name ≡ old name) names
all_none [] old new stay = tt
all_none (n ∷ ns) old new stay = (stay n, all_none ns old new stay)

-- WHAT A CAPTURE IS

pub some_both : {X : Type 0} (o : Option X) (P Q : X → Type 0) → ((x : X) → P x → Q x → ⊥) → IsSomeAnd o P → IsSomeAnd o Q → ⊥
some_both None P Q f h k = absurd h
some_both (Some x) P Q f h k = f x h k

pub captured_long : (files : Files) (chain : Chain) (c : Contents) → Captured files chain.capture c → IsTooLong files chain.capture → ⊥
captured_long files chain c captured long = some_both (files chain.capture) (λ bytes. IsReadable bytes c) (λ bytes. 33554432 < length bytes) (λ bytes is more. clash bytes is more) captured long
  where
    clash : (bytes : List ℕ) → IsReadable bytes c → 33554432 < length bytes → ⊥
    clash bytes is more = omega (arith, is.short)

pub captured_bad : (files : Files) (chain : Chain) (c : Contents) (f : CaptureFault) → Captured files chain.capture c → IsBad files chain.capture f → ⊥
captured_bad files chain c f captured bad =
    some_both (files chain.capture) (λ bytes. IsReadable bytes c) (λ bytes. (length bytes ≤ 33554432) × Stands bytes f) (λ bytes is stands. whole_no_fault bytes c f is.whole stands.1) captured bad

bad_long : (files : Files) (chain : Chain) (f : CaptureFault) → IsBad files chain.capture f → IsTooLong files chain.capture → ⊥
bad_long files chain f bad long = some_both (files chain.capture) (λ bytes. (length bytes ≤ 33554432) × Stands bytes f) (λ bytes. 33554432 < length bytes) (λ bytes is more. clash bytes is.0 more) bad long
  where
    clash : (bytes : List ℕ) → length bytes ≤ 33554432 → 33554432 < length bytes → ⊥
    clash bytes few more = omega arith

pub same_contents : (files : Files) (chain : Chain) (c d : Contents) → Captured files chain.capture c → Captured files chain.capture d → c ≡ d
same_contents files chain c d s t = by (files chain.capture) s t
  where
    by : (o : Option (List ℕ)) → IsSomeAnd o (λ bytes. IsReadable bytes c) → IsSomeAnd o (λ bytes. IsReadable bytes d) → c ≡ d
    by None h k = absurd h
    by (Some bytes) h k = readable_unique bytes c d h k

same_fault : (files : Files) (chain : Chain) (f g : CaptureFault) → IsBad files chain.capture f → IsBad files chain.capture g → f ≡ g
same_fault files chain f g s t = by (files chain.capture) s t
  where
    by : (o : Option (List ℕ)) → IsSomeAnd o (λ bytes. (length bytes ≤ 33554432) × Stands bytes f) → IsSomeAnd o (λ bytes. (length bytes ≤ 33554432) × Stands bytes g) → f ≡ g
    by None h k = absurd h
    by (Some bytes) h k = one_fault bytes f g h.1 k.1

-- DONE

done_means : (t : ℕ) (out : List ℕ) (chain : Chain) (refused : List ℕ) (before now : Held) (end : TenantEnd) → TenantLeaves t out chain refused before now end → IsTrue (end_is_done end)
    → (c : Contents) × Captured before.files chain.capture c × (end ≡ Done (tally_of chain refused c)) × HasWritten (tenant_subject out t chain refused) c now.files
done_means t out chain refused before now (Done mine) (c, captured, is, written, others) e = (c, captured, ap Done is, written)
done_means t out chain refused before now TooLong h e = absurd (true≢false (sym e))
done_means t out chain refused before now (BadCapture f) h e = absurd (true≢false (sym e))
done_means t out chain refused before now ReadFault h e = absurd (true≢false (sym e))
done_means t out chain refused before now WriteFault h e = absurd (true≢false (sym e))

done_comes : (t : ℕ) (out : List ℕ) (chain : Chain) (refused : List ℕ) (before now : Held) (end : TenantEnd) → TenantLeaves t out chain refused before now end → (c : Contents) → Captured before.files chain.capture c
    → (end ≡ Done (tally_of chain refused c)) ⊎ (end ≡ ReadFault) ⊎ (end ≡ WriteFault)
done_comes t out chain refused before now (Done mine) (d, captured, is, written, others) c has = inl (ap Done (is ∙ ap (tally_of chain refused) (same_contents before.files chain d c captured has)))
done_comes t out chain refused before now TooLong (long, stay) c has = absurd (captured_long before.files chain c has long)
done_comes t out chain refused before now (BadCapture f) (bad, stay) c has = absurd (captured_bad before.files chain c f has bad)
done_comes t out chain refused before now ReadFault h c has = inr (inl refl)
done_comes t out chain refused before now WriteFault h c has = inr (inr refl)

-- TOO LONG AND BAD CAPTURE

long_only : (t : ℕ) (out : List ℕ) (chain : Chain) (refused : List ℕ) (before now : Held) (end : TenantEnd) → TenantLeaves t out chain refused before now end → end ≡ TooLong → IsTooLong before.files chain.capture
long_only t out chain refused before now TooLong (long, stay) e = long
long_only t out chain refused before now (Done mine) h e = cc
long_only t out chain refused before now (BadCapture f) h e = cc
long_only t out chain refused before now ReadFault h e = cc
long_only t out chain refused before now WriteFault h e = cc

long_comes : (t : ℕ) (out : List ℕ) (chain : Chain) (refused : List ℕ) (before now : Held) (end : TenantEnd) → TenantLeaves t out chain refused before now end → IsTooLong before.files chain.capture → (end ≡ TooLong) ⊎ (end ≡ ReadFault)
long_comes t out chain refused before now TooLong h long = inl refl
long_comes t out chain refused before now ReadFault h long = inr refl
long_comes t out chain refused before now (Done mine) (c, captured, is, written, others) long = absurd (captured_long before.files chain c captured long)
long_comes t out chain refused before now (BadCapture f) (bad, stay) long = absurd (bad_long before.files chain f bad long)
long_comes t out chain refused before now WriteFault (c, captured, stopped, others) long = absurd (captured_long before.files chain c captured long)

bad_only : (t : ℕ) (out : List ℕ) (chain : Chain) (refused : List ℕ) (before now : Held) (end : TenantEnd) → TenantLeaves t out chain refused before now end → (f : CaptureFault) → end ≡ BadCapture f → IsBad before.files chain.capture f
bad_only t out chain refused before now (BadCapture mine) (bad, stay) f e = let same : mine ≡ f = cc in subst (IsBad before.files chain.capture) same bad
bad_only t out chain refused before now (Done mine) h f e = cc
bad_only t out chain refused before now TooLong h f e = cc
bad_only t out chain refused before now ReadFault h f e = cc
bad_only t out chain refused before now WriteFault h f e = cc

bad_comes : (t : ℕ) (out : List ℕ) (chain : Chain) (refused : List ℕ) (before now : Held) (end : TenantEnd) → TenantLeaves t out chain refused before now end → (f : CaptureFault) → IsBad before.files chain.capture f
    → (end ≡ BadCapture f) ⊎ (end ≡ ReadFault)
bad_comes t out chain refused before now (BadCapture mine) (bad, stay) f has = inl (ap BadCapture (same_fault before.files chain mine f bad has))
bad_comes t out chain refused before now ReadFault h f has = inr refl
bad_comes t out chain refused before now TooLong (long, stay) f has = absurd (bad_long before.files chain f has long)
bad_comes t out chain refused before now (Done mine) (c, captured, is, written, others) f has = absurd (captured_bad before.files chain c f captured has)
bad_comes t out chain refused before now WriteFault (c, captured, stopped, others) f has = absurd (captured_bad before.files chain c f captured has)

-- FAULTS

read_cause : (t : ℕ) (out : List ℕ) (chain : Chain) (before now : Held) (end : TenantEnd) → TenantCause t out chain before now end → end ≡ ReadFault → CountRose (reading_account t) chain.capture before now
read_cause t out chain before now ReadFault h e = h
read_cause t out chain before now (Done mine) h e = cc
read_cause t out chain before now TooLong h e = cc
read_cause t out chain before now (BadCapture f) h e = cc
read_cause t out chain before now WriteFault h e = cc

write_cause : (t : ℕ) (out : List ℕ) (chain : Chain) (before now : Held) (end : TenantEnd) → TenantCause t out chain before now end → end ≡ WriteFault
    → SomeRose (writing_account t) (file_names out chain) before.faults now.faults
write_cause t out chain before now WriteFault h e = h
write_cause t out chain before now (Done mine) h e = cc
write_cause t out chain before now TooLong h e = cc
write_cause t out chain before now (BadCapture f) h e = cc
write_cause t out chain before now ReadFault h e = cc

write_files : (t : ℕ) (out : List ℕ) (chain : Chain) (refused : List ℕ) (before now : Held) (end : TenantEnd) → TenantLeaves t out chain refused before now end → end ≡ WriteFault
    → (c : Contents) × Captured before.files chain.capture c × HasStopped (tenant_subject out t chain refused) c before now
write_files t out chain refused before now WriteFault (c, captured, stopped, others) e = (c, captured, stopped)
write_files t out chain refused before now (Done mine) h e = cc
write_files t out chain refused before now TooLong h e = cc
write_files t out chain refused before now (BadCapture f) h e = cc
write_files t out chain refused before now ReadFault h e = cc

-- FILES

pub others_stay : (out : List ℕ) (chain : Chain) (refused : List ℕ) (t : ℕ) (before now : Held) (end : TenantEnd) → TenantLeaves t out chain refused before now end → OthersStayOf (file_names out chain) before.files now.files
others_stay out chain refused t before now (Done mine) (c, captured, is, written, others) = others
others_stay out chain refused t before now TooLong (long, stay) = λ name apart. stay name
others_stay out chain refused t before now (BadCapture f) (bad, stay) = λ name apart. stay name
others_stay out chain refused t before now ReadFault stay = λ name apart. stay name
others_stay out chain refused t before now WriteFault (c, captured, stopped, others) = others

long_none : (t : ℕ) (out : List ℕ) (chain : Chain) (refused : List ℕ) (before now : Held) (end : TenantEnd) → TenantLeaves t out chain refused before now end → end ≡ TooLong → NoneTouched (file_names out chain) before.files now.files
long_none t out chain refused before now TooLong (long, stay) e = all_none (file_names out chain) before.files now.files stay
long_none t out chain refused before now (Done mine) h e = cc
long_none t out chain refused before now (BadCapture f) h e = cc
long_none t out chain refused before now ReadFault h e = cc
long_none t out chain refused before now WriteFault h e = cc

bad_none : (t : ℕ) (out : List ℕ) (chain : Chain) (refused : List ℕ) (before now : Held) (end : TenantEnd) → TenantLeaves t out chain refused before now end → (f : CaptureFault) → end ≡ BadCapture f → NoneTouched (file_names out chain) before.files now.files
bad_none t out chain refused before now (BadCapture mine) (bad, stay) f e = all_none (file_names out chain) before.files now.files stay
bad_none t out chain refused before now (Done mine) h f e = cc
bad_none t out chain refused before now TooLong h f e = cc
bad_none t out chain refused before now ReadFault h f e = cc
bad_none t out chain refused before now WriteFault h f e = cc

read_none : (t : ℕ) (out : List ℕ) (chain : Chain) (refused : List ℕ) (before now : Held) (end : TenantEnd) → TenantLeaves t out chain refused before now end → end ≡ ReadFault → NoneTouched (file_names out chain) before.files now.files
read_none t out chain refused before now ReadFault stay e = all_none (file_names out chain) before.files now.files stay
read_none t out chain refused before now (Done mine) h e = cc
read_none t out chain refused before now TooLong h e = cc
read_none t out chain refused before now (BadCapture f) h e = cc
read_none t out chain refused before now WriteFault h e = cc

-- all that is promised of a tenant's end
pub tenant_kept : (tells : Type 0) (t : ℕ) (out : List ℕ) (chain : Chain) (refused : List ℕ) (before now : Held) (end : TenantEnd) → (tells → TenantLeaves t out chain refused before now end)
    → TenantCause t out chain before now end → EndPromises tells (tenant_subject out t chain refused) before now end
tenant_kept tells t out chain refused before now end leaves cause = record {
  done = λ x. record { means = done_means t out chain refused before now end (leaves x); comes = done_comes t out chain refused before now end (leaves x) };
  too_long = λ x. record { only = long_only t out chain refused before now end (leaves x); comes = long_comes t out chain refused before now end (leaves x) };
  bad_capture = λ x. record { only = bad_only t out chain refused before now end (leaves x); comes = bad_comes t out chain refused before now end (leaves x) };
  read_fault = record { cause = read_cause t out chain before now end cause };
  write_fault = record { cause = write_cause t out chain before now end cause };
  files = λ x. record {
    write_fault = write_files t out chain refused before now end (leaves x);
    too_long = long_none t out chain refused before now end (leaves x);
    bad_capture = bad_none t out chain refused before now end (leaves x);
    read_fault = read_none t out chain refused before now end (leaves x);
  };
}
