-- The promises of mode `check`, from what its parts did.
use Rattle.std.proofs.Common.{◌≡◌, ◌≢◌, ◌⊎◌, inl, inr, ℕ, List, ◌++◌, refl, sym, ◌∙◌, ap, subst, arith}
use Rattle.std.specs.Prelude.{flat_map}
use Rattle.chain_spec.specs.ChainFault.{ChainFault}
use Rattle.chain_spec.specs.ChainSet.{Chain}
use Rattle.run_spec.specs.Report.{Outcome, Usage, ChainsRefused, StoreFault, NoMemory, Checked, Reported, ok_text, outcome_text}
use Rattle.brick_spec.specs.Cause.{Rose}
use Rattle.brick_spec.specs.Files.{AllStay}
use Rattle.run_spec.specs.Seen.{Held, Seen, CountRose, Says, Refuses, IsRefused, NoneRose}
use Rattle.run_spec.specs.Told.{Told, Shown}
use Rattle.run_spec.specs.Check.{IsTrueOfCheck, CheckPromises, names_of}
use Rattle.bricks_main.proofs.Promises.{StatusIs, status_is, says_refuses, says_refused, same_set, refusal_shown}

-- what the parts of a check did
pub record HasChecked (tells shows : Type 0) (chains out : List ℕ) (before now : Seen) (outcome : Outcome) (status : ℕ) : Type 0 where
  pub is_true : IsTrueOfCheck tells chains out before.store now.store outcome
  pub files : tells → AllStay before.store.files now.store.files
  pub counts : (account : ℕ) (name : List ℕ) → account ≢ 0 → now.store.faults account name ≡ before.store.faults account name
  pub told : Told outcome status
  pub sink : status ≡ 5 → Rose before.sink.faults now.sink.faults
  pub shown : shows → Shown outcome before.sink now.sink status

-- STATUSES

-- no tenant was run, and the words were a line
abbrev IsNoRun : Outcome → Type 0
IsNoRun Usage = ⊥
IsNoRun (ChainsRefused f) = Unit {0}
IsNoRun StoreFault = Unit {0}
IsNoRun NoMemory = Unit {0}
IsNoRun (Checked names) = Unit {0}
IsNoRun (Reported lines) = ⊥

is_no_run : (tells : Type 0) (chains out : List ℕ) (before now : Held) (o : Outcome) → IsTrueOfCheck tells chains out before now o → IsNoRun o
is_no_run tells chains out before now Usage h = h
is_no_run tells chains out before now (ChainsRefused f) h = tt
is_no_run tells chains out before now StoreFault h = tt
is_no_run tells chains out before now NoMemory h = tt
is_no_run tells chains out before now (Checked names) h = tt
is_no_run tells chains out before now (Reported lines) h = h

not_one : (o : Outcome) (s : ℕ) → IsNoRun o → StatusIs o s → s ≢ 1
not_one Usage s none_run is e = none_run
not_one (ChainsRefused f) s none_run (inl is) e = omega arith
not_one (ChainsRefused f) s none_run (inr is) e = omega arith
not_one StoreFault s none_run (inl is) e = omega arith
not_one StoreFault s none_run (inr is) e = omega arith
not_one NoMemory s none_run is e = omega arith
not_one (Reported lines) s none_run is e = none_run
not_one (Checked names) s none_run (inl is) e = omega arith
not_one (Checked names) s none_run (inr (inl is)) e = omega arith
not_one (Checked names) s none_run (inr (inr is)) e = omega arith

not_two : (o : Outcome) (s : ℕ) → IsNoRun o → StatusIs o s → s ≢ 2
not_two Usage s none_run is e = none_run
not_two (ChainsRefused f) s none_run (inl is) e = omega arith
not_two (ChainsRefused f) s none_run (inr is) e = omega arith
not_two StoreFault s none_run (inl is) e = omega arith
not_two StoreFault s none_run (inr is) e = omega arith
not_two NoMemory s none_run is e = omega arith
not_two (Reported lines) s none_run is e = none_run
not_two (Checked names) s none_run (inl is) e = omega arith
not_two (Checked names) s none_run (inr (inl is)) e = omega arith
not_two (Checked names) s none_run (inr (inr is)) e = omega arith

-- under status 0 the chain file is accepted
zero_is : (o : Outcome) (s : ℕ) → IsNoRun o → StatusIs o s → s ≡ 0 → (names : List (List ℕ)) × (o ≡ Checked names)
zero_is Usage s none_run is e = absurd none_run
zero_is (Reported lines) s none_run is e = absurd none_run
zero_is (ChainsRefused f) s none_run (inl is) e = absurd (omega arith)
zero_is (ChainsRefused f) s none_run (inr is) e = absurd (omega arith)
zero_is StoreFault s none_run (inl is) e = absurd (omega arith)
zero_is StoreFault s none_run (inr is) e = absurd (omega arith)
zero_is NoMemory s none_run is e = absurd (omega arith)
zero_is (Checked names) s none_run is e = (names, refl)

-- CHAIN FILE

refused_of : (tells : Type 0) (chains out : List ℕ) (before now : Held) (o : Outcome) (s : ℕ) → tells → StatusIs o s → IsTrueOfCheck tells chains out before now o → s ≡ 3 → IsRefused chains out before.files
refused_of tells chains out before now Usage s t is h e = absurd h
refused_of tells chains out before now (Reported lines) s t is h e = absurd h
refused_of tells chains out before now (ChainsRefused f) s t is h e = (f, h t)
refused_of tells chains out before now StoreFault s t (inl is) h e = absurd (omega arith)
refused_of tells chains out before now StoreFault s t (inr is) h e = absurd (omega arith)
refused_of tells chains out before now NoMemory s t is h e = absurd (omega arith)
refused_of tells chains out before now (Checked names) s t (inl is) h e = absurd (omega arith)
refused_of tells chains out before now (Checked names) s t (inr (inl is)) h e = absurd (omega arith)
refused_of tells chains out before now (Checked names) s t (inr (inr is)) h e = absurd (omega arith)

-- the fault that is told is the first one
refusal_is : (tells : Type 0) (chains out : List ℕ) (before now : Held) (o : Outcome) (f : ChainFault) → o ≡ ChainsRefused f → tells → IsTrueOfCheck tells chains out before now o → Refuses chains out before.files f
refusal_is tells chains out before now o f e t h = let P : Outcome → Type 0 = IsTrueOfCheck tells chains out before now in subst P e h t

refused_comes : (tells : Type 0) (chains out : List ℕ) (before now : Held) (o : Outcome) (s : ℕ) → tells → StatusIs o s → IsTrueOfCheck tells chains out before now o → IsRefused chains out before.files
    → (s ≡ 3) ⊎ ((s ≡ 4) × CountRose 0 chains before now) ⊎ (s ≡ 6)
refused_comes tells chains out before now Usage s t is h refused = absurd h
refused_comes tells chains out before now (Reported lines) s t is h refused = absurd h
refused_comes tells chains out before now (ChainsRefused f) s t (inl is) h refused = inl is
refused_comes tells chains out before now (ChainsRefused f) s t (inr is) h refused = inr (inr is)
refused_comes tells chains out before now StoreFault s t (inl is) h refused = inr (inl (is, h))
refused_comes tells chains out before now StoreFault s t (inr is) h refused = inr (inr is)
refused_comes tells chains out before now NoMemory s t is h refused = inr (inr is)
refused_comes tells chains out before now (Checked names) s t is h refused = absurd (says_refused chains out before.files h.0 (h.1 t) refused)

-- STORE FAULTS

fault_of : (tells : Type 0) (chains out : List ℕ) (before now : Held) (o : Outcome) (s : ℕ) → StatusIs o s → IsTrueOfCheck tells chains out before now o → s ≡ 4 → CountRose 0 chains before now
fault_of tells chains out before now Usage s is h e = absurd h
fault_of tells chains out before now (Reported lines) s is h e = absurd h
fault_of tells chains out before now (ChainsRefused f) s (inl is) h e = absurd (omega arith)
fault_of tells chains out before now (ChainsRefused f) s (inr is) h e = absurd (omega arith)
fault_of tells chains out before now StoreFault s is h e = h
fault_of tells chains out before now NoMemory s is h e = absurd (omega arith)
fault_of tells chains out before now (Checked names) s (inl is) h e = absurd (omega arith)
fault_of tells chains out before now (Checked names) s (inr (inl is)) h e = absurd (omega arith)
fault_of tells chains out before now (Checked names) s (inr (inr is)) h e = absurd (omega arith)

-- ACCEPTED

accepted_only : (tells : Type 0) (chains out : List ℕ) (before now : Held) (o : Outcome) (s : ℕ) → tells → StatusIs o s → IsTrueOfCheck tells chains out before now o → s ≡ 0
    → (set : List Chain) × Says chains out before.files set
accepted_only tells chains out before now Usage s t is h e = absurd h
accepted_only tells chains out before now (Reported lines) s t is h e = absurd h
accepted_only tells chains out before now (ChainsRefused f) s t (inl is) h e = absurd (omega arith)
accepted_only tells chains out before now (ChainsRefused f) s t (inr is) h e = absurd (omega arith)
accepted_only tells chains out before now StoreFault s t (inl is) h e = absurd (omega arith)
accepted_only tells chains out before now StoreFault s t (inr is) h e = absurd (omega arith)
accepted_only tells chains out before now NoMemory s t is h e = absurd (omega arith)
accepted_only tells chains out before now (Checked names) s t is h e = (h.0, h.1 t)

accepted_comes : (tells : Type 0) (chains out : List ℕ) (before now : Seen) (o : Outcome) (s : ℕ) → tells → StatusIs o s → IsTrueOfCheck tells chains out before.store now.store o
    → (s ≡ 5 → Rose before.sink.faults now.sink.faults) → (set : List Chain) → Says chains out before.store.files set
    → (s ≡ 0) ⊎ ((s ≡ 5) × Rose before.sink.faults now.sink.faults) ⊎ ((s ≡ 4) × CountRose 0 chains before.store now.store) ⊎ (s ≡ 6)
accepted_comes tells chains out before now Usage s t is h sink set says = absurd h
accepted_comes tells chains out before now (Reported lines) s t is h sink set says = absurd h
accepted_comes tells chains out before now (ChainsRefused f) s t is h sink set says = absurd (says_refuses chains out before.store.files set f says (h t))
accepted_comes tells chains out before now StoreFault s t (inl is) h sink set says = inr (inr (inl (is, h)))
accepted_comes tells chains out before now StoreFault s t (inr is) h sink set says = inr (inr (inr is))
accepted_comes tells chains out before now NoMemory s t is h sink set says = inr (inr (inr is))
accepted_comes tells chains out before now (Checked names) s t (inl is) h sink set says = inl is
accepted_comes tells chains out before now (Checked names) s t (inr (inl is)) h sink set says = inr (inl (is, sink is))
accepted_comes tells chains out before now (Checked names) s t (inr (inr is)) h sink set says = inr (inr (inr is))

-- COMPLETENESS

complete_of : (chains out : List ℕ) (before now : Seen) (s : ℕ)
    → (s ≡ 0) ⊎ ((s ≡ 5) × Rose before.sink.faults now.sink.faults) ⊎ ((s ≡ 4) × CountRose 0 chains before.store now.store) ⊎ (s ≡ 6)
    → NoneRose before now → (s ≡ 0) ⊎ (s ≡ 6)
complete_of chains out before now s (inl is) none = inl is
complete_of chains out before now s (inr (inl h)) none = absurd (none.sink h.1)
complete_of chains out before now s (inr (inr (inl h))) none = absurd (none.store 0 chains h.1)
complete_of chains out before now s (inr (inr (inr is))) none = inr is

-- REPORT

-- the report of an accepted chain file is the line of the chain that it says
ok_of : (tells : Type 0) (chains out : List ℕ) (before now : Seen) (o : Outcome) (s : ℕ) → tells → StatusIs o s → IsTrueOfCheck tells chains out before.store now.store o
    → Shown o before.sink now.sink s → s ≡ 0 → (set : List Chain) → Says chains out before.store.files set → now.sink.bytes ≡ before.sink.bytes ++ flat_map ok_text (names_of set)
ok_of tells chains out before now Usage s t is h shown e set says = absurd h
ok_of tells chains out before now (Reported lines) s t is h shown e set says = absurd h
ok_of tells chains out before now (ChainsRefused f) s t (inl is) h shown e set says = absurd (omega arith)
ok_of tells chains out before now (ChainsRefused f) s t (inr is) h shown e set says = absurd (omega arith)
ok_of tells chains out before now StoreFault s t (inl is) h shown e set says = absurd (omega arith)
ok_of tells chains out before now StoreFault s t (inr is) h shown e set says = absurd (omega arith)
ok_of tells chains out before now NoMemory s t is h shown e set says = absurd (omega arith)
ok_of tells chains out before now (Checked names) s t is h shown e set says =
    let same : h.0 ≡ set = same_set chains out before.store.files h.0 set (h.1 t) says in
    shown.report (omega arith) ∙ ap (λ (x : List (List ℕ)). before.sink.bytes ++ flat_map ok_text x) (h.2 ∙ ap names_of same)

pub check_kept : (tells shows : Type 0) (chains out : List ℕ) (before now : Seen) (o : Outcome) (s : ℕ) → HasChecked tells shows chains out before now o s → CheckPromises tells shows chains out before now s
check_kept tells shows chains out before now o s r =
    let is = status_is o s r.told in
    let none_run = is_no_run tells chains out before.store now.store o r.is_true in
    record {
      reading = record {
        line = not_two o s none_run is;
        chain_file = λ t. record {
          refused = refused_of tells chains out before.store now.store o s t is r.is_true;
          comes = refused_comes tells chains out before.store now.store o s t is r.is_true;
          files = λ refused. r.files t;
          shown = λ w e f refused. refusal_shown chains out before now o s is (λ g is_g. refusal_is tells chains out before.store now.store o g is_g t r.is_true) (r.shown w) e f refused;
        };
        store_fault = record { cause = fault_of tells chains out before.store now.store o s is r.is_true; files = λ t e. r.files t };
        sink_fault = record { cause = r.sink };
      };
      tenant = not_one o s none_run is;
      accepted = λ t. record {
        only = accepted_only tells chains out before.store now.store o s t is r.is_true;
        comes = accepted_comes tells chains out before now o s t is r.is_true r.sink;
      };
      files = r.files;
      counts = r.counts;
      report = record {
        outcome = o;
        told = r.told;
        shown = r.shown;
        true_of = r.is_true;
        ok = λ t w e set says. ok_of tells chains out before now o s t is r.is_true (r.shown w) e set says;
      };
      completeness = λ t. record {
        succeeds = λ set says none. complete_of chains out before now s (accepted_comes tells chains out before now o s t is r.is_true r.sink set says) none;
      };
    }
