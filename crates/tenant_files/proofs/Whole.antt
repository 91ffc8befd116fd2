-- A run from the reading of the chain file on.
use Rattle.std.proofs.Common.{◌≡◌, ℕ, suc, ◌≤◌, ◌<◌, ◌*◌, List, [], ◌∷◌, map, length, refl, sym, ap, ◌∙◌, arith}
use Rattle.std.specs.Prelude.{Ok, Err}
use Rattle.std.specs.Global.{Vec}
use Rattle.brick_base.specs.declared.memory.NoMemory.{NoMemory}
use Rattle.brick_spec.specs.Files.{Files, FaultCounts, AllStay}
use Rattle.chain_spec.specs.ChainSet.{Chain, file_names}
use Rattle.tenant_spec.proofs.Texts.{names_of_texts}
use Rattle.run_spec.specs.Isolation.{Refusals, AllMayHaveWritten, IsReportOf}
use Rattle.run_spec.specs.Report.{Line}
use Rattle.run_spec.specs.Seen.{Held, held, Says}
use Rattle.run_spec.specs.Subject.{tenant_subject}
use Rattle.run_spec.specs.Tenants.{NoneFell, TenantRan, TenantsRan, AllApart}
use Rattle.run_spec.proofs.Lifted.{lifted}
use Rattle.run_spec.proofs.Partial.{all_may}
use Rattle.run_spec.proofs.Set.{same_refl, reported}
use Rattle.run_report.specs.View.{line_view}
use Rattle.run_report.specs.declared.report.Line.{Line as LineInCode}
use Rattle.tenant_files.specs.Run.{AllRan}
use Rattle.tenant_files.proofs.Steps.{may_after}

-- faults are counted from an earlier moment
ran_since : (tells : Type 0) (out : List ℕ) (earlier counts : FaultCounts) (t : ℕ) (chain : Chain) (refused : List ℕ) (before now : Held) (line : Line) → ((a : ℕ) (n : List ℕ) → earlier a n ≤ counts a n)
    → TenantRan tells out counts t chain refused before now line → TenantRan tells out earlier t chain refused before now line
ran_since tells out earlier counts t chain refused before now line since r = record {
  name = r.name;
  promises = lifted tells (tenant_subject out t chain refused) (held before.files earlier) (held before.files counts) now now
      (record {
        named = names_of_texts out chain refused;
        capture = λ x. refl;
        ahead = λ x. same_refl (file_names out chain) before.files;
        behind = λ x. same_refl (file_names out chain) now.files;
        earlier = since;
        later = λ a n. omega arith;
      })
      line.end r.promises;
  others = r.others;
  later = r.later;
}

all_since : (tells : Type 0) (out : List ℕ) (earlier counts : FaultCounts) (refused : Refusals) (t : ℕ) (set : List Chain) (before now : Held) (lines : List Line) → ((a : ℕ) (n : List ℕ) → earlier a n ≤ counts a n)
    → TenantsRan tells out counts refused t set before now lines → TenantsRan tells out earlier refused t set before now lines
all_since tells out earlier counts refused t [] before now [] since r = r
all_since tells out earlier counts refused t [] before now (l ∷ ls) since r = r
all_since tells out earlier counts refused t (c ∷ set) before now [] since r = r
all_since tells out earlier counts refused t (c ∷ set) before now (l ∷ ls) since r = (r.0, ran_since tells out earlier counts t c (refused t) before r.0 l since r.1, all_since tells out earlier counts refused (suc t) set r.0 now ls since r.2)

module _ (tells : Type 0) (chains out : List ℕ) (refused : Refusals) (set : List Chain) (first mid now : Held) (stay : tells → AllStay first.files mid.files) (says : tells → Says chains out first.files set) (apart : AllApart out set) where
  pub reported_true : (lines : Vec LineInCode) → NoneFell first mid → AllRan tells out refused set mid now (Ok lines) → IsReportOf tells chains out refused first now (map line_view lines.items)
  reported_true lines since ran =
      reported tells chains out refused set first ran.0 now (map line_view lines.items) says apart (λ x name. ran.1 x name ∙ stay x name) (all_since tells out first.faults mid.faults refused 0 set ran.0 now (map line_view lines.items) since ran.2)

  pub stopped_true : (e : NoMemory) → AllRan tells out refused set mid now (Err e) → tells → AllMayHaveWritten chains out refused first.files now.files
  stopped_true e ran x = all_may chains out refused set first.files now.files (says x) apart (may_after out refused 0 set first.files mid.files now.files (stay x) (ran x))

pub twice_many : (n m : ℕ) (a : ℕ) → n ≤ 16 → m ≡ n → 32 < a → 2 * n < a
twice_many n m a few is over = omega arith
