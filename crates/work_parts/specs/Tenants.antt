-- A tenant's records shared out among workers.
use Rattle.std.specs.Prelude.{◌≡◌, ℕ, ◌+◌, ◌≤◌, List, [], ◌∷◌, length, map, min}
use Rattle.brick_spec.specs.Capture.{Contents}
use Rattle.flow_spec.specs.Answer.{Answer}
use Rattle.flow_spec.specs.Plan.{leaf_count}
use Rattle.chain_spec.specs.ChainSet.{Chain, leaves_of}
use Rattle.tenant_spec.specs.ChainPlan.{plan_of}
use Rattle.tenant_spec.specs.Records.{accepted_items, big_items}
use Rattle.tenant_spec.specs.Tenant.{answer, output_lists, outputs_made, tally_of}
use Rattle.work_parts.specs.Merged.{merged}
use Rattle.work_parts.specs.Workers.{answers_of}

-- what the workers answer for the accepted records, joined
abbrev pub joined_answer : Chain → List ℕ → Contents → ℕ → Answer
joined_answer chain refused c workers = merged (leaf_count (plan_of chain))
    (answers_of (plan_of chain) workers (accepted_items chain refused c) (length c.entries))

-- the counts with so many more Big records
abbrev pub with_big : ℕ → List ℕ → List ℕ
with_big big [] = []
with_big big (k ∷ ks) = (big + k) ∷ ks

-- each in 32 bits, which stand still at the last value
abbrev pub in_32_bits : List ℕ → List ℕ
in_32_bits counts = map (min 4294967295) counts

-- What the workers answer together is the tenant meaning: the items of each output, and with the Big records the counts
-- of the tally.
pub record IsTenantAnswer (chain : Chain) (refused : List ℕ) (c : Contents) (a : Answer) : Type 0 where
  pub same : a ≡ answer chain (accepted_items chain refused c) (length c.entries)
  pub outputs : output_lists chain a.groups ≡ outputs_made chain refused c
  pub drops : in_32_bits (with_big (length (big_items chain c)) a.drops) ≡ in_32_bits (tally_of chain refused c).drops

-- Joined answers have a list for each leaf group of the chain, as the joining of the outputs asks.
abbrev pub MergedHasLeaves : Type 0
MergedHasLeaves = (chain : Chain) (answers : List Answer)
    → length (merged (leaf_count (plan_of chain)) answers).groups ≡ length (leaves_of chain)

abbrev pub WorkersMakeTenant : Type 0
WorkersMakeTenant = (chain : Chain) (refused : List ℕ) (c : Contents) (workers : ℕ) → 1 ≤ workers
    → IsTenantAnswer chain refused c (joined_answer chain refused c workers)
