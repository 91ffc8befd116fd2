-- How many items a chain leaves and drops of a capture.
use Rattle.std.specs.Prelude.{◌≡◌, ℕ, ◌+◌, ◌≤◌, List, length, sum_by, Some}
use Rattle.std.specs.List.{AllByRecursion}
use Rattle.brick_spec.specs.Capture.{Contents, longest_capture, IsReadable}
use Rattle.brick_spec.specs.GroupOutput.{all_of}
use Rattle.flow_spec.specs.Answer.{ClassedItem, leaf_lists, dropped_of, drop_counts}
use Rattle.chain_spec.specs.ChainSet.{Chain}
use Rattle.tenant_spec.specs.ChainPlan.{plan_of}
use Rattle.tenant_spec.specs.Records.{accepted_items}
use Rattle.tenant_spec.specs.Tenant.{answer, reasons, tally_of}
use Rattle.chain_laws.specs.Accepted.{IsAccepted}
use Rattle.chain_laws.specs.Keys.{lists_left}

-- Of any items that came, one may be left or dropped for each of them, and one for each byte of its frame, and no more.
abbrev pub LeavesNoMore : Type 0
LeavesNoMore = (chain : Chain) → IsAccepted chain → (n : ℕ) (list : List ClassedItem)
    → length (all_of (leaf_lists (plan_of chain) (Some n) list)) + length (dropped_of (plan_of chain) (Some n) list)
    ≤ sum_by (λ (c : ClassedItem). 1 + length c.item.frame) list

-- Of the capture that says c: what is left and what is dropped.
pub record IsCounted (chain : Chain) (refused : List ℕ) (c : Contents) : Type 0 where
  -- the items of all leaf groups and all drops together, records that are Big among them
  pub together : length (all_of (lists_left chain refused c)) + length (reasons chain refused c) ≤ longest_capture
  -- how many were dropped for each reason
  pub each : AllByRecursion (λ k. k ≤ longest_capture) (tally_of chain refused c).drops
  -- so counts of 32 bits never stand still
  pub exact : (answer chain (accepted_items chain refused c) (length c.entries)).drops
      ≡ drop_counts (plan_of chain) (Some (length c.entries)) (accepted_items chain refused c)

-- No more items are left and dropped of a readable capture than it may have bytes, 33,554,432.
abbrev pub CountsAreSmall : Type 0
CountsAreSmall = (chain : Chain) → IsAccepted chain → (refused : List ℕ) (bytes : List ℕ) (c : Contents)
    → IsReadable bytes c → IsCounted chain refused c
