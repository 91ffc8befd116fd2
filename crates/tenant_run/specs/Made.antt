-- What a chain makes of the first records.
use Rattle.std.specs.Prelude.{◌≡◌, ℕ, ◌+◌, ◌≤◌, List, [], length, filter, take}
use Rattle.brick_spec.specs.Capture.{Contents}
use Rattle.brick_spec.specs.Item.{Item}
use Rattle.flow_spec.specs.Answer.{ClassedItem}
use Rattle.chain_spec.specs.ChainSet.{Chain}
use Rattle.tenant_spec.specs.Records.{items_of, classed_items, is_accepted, is_big}
use Rattle.tenant_run.specs.declared.records.Counts.{Counts}

-- the accepted ones of the first k records, where none is refused, and the Big ones
abbrev pub accepted_upto : Chain → Contents → ℕ → List ClassedItem
accepted_upto chain c k = filter (λ x. is_accepted chain [] x.item) (take k (classed_items chain c))

abbrev pub big_upto : Chain → Contents → ℕ → List Item
big_upto chain c k = filter (is_big chain) (take k (items_of c))

-- the first k records were counted
pub record AreCounted (chain : Chain) (c : Contents) (k : ℕ) (counts : Counts) : Type 0 where
  pub accepted : counts.accepted ≡ length (accepted_upto chain c k)
  pub big : counts.big ≡ length (big_upto chain c k)
  pub few : counts.accepted + counts.big ≤ k
