-- What is right of each chain of an accepted chain file, so that the code may rely on it.
use Rattle.std.specs.Prelude.{◌≡◌, ◌≤◌, List, map, length, IsTrue}
use Rattle.std.specs.List.{AllByRecursion, list_all}
use Rattle.brick_spec.specs.Name.{is_name}
use Rattle.brick_spec.specs.Route as routes
use Rattle.flow_spec.specs.Balancing.{Backend, Change}
use Rattle.chain_spec.specs.ChainSet.{Stage, Route, Balance, Leaf, Below, Output, Inner, Group, Chain, are_distinct}
use Rattle.chain_spec.specs.ChainSet.{are_stages_right, is_below_right, IsChainRight}
use Rattle.chain_laws.specs.Accepted.{IsAccepted, all_stages}

abbrev pub HaveMacs : List Backend → Type 0
HaveMacs backends = AllByRecursion (λ (b : Backend). length b.mac ≡ 6) backends

-- the Ethernet addresses of a stage have six bytes each
abbrev pub HasMacs : Stage → Type 0
HasMacs (Route mac rows) = (length mac ≡ 6) × AllByRecursion (λ (r : routes.Route). length r.via ≡ 6) rows
HasMacs (Balance backends changes) = HaveMacs backends × AllByRecursion (λ (c : Change). HaveMacs c.backends) changes
HasMacs _ = Unit {0}

abbrev pub IsLeafRight : Leaf → Type 0
IsLeafRight l = IsTrue (is_name l.name) × IsTrue (are_stages_right l.stages)

abbrev pub AreLeavesRight : Below → Type 0
AreLeavesRight (Output o) = Unit {0}
AreLeavesRight (Inner leaves) = AllByRecursion IsLeafRight leaves

pub record IsGroupRight (g : Group) : Type 0 where
  pub named : IsTrue (is_name g.name)
  pub stages_right : IsTrue (are_stages_right g.stages)
  pub below_right : IsTrue (is_below_right g.below)
  pub leaves_right : AreLeavesRight g.below

-- names, the ranges of numbers, the lengths of lists, the three facts that join the parts, and the lengths of Ethernet
-- addresses
pub record IsRight (chain : Chain) : Type 0 where
  pub named : IsTrue (is_name chain.name)
  pub capture_length : (1 ≤ length chain.capture) × (length chain.capture ≤ 255)
  pub buffers_range : (1 ≤ chain.buffers) × (chain.buffers ≤ 1024)
  pub bytes_range : (64 ≤ chain.bytes) × (chain.bytes ≤ 65600)
  pub stages_right : IsTrue (are_stages_right chain.stages)
  pub some_groups : (1 ≤ length chain.groups) × (length chain.groups ≤ 16)
  pub groups_distinct : IsTrue (are_distinct (map (λ g. g.name) chain.groups))
  pub groups_right : AllByRecursion IsGroupRight chain.groups
  pub outputs_named : IsTrue (list_all is_name chain.outputs)
  pub outputs_distinct : IsTrue (are_distinct chain.outputs)
  pub right : IsChainRight chain
  pub macs : AllByRecursion HasMacs (all_stages chain)

abbrev pub AcceptedIsRight : Type 0
AcceptedIsRight = (chain : Chain) → IsAccepted chain → IsRight chain
