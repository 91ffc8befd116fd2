-- What a classifier keeps, and what its maps find.
use Rattle.std.specs.Prelude.{ℕ, ◌≡◌, ◌+◌, ◌<◌, ◌≤◌, ◌^◌, true, Option, Some, List, length, count_by}
use Rattle.std.specs.Ordering.{nat_cmp, ordering_then}
use Rattle.std.specs.declared.cmp.Ordering.{Ordering}
use Rattle.std.specs.List.{position, slice_get}
use Rattle.std.specs.BTreeMap.{BTreeMap, get}
use Rattle.brick_spec.specs.FlowClass as spec
use Rattle.brick_spec.specs.Flow.{Class, Direction}
use Rattle.brick_spec.specs.Tuple.{Tuple}
use Rattle.flow_key.specs.declared.key.Key.{Key}
use Rattle.flow_key.specs.declared.key.End.{End}
use Rattle.flow_key.specs.View.{key_view}

-- The plan, and what is known by the records so far.
pub record ClassifierModel : Type 0 where
  pub plan : Option spec.NatPlan
  pub known : spec.Known

-- what a classifier is once the records of these frames were classified
abbrev pub after_frames : Option spec.NatPlan → List (List ℕ) → ClassifierModel
after_frames plan frames = record { plan = plan; known = spec.known_of plan frames }

-- and once a record of this five-tuple is classified too
abbrev pub after_record : ClassifierModel → Option Tuple → ClassifierModel
after_record c t = record {
  plan = c.plan;
  known = record {
    flows = spec.flows_after c.plan c.known.flows c.known.records t;
    records = c.known.records + 1;
  };
}

-- the class of that record
abbrev pub class_of_record : ClassifierModel → Option Tuple → Class
class_of_record c t = spec.class_in c.plan c.known.flows c.known.records t

-- the class of a record of this flow, which goes in this direction
abbrev pub class_found : List spec.Opened → ℕ × Direction → Class
class_found flows found = record { flow = spec.flow_with found.0 (spec.flow_at flows found.0); dir = found.1 }

abbrev pub end_cmp : End → End → Ordering
end_cmp a b = ordering_then (nat_cmp a.address b.address) (nat_cmp a.port b.port)

abbrev pub key_cmp : Key → Key → Ordering
key_cmp a b = ordering_then (nat_cmp a.proto b.proto) (ordering_then (end_cmp a.low b.low) (end_cmp a.high b.high))

-- at each rank, the flow that has it
pub record AreRanks (flows : List spec.Opened) (ranks : List ℕ) : Type 0 where
  pub here : (r i : ℕ) → slice_get ranks r ≡ Some i → (i < length flows) × ((spec.flow_at flows i).rank ≡ Some r)
  pub all : (i r : ℕ) → i < length flows → (spec.flow_at flows i).rank ≡ Some r → slice_get ranks r ≡ Some i
  pub counted : length ranks ≡ count_by spec.is_ranked flows

-- no two flows have one key: a search for the key of a flow finds that flow
abbrev pub HaveOwnKeys : List spec.Opened → Type 0
HaveOwnKeys flows = (i : ℕ) (k : spec.Key) → i < length flows → spec.has_key k (spec.flow_at flows i) ≡ true
    → position (spec.has_key k) flows ≡ Some i

-- the maps find what a search of the flows finds
pub record AreFound (flows : List spec.Opened) (keys : BTreeMap Key ℕ) (other : Option ℕ)
    (ranks : List ℕ) : Type 0 where
  pub by_key : (k : Key) → get key_cmp keys k ≡ position (spec.has_key (key_view k)) flows
  pub own_keys : HaveOwnKeys flows
  pub by_other : other ≡ position spec.is_other_flow flows
  pub by_rank : AreRanks flows ranks

pub record AreMaps (flows : List spec.Opened) (keys : BTreeMap Key ℕ) (other : Option ℕ) (ranks : List ℕ)
    (records : ℕ) : Type 0 where
  pub found : AreFound flows keys other ranks
  pub few : length flows ≤ records
  pub counted : records ≤ 2 ^ 32
