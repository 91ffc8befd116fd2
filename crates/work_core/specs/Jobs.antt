-- The classes of a tenant's records.
use Rattle.std.specs.Prelude.{◌≡◌, List, map}
use Rattle.brick_spec.specs.Capture.{Entry, Contents}
use Rattle.brick_spec.specs.FlowClass.{classes_of}
use Rattle.brick_base.specs.Flow.{class_view}
use Rattle.brick_base.specs.declared.flow.Class.{Class}
use Rattle.chain_types.specs.View.{chain_view}
use Rattle.chain_types.specs.declared.chain.Chain.{Chain}

-- each record of the capture has one, by the chain's plan of translation
abbrev pub AreClasses : Chain → Contents → List Class → Type 0
AreClasses chain capture classes =
    map class_view classes ≡ classes_of (chain_view chain).nat (map (λ (e : Entry). e.frame) capture.entries)
