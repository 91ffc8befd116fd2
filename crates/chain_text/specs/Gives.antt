-- What a reading of the code gives: the value of the definition, or its fault. Want of memory alone is free.
use Rattle.std.specs.Prelude.{◌≡◌, Option, Some, None, Result, Ok, Err, IfSome, option_map}
use Rattle.chain_spec.specs.ChainFault as spec
use Rattle.lpm_fw.specs.RouteView.{fault_view}
use Rattle.chain_text.specs.declared.fault.ChainFault.{ChainFault}
use Rattle.chain_text.specs.declared.fault.ChainFault.TheVariants as code

-- the fault, or none where memory ran out
abbrev pub seen : ChainFault → Option spec.ChainFault
seen code.NotToml = Some spec.NotToml
seen (code.Missing place key) = Some (spec.Missing place key)
seen (code.Unknown place key) = Some (spec.Unknown place key)
seen (code.Range place key) = Some (spec.Range place key)
seen (code.Name place) = Some (spec.Name place)
seen (code.SecondWindow place) = Some (spec.SecondWindow place)
seen (code.Route place fault) = option_map (spec.Route place) (fault_view fault)
seen (code.TooManyTenants count) = Some (spec.TooManyTenants count)
seen (code.Collides name) = Some (spec.Collides name)
seen code.TooLong = Some spec.TooLong
seen code.NoMemory = None

-- it is this fault, unless memory ran out
abbrev pub Is : spec.ChainFault → ChainFault → Type 0
Is fault e = IfSome (seen e) (λ f. f ≡ fault)

-- the reading ends with this fault, unless memory ran out
abbrev pub Fails : {Y : Type 0} → ChainFault → Result Y spec.ChainFault → Type 0
Fails e read = IfSome (seen e) (λ f. read ≡ Err f)

-- what the code returned, seen by view, is what the reading gives
abbrev pub Gives : {X Y : Type 0} → (X → Y) → Result X ChainFault → Result Y spec.ChainFault → Type 0
Gives view (Ok x) read = read ≡ Ok (view x)
Gives view (Err e) read = Fails e read
