-- The chains of the code as those of the definitions.
use Rattle.chain_spec.specs.ChainSet as spec
use Rattle.chain_types.specs.ChainParts.{chain_parts}
use Rattle.chain_types.specs.declared.chain.Chain.{Chain}

abbrev pub chain_view : Chain → spec.Chain
chain_view c =
    chain_parts c.name c.capture c.buffers c.bytes c.dry c.unparsed c.nat c.stages.items c.groups.items c.outputs.items
