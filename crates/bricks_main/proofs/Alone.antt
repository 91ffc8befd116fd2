-- Tenants stand alone.
use Rattle.pcap_io.proofs.Captures.{readable_unique}
use Rattle.run_spec.proofs.Alone.{stand_alone}
use Rattle.run_spec.specs.Isolation.{TenantsStandAlone}

pub alone : TenantsStandAlone
alone = stand_alone readable_unique
