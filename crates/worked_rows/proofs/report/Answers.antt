use Rattle.std.proofs.Common.{refl}
use Rattle.std.specs.Fmt.{digits}
use Rattle.run_spec.specs.Report.{records_text, drops_text, hex_word, fault_text}
use Rattle.brick_spec.specs.Bytes.{four_bytes}
use Rattle.worked_rows.proofs.report.Goals as goal

pub returns : goal.returns
unfolding digits records_text drops_text hex_word fault_text four_bytes
returns c = record { three_outputs = refl; counted = refl; faults = refl; refused_records = refl }
