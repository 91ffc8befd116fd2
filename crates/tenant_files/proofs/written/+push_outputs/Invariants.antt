use Rattle.std.proofs.Common.{length}
use Rattle.tenant_files.proofs.written.+push_outputs.Given as goal

abbrev pub decreases-push_outputs : goal.decreases-push_outputs
decreases-push_outputs l = length l.names.now
