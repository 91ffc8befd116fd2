use Rattle.std.proofs.Common.{List, length, ap, ◌∙◌}
use Rattle.lane_spec.specs.Pairs.{Pair}
use Rattle.lane_core.specs.Log.{LogModel}
use Rattle.lane_table.proofs.Logs.{log_is}
use Rattle.lane_table.proofs.words.count_of.Goals as goal

pub returns : goal.returns
returns c = ap (λ (l : List Pair). length l) (c.as_slice.ensures ∙ ap (λ (m : LogModel). m.pairs) c.index-logs-w.is ∙ log_is c.args.logs.now c.args.w c.index-logs-w.result c.requires)
