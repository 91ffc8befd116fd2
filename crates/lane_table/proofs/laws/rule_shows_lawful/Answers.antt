use Rattle.lane_table.proofs.ShowsLawful.{lawful}
use Rattle.lane_table.proofs.laws.rule_shows_lawful.Goals as goal

pub returns : goal.returns
returns c = lawful
