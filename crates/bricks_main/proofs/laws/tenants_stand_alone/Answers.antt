use Rattle.bricks_main.proofs.Alone.{alone}
use Rattle.bricks_main.proofs.laws.tenants_stand_alone.Goals as goal

pub returns : goal.returns
returns c = alone
