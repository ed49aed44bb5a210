use Rattle.rules.proofs.day_holds.Goals as goal
use Rattle.rules.proofs.Day.{day_law}

pub returns : goal.returns
returns c = day_law
