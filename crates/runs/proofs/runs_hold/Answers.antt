use Rattle.runs.proofs.runs_hold.Goals as goal
use Rattle.runs.proofs.Chains.{runs_hold}

pub returns : goal.returns
returns c = runs_hold
