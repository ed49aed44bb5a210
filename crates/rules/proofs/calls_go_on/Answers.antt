use Rattle.std.proofs.Common.{refl}
use Rattle.rules.proofs.calls_go_on.Goals as goal
use Rattle.rules.proofs.Shows.{goes_on}

pub returns : goal.returns
returns c = λ s rule law call st list. goes_on s rule law call st _ list _ refl refl
