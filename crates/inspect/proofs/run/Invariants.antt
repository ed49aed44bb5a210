use Rattle.std.proofs.Common.{◌<◌}
use Rattle.inspect.proofs.run.Given as goal

abbrev pub invariant-loop-number : goal.invariant-loop-number
invariant-loop-number l = l.refused < l.number-counter
