use Rattle.tidying.proofs.Steps.{Longest}
use Rattle.tidying.proofs.oldest_spent.Given as goal

abbrev pub invariant-loop-i : goal.invariant-loop-i
invariant-loop-i l = Longest l.table.places.now l.i l.oldest
