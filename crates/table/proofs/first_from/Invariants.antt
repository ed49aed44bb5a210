use Rattle.table.proofs.Walks.{Least}
use Rattle.table.proofs.first_from.Given as goal

abbrev pub invariant-loop-i : goal.invariant-loop-i
invariant-loop-i l = Least l.places l.time l.i l.first
