use Rattle.std.proofs.Common.{length}
use Rattle.cells.proofs.Walks.{Passed}
use Rattle.cells.proofs.search.locate.Given as goal

abbrev pub invariant-loop-p : goal.invariant-loop-p
invariant-loop-p g l = Passed g.K.Key.number l.cells l.key (length l.yielded)
