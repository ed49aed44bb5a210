use Rattle.std.proofs.Common.{length}
use Rattle.finder.proofs.Rows.{Stayed}
use Rattle.finder.proofs.shift.follower.Given as goal

abbrev pub invariant-loop-p : goal.invariant-loop-p
invariant-loop-p g l = Stayed g.K.Key.number l.hole l.cells (length l.yielded)
