use Rattle.std.proofs.Common.{length}
use Rattle.cells.proofs.Counts.{away}
use Rattle.finder.proofs.Shifts.{Drawn}
use Rattle.finder.proofs.shift.draw_up.Given as goal

abbrev pub invariant-loop-p : goal.invariant-loop-p
invariant-loop-p g l = Drawn g.K.Key.equal g.met.K.Key.decides g.K.Key.number l.initial.cells l.cells l.hole

abbrev pub decreases-loop-p : goal.decreases-loop-p
decreases-loop-p g l = away g.K.Key.number (length l.cells) l.cells
