use Rattle.scan.specs.Leading.{Leading, below}
use Rattle.scan.proofs.ActiveOrder.foremost_slice.Given as goal

abbrev pub invariant-loop-i : goal.invariant-loop-i
invariant-loop-i g l = Leading (g.R.Priority.rule l.self.rule.now) l.self.view.now l.self.order.now l.places (below l.i) l.best
