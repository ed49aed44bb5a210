use Rattle.std.proofs.Common.{◌+◌}
use Rattle.runs.specs.Lists.{sum_of}
use Rattle.runs.specs.Slices.{volume_of}
use Rattle.table.specs.Sequence.{resting_of}
use Rattle.matching.proofs.Going.{Going}
use Rattle.matching.proofs.run.Given as goal

abbrev pub invariant-run : goal.invariant-run
invariant-run g l = Going (g.R.Priority.rule l.active.rule.now) l.active.view.now l.active.order.now l.fn.volume.shares l.initial.table l.initial.sheet l.left.shares l.table l.sheet

abbrev pub decreases-run : goal.decreases-run
decreases-run g l = l.left.shares + sum_of volume_of (resting_of l.table.places.now)
