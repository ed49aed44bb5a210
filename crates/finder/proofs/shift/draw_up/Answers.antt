use Rattle.finder.proofs.Shifts.{closed, drawn, nearer}
use Rattle.finder.proofs.shift.draw_up.Goals as goal

pub loop-p-smaller : goal.loop-p-smaller
loop-p-smaller g c =
    nearer g.K.Key.equal g.met.K.Key.decides g.K.Key.number c.args.cells.now c.loop-p.cells c.loop-p.hole c.loop-p.invariant c.in-Some.p c.in-Some.ensures
    c.swap.new.self c.swap.ensures.len c.swap.ensures.by_index c.swap.ensures.permutation

pub loop-p-preserved : goal.loop-p-preserved
loop-p-preserved g c =
    drawn g.K.Key.equal g.met.K.Key.decides g.K.Key.number c.args.cells.now c.loop-p.cells c.loop-p.hole c.loop-p.invariant c.in-Some.p c.in-Some.ensures
    c.swap.new.self c.swap.ensures.len c.swap.ensures.by_index c.swap.ensures.permutation

pub returns-clause-sound : goal.returns-clause-sound
returns-clause-sound g c = closed g.K.Key.equal g.met.K.Key.decides g.K.Key.number c.args.cells.now c.loop-p.cells c.loop-p.hole c.loop-p.invariant c.in_default.ensures
