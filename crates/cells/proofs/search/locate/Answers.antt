use Rattle.std.proofs.Common.{◌≡◌, ◌<◌, length, subst, arith, length-append}
use Rattle.cells.specs.Cells.{gap, home}
use Rattle.cells.proofs.Turns.{ring_turn, ring_end}
use Rattle.cells.proofs.Walks.{Passed, passed_on, sought_open, sought_here, sought_full}
use Rattle.cells.proofs.search.locate.Goals as goal
use Rattle.cells.proofs.search.locate.Goals.{In-Some}

turn : (g : _) (c : In-Some g) → (c.in-Some.p < length c.args.cells.now) × (gap (length c.args.cells.now) (home g.K.Key.number (length c.args.cells.now) c.args.key.now) c.in-Some.p ≡ length c.loop-p.yielded)
turn g c =
    ring_turn (length c.args.cells.now) (home g.K.Key.number (length c.args.cells.now) c.args.key.now) (omega arith) c.into_iter-p-iterator.result (cc) (cc) (cc) (cc)
    c.loop-p.yielded _ c.loop-p.yielded_by _ _ c.next.ensures.steps c.in-Some.p c.in-Some.is

pub offset_bounds-cells-p : goal.offset_bounds-cells-p
offset_bounds-cells-p g c = omega (arith, turn g c)

pub bounds-cells-p : goal.bounds-cells-p
bounds-cells-p g c = (turn g c).0

pub returns-in-None-cells : goal.returns-in-None-cells
returns-in-None-cells g c =
    let (low, far) = turn g (goal.at.returns-in-None-cells g c).In-Some in
    sought_open g.K.Key.equal g.met.K.Key.decides g.K.Key.number c.args.cells.now c.args.key.now _ c.in-Some.p c.loop-p.invariant low far _ c.index-cells-p.is c.requires c.in-None-cells.is

pub returns-in-Some-cells : goal.returns-in-Some-cells
returns-in-Some-cells g c =
    let (low, far) = turn g (goal.at.returns-in-Some-cells g c).In-Some in
    sought_here g.K.Key.equal g.met.K.Key.decides g.K.Key.number c.args.cells.now c.args.key.now _ c.in-Some.p c.loop-p.invariant low far _ c.index-cells-p.is c.requires _ _ c.in-Some-cells.is (cc)

pub loop-p-preserved : goal.loop-p-preserved
loop-p-preserved g c =
    let (low, far) = turn g (goal.at.loop-p-preserved g c).In-Some in
    simp length-append (passed_on g.K.Key.equal g.met.K.Key.decides g.K.Key.number c.args.cells.now c.args.key.now _ c.in-Some.p c.loop-p.invariant low far _ c.index-cells-p.is _ _ c.in-Some-cells.is (cc))

pub returns : goal.returns
returns g c =
    let all = ring_end (length c.args.cells.now) (home g.K.Key.number (length c.args.cells.now) c.args.key.now) (omega arith) c.into_iter-p-iterator.result (cc) (cc) (cc) (cc)
    c.loop-p.yielded _ c.loop-p.yielded_by _ _ c.next.ensures.steps c.in-None.is in
    sought_full g.K.Key.equal g.met.K.Key.decides g.K.Key.number c.args.cells.now c.args.key.now (subst (Passed g.K.Key.number c.args.cells.now c.args.key.now) all c.loop-p.invariant)
