use Rattle.std.proofs.Common.{◌≡◌, ◌<◌, length, length-append, subst, arith}
use Rattle.cells.specs.Cells.{gap, after}
use Rattle.cells.proofs.Rings.{next_below}
use Rattle.cells.proofs.Turns.{ring_turn, ring_end}
use Rattle.finder.proofs.Rows.{Stayed, stayed_on, follows, row_ends, row_round}
use Rattle.finder.proofs.shift.follower.Goals as goal
use Rattle.finder.proofs.shift.follower.Goals.{In-Some}

turn : (g : _) (c : In-Some g) → (c.in-Some.p < length c.args.cells.now) × (gap (length c.args.cells.now) (after (length c.args.cells.now) c.args.hole) c.in-Some.p ≡ length c.loop-p.yielded)
turn g c =
    ring_turn (length c.args.cells.now) (after (length c.args.cells.now) c.args.hole) (next_below (length c.args.cells.now) c.args.hole c.requires) c.into_iter-p-iterator.result (cc) (cc) (cc) (cc)
    c.loop-p.yielded _ c.loop-p.yielded_by _ _ c.next.ensures.steps c.in-Some.p c.in-Some.is

pub offset_bounds-cells-p : goal.offset_bounds-cells-p
offset_bounds-cells-p g c = omega (arith, turn g c)

pub bounds-cells-p : goal.bounds-cells-p
bounds-cells-p g c = (turn g c).0

pub leads_over-requires : goal.leads_over-requires
leads_over-requires g c = (c.requires, (turn g (goal.at.leads_over-requires g c).In-Some).0)

pub returns-in-None-cells : goal.returns-in-None-cells
returns-in-None-cells g c =
    let (low, far) = turn g (goal.at.returns-in-None-cells g c).In-Some in
    row_ends g.K.Key.number c.args.hole c.args.cells.now c.requires _ c.in-Some.p c.loop-p.invariant low far _ c.index-cells-p.is c.in-None-cells.is

pub returns-in-Some-cells : goal.returns-in-Some-cells
returns-in-Some-cells g c =
    let (low, far) = turn g (goal.at.returns-in-Some-cells g c).In-Some in
    follows g.K.Key.number c.args.hole c.args.cells.now c.requires _ c.in-Some.p c.loop-p.invariant low far _ c.index-cells-p.is _ _ c.in-Some-cells.is (c.leads_over.ensures.0 c.if-leads_over.true)

pub loop-p-preserved : goal.loop-p-preserved
loop-p-preserved g c =
    let (low, far) = turn g (goal.at.loop-p-preserved g c).In-Some in
    simp length-append (stayed_on g.K.Key.number c.args.hole c.args.cells.now c.requires _ c.in-Some.p c.loop-p.invariant low far _ c.index-cells-p.is _ _ c.in-Some-cells.is (λ over. let t = c.leads_over.ensures.1 over in cc))

pub returns : goal.returns
returns g c =
    let all = ring_end (length c.args.cells.now) (after (length c.args.cells.now) c.args.hole) (next_below (length c.args.cells.now) c.args.hole c.requires) c.into_iter-p-iterator.result (cc) (cc) (cc) (cc)
    c.loop-p.yielded _ c.loop-p.yielded_by _ _ c.next.ensures.steps c.in-None.is in
    row_round g.K.Key.number c.args.hole c.args.cells.now c.requires (subst (Stayed g.K.Key.number c.args.hole c.args.cells.now) all c.loop-p.invariant)
