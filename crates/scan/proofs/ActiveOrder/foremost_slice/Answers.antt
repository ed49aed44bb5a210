use Rattle.std.proofs.Common.{◌≡◌, get_or, take, None, sym, ◌∙◌, arith, length-take}
use Rattle.std.proofs.lemmas.List.{get_or-take}
use Rattle.table.specs.Sequence.{place_at}
use Rattle.scan.proofs.Leading.{free_step, visit_step, leading_foremost}
use Rattle.scan.proofs.ActiveOrder.foremost_slice.Goals as goal
use Rattle.scan.proofs.ActiveOrder.foremost_slice.Goals.{in-Some, in-None}

pub loop-i-preserved : goal.loop-i-preserved
loop-i-preserved g c =
    let law = g.met.R.Priority.lawful c.args.self.now.rule.now in
    let os = c.args.places.now in
    let i = c.loop-i.i in
    let at : place_at os i ≡ get_or (take c.args.high os) i None = sym (get_or-take c.args.high os i None (omega (arith, length-take c.args.high os))) in
    elim c.match-place.branch [
      | in-Some w ↦ rw (w.best-is, w.visit-best.ensures) (visit_step _ law _ _ _ c.requires.distinct i _ c.loop-i.invariant _ (at ∙ w.in-Some.is))
      | in-None w ↦ rw w.best-is (free_step _ law _ _ _ c.requires.distinct i _ c.loop-i.invariant (at ∙ w.in-None.is))
    ]

pub returns-clause-foremost : goal.returns-clause-foremost
returns-clause-foremost g c =
    let at_end : c.loop-i.i ≡ c.args.high = omega (arith, length-take c.args.high c.args.places.now) in
    leading_foremost _ (g.met.R.Priority.lawful c.args.self.now.rule.now) _ _ _ c.requires.distinct _ c.requires.above _ (rw (sym at_end) c.loop-i.invariant)
