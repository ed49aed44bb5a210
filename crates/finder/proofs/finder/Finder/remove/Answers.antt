use Rattle.std.proofs.Common.{rules}
use Rattle.finder.proofs.Writes.{Place, place_here, hole_sound, hole_removed}
use Rattle.finder.proofs.finder.Finder.remove.Goals as goal
use Rattle.finder.proofs.finder.Finder.remove.Goals.{After-value_at-old}

place : (g : _) (c : After-value_at-old g) → Place g.K.Key.equal g.met.K.Key.decides g.K.Key.number c.args.self.now.cells.now c.requires c.args.key.now c.in_ok-place.place
place g c = place_here g.K.Key.equal g.met.K.Key.decides g.K.Key.number c.args.self.now.cells.now c.requires c.args.key.now c.locate.result c.locate.ensures c.in_ok-place.place (search rules)

pub draw_up-requires-clause-sound : goal.draw_up-requires-clause-sound
draw_up-requires-clause-sound g c = hole_sound g.K.Key.equal g.met.K.Key.decides g.K.Key.number c.args.self.now.cells.now c.requires c.args.key.now c.in_ok-place.place (place g (goal.at.draw_up-requires-clause-sound g c).After-value_at-old)

pub returns-clause-removed : goal.returns-clause-removed
returns-clause-removed g c =
    hole_removed g.K.Key.equal g.met.K.Key.decides g.K.Key.number c.args.self.now.cells.now c.requires c.args.key.now c.in_ok-place.place (place g (goal.at.returns-clause-removed g c).After-value_at-old)
    c.value_at-old.result c.draw_up.new.cells c.value_at-old.ensures c.draw_up.ensures.finds c.draw_up.ensures.taken
