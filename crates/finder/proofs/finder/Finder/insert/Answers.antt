use Rattle.finder.proofs.Writes.{Place, place_here, place_open, put_sound, put_inserted}
use Rattle.finder.proofs.finder.Finder.insert.Goals as goal
use Rattle.finder.proofs.finder.Finder.insert.Goals.{in-Ok, in-Ok-2, After-value_at-old}

place : (g : _) (c : After-value_at-old g) → Place g.K.Key.equal g.met.K.Key.decides g.K.Key.number c.args.self.now.cells.now c.requires c.args.key c.match-locate.place
place g c =
    elim c.match-locate.branch [
      | in-Ok w ↦ place_here g.K.Key.equal g.met.K.Key.decides g.K.Key.number c.args.self.now.cells.now c.requires c.args.key c.locate.result c.locate.ensures c.match-locate.place (cc)
      | in-Ok-2 w ↦ place_open g.K.Key.equal g.met.K.Key.decides g.K.Key.number c.args.self.now.cells.now c.requires c.args.key c.locate.result c.locate.ensures c.match-locate.place (cc)
    ]

pub returns-clause-sound : goal.returns-clause-sound
returns-clause-sound g c = put_sound g.K.Key.equal g.met.K.Key.decides g.K.Key.number c.args.self.now.cells.now c.requires c.args.key c.match-locate.place (place g (goal.at.returns-clause-sound g c).After-value_at-old) c.args.value

pub returns-clause-inserted : goal.returns-clause-inserted
returns-clause-inserted g c =
    put_inserted g.K.Key.equal g.met.K.Key.decides g.K.Key.number c.args.self.now.cells.now c.requires c.args.key c.match-locate.place (place g (goal.at.returns-clause-inserted g c).After-value_at-old) c.args.value c.value_at-old.result c.value_at-old.ensures
