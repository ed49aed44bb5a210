use Rattle.table.specs.Sequence.{stamped}
use Rattle.table.proofs.Kept.{rests_within}
use Rattle.table.proofs.Resting.{renewed}
use Rattle.table.proofs.order_table.OrderTable.renew.Goals as goal

pub returns-clause-list : goal.returns-clause-list
returns-clause-list c =
    let t = c.args.self.now in
    let os = t.places.now in
    let i = c.args.i in
    rw (c.write.ensures.table, c.stamped.ensures) (renewed os i (rests_within os i c.requires.rests) c.requires.rests t.sound.sequenced.distinct (stamped t.ends.next c.args.order) t.sound.sequenced.older)
