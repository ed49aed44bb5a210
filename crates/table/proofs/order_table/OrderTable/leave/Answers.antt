use Rattle.table.proofs.Kept.{rests_within}
use Rattle.table.proofs.Resting.{gone}
use Rattle.table.proofs.order_table.OrderTable.leave.Goals as goal

pub returns-clause-list : goal.returns-clause-list
returns-clause-list c =
    let t = c.args.self.now in
    let os = t.places.now in
    let i = c.args.i in
    rw c.write.ensures.table (gone os i (rests_within os i c.requires) c.requires t.sound.sequenced.distinct)
