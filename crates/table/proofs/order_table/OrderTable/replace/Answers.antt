use Rattle.table.proofs.Kept.{rests_within}
use Rattle.table.proofs.Resting.{changed}
use Rattle.table.proofs.order_table.OrderTable.replace.Goals as goal

pub returns-clause-list : goal.returns-clause-list
returns-clause-list c =
    let t = c.args.self.now in
    let os = t.places.now in
    let i = c.args.i in
    rw c.write.ensures.table (changed os i (rests_within os i c.requires.rests) c.requires.rests t.sound.sequenced.distinct c.args.order c.requires.time)
