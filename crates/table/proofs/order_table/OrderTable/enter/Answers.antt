use Rattle.std.proofs.Common.{refl, arith}
use Rattle.table.specs.Sequence.{record_of}
use Rattle.table.proofs.Resting.{entered}
use Rattle.table.proofs.Places.{sound_entered}
use Rattle.table.proofs.order_table.OrderTable.enter.Goals as goal

pub invariant_of-self : goal.invariant_of-self
invariant_of-self c =
    let t = c.args.self.now in
    let i = c.in_ok-i.i in
    let r = c.max.result in
    let o = record_of t.ends.next c.args.resting in
    record { sound = rw (c.write.ensures.table, c.new-entered.ensures) (sound_entered t.places.now t.ends t.sound i o r c.in_ok-i.ensures.found refl (omega arith) (omega arith) (λ n a b. omega arith)) }

pub returns-clause-list : goal.returns-clause-list
returns-clause-list c =
    let t = c.args.self.now in
    let f = c.in_ok-i.ensures.found in
    rw (c.write.ensures.table, c.new-entered.ensures) (entered t.places.now c.in_ok-i.i (record_of t.ends.next c.args.resting) f.within f.free t.sound.sequenced.older)
