use Rattle.std.proofs.Common.{min}
use Rattle.channel.proofs.Grows.{copied}
use Rattle.channel.proofs.copies.DropCopy.put_all.Goals as goal

pub returns-clause-copied : goal.returns-clause-copied
returns-clause-copied g c =
    let first = g.P.Channel in
    let copy = g.Q.Channel in
    copied (λ s. first.list s.first) (λ s. min (first.room s.first) (copy.room s.copy)) copy.list c.args.self.now c.put_all.new.channel _ _ _ c.put_all.result
    c.put_all.ensures.sent c.put_all.ensures.follows.2
