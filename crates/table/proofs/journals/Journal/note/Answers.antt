use Rattle.std.proofs.Common.{None, refl, arith}
use Rattle.table.proofs.Noting.{noted_one, noted_none}
use Rattle.table.proofs.journals.Journal.note.Goals as goal

pub returns-in-Some : goal.returns-in-Some
returns-in-Some c = noted_one c.args.self.now c.args.i c.max-self.result c.max-self.ensures c.in-Some.noted c.push.new.self c.in-Some.is (omega arith) c.push.ensures.places

pub returns-in-Some-2 : goal.returns-in-Some-2
returns-in-Some-2 c = noted_none c.args.self.now c.args.i c.max-self.result c.max-self.ensures None refl

pub returns-in-None : goal.returns-in-None
returns-in-None c = noted_none c.args.self.now c.args.i c.max-self.result c.max-self.ensures c.args.self.now.noted c.in-None.is
