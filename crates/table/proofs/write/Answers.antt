use Rattle.std.proofs.Common.{length, refl}
use Rattle.table.proofs.write.Goals as goal

pub returns-clause-moved : goal.returns-clause-moved
returns-clause-moved c = let os = c.args.places.now in λ s a. c.note.ensures (length os) os s c.args.value c.requires.within refl a
