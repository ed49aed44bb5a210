use Rattle.std.proofs.Common.{refl, arith, length-take-le}
use Rattle.std.proofs.Math.Nat.{sub-zero}
use Rattle.sheet.proofs.Sheets.{emptied}
use Rattle.sheet.proofs.EventSheet.begin.Goals as goal

pub returns-clause-empty : goal.returns-clause-empty
returns-clause-empty c =
    let all = c.fill.ensures.after (λ y e. e) in
    record { counted = refl; written = emptied c.args.self.now c.min-places.result _ c.requires c.min-places.ensures (grind (arith, sub-zero, length-take-le, all)) }
