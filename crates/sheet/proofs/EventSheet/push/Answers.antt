use Rattle.std.proofs.Common.{sym, refl, arith}
use Rattle.std.proofs.Math.Seq.{set_out}
use Rattle.sheet.proofs.Sheets.{adds_one}
use Rattle.sheet.proofs.EventSheet.push.Goals as goal
use Rattle.sheet.proofs.EventSheet.push.Goals.{then-self, else-self}

pub returns : goal.returns
returns c =
    elim c.if-self.branch [
      | then-self w ↦ rw w.self-is (adds_one _ _ _ refl refl refl)
      | else-self w ↦ rw w.self-is (adds_one _ _ _ (sym (set_out _ _ _ (omega arith))) refl refl)
    ]
