use Rattle.std.proofs.Common.{◌≡◌, map, None, take, drop}
use Rattle.sheet.specs.Sheets.{Adds}
use Rattle.table.specs.Writing.{Written}
use Rattle.turns.specs.Turns.{Rewritten}
use Rattle.turns.proofs.Closing.{Left, close_report}
use Rattle.turns.proofs.cancelling.cancel_all.Given as goal

abbrev pub invariant-loop-place : goal.invariant-loop-place
invariant-loop-place l =
    record {
      times : l.table.ends.next ≡ l.initial.table.ends.next;
      written : Written l.initial.table l.table;
      rewritten : Rewritten (λ _ _. None) l.place-index l.places l.initial.table.places.now l.table.places.now;
      left : Left l.initial.table.places.now l.table.places.now (drop l.place-index l.places);
      adds : Adds l.initial.sheet l.sheet (map (close_report l.initial.table.places.now) (take l.place-index l.places));
    }
