use Rattle.std.proofs.Common.{◌≡◌, ◌+◌, Some, drop}
use Rattle.table.specs.Sequence.{stamped}
use Rattle.table.specs.Writing.{Written}
use Rattle.turns.specs.Turns.{Rewritten}
use Rattle.turns.proofs.Renewing.{Going}
use Rattle.turns.proofs.moving.move_to_end.Given as goal

abbrev pub invariant-loop-place : goal.invariant-loop-place
invariant-loop-place g l =
    record {
      times : l.table.ends.next ≡ l.initial.table.ends.next + l.place-index;
      written : Written l.initial.table l.table;
      rewritten : Rewritten (λ j r. Some (stamped (l.initial.table.ends.next + j) r)) l.place-index l.places l.initial.table.places.now l.table.places.now;
      going : Going (g.P.Picks.picked l.picks) l.initial.table.ends.next l.initial.table.places.now l.table.places.now (drop l.place-index l.places);
    }
