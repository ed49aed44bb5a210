use Rattle.std.proofs.Common.{◌≡◌, ℕ, ◌+◌, ◌≤◌, true}
use Rattle.table.specs.Sequence.{rests_at, record_at}
use Rattle.table.specs.Writing.{Written}
use Rattle.matching.specs.Running.{AllMayRest}
use Rattle.tidying.specs.Tidying.{to_tidy, Settled}
use Rattle.tidying.proofs.Steps.{count_spent}
use Rattle.tidying.proofs.tidy.Given as goal

abbrev pub invariant-loop-i : goal.invariant-loop-i
invariant-loop-i l =
    record {
      rest : AllMayRest l.table.places.now;
      list : to_tidy l.table.places.now ≡ to_tidy l.initial.table.places.now;
      settled : (k : ℕ) → rests_at l.table.places.now k ≡ true → Settled (record_at l.table.places.now k);
      times : l.table.ends.next + count_spent l.table.places.now ≤ l.initial.table.ends.next + 65536;
      written : Written l.initial.table l.table;
    }

abbrev pub decreases-loop-i : goal.decreases-loop-i
decreases-loop-i l = count_spent l.table.places.now
