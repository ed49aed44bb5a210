use Rattle.std.proofs.Common.{◌≡◌, ℕ, ◌<◌, ◌≤◌, true, false}
use Rattle.table.specs.Sequence.{rests_at, record_at}
use Rattle.table.specs.Writing.{Written}
use Rattle.matching.specs.Running.{AllMayRest}
use Rattle.tidying.specs.Tidying.{to_tidy, Settled}
use Rattle.tidying.proofs.settle_all.Given as goal

abbrev pub invariant-loop-i : goal.invariant-loop-i
invariant-loop-i l =
    record {
      rest : AllMayRest l.table.places.now;
      list : to_tidy l.table.places.now ≡ to_tidy l.initial.table.places.now;
      settled : (k : ℕ) → k < l.i → rests_at l.table.places.now k ≡ true → Settled (record_at l.table.places.now k);
      above : (k : ℕ) → l.initial.table.ends.high ≤ k → rests_at l.table.places.now k ≡ false;
      times : l.table.ends.next ≡ l.initial.table.ends.next;
      written : Written l.initial.table l.table;
    }
