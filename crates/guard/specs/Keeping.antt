-- What holds of the table with its spare behind it and of the journal, between calls and under a guard.
use Rattle.std.specs.Prelude.{◌≡◌, ℕ, ◌+◌, ◌≤◌, length, take, drop}
use Rattle.table.specs.declared.journals.Journal.{Journal}
use Rattle.table.specs.Sequence.{Orders}
use Rattle.table.specs.Noting.{Agree}

-- The slice is a table of n places and a spare as long, which agree by the journal.
pub record Kept (n : ℕ) (all : Orders) (j : Journal) : Type 0 where
  pub halves : n + n ≡ length all
  pub small : n ≤ 65536
  pub agree : Agree n j (take n all) (drop n all)
