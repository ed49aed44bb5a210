-- Which places of a table are in use.
use Rattle.std.specs.Prelude.{◌≡◌, ℕ, ◌+◌, ◌<◌, ◌≤◌, true, false, length, Some, None, Option}
use Rattle.table.specs.declared.ends.Ends.{Ends}
use Rattle.table.specs.Sequence.{Orders, rests_at, Sequenced}

-- What holds of a table and its ends: every place below low is in use, high stands right above the highest place in use, and no timestamp stands twice or from next on.
pub record Sound (os : Orders) (e : Ends) : Type 0 where
  pub small : length os ≤ 65536
  pub order : e.low ≤ e.high
  pub inside : e.high ≤ length os
  pub below : (k : ℕ) → k < e.low → rests_at os k ≡ true
  pub above : (k : ℕ) → e.high ≤ k → rests_at os k ≡ false
  pub tight : (k : ℕ) → k + 1 ≡ e.high → rests_at os k ≡ true
  pub sequenced : Sequenced e.next os

-- The place i is free, and all before it are in use.
pub record First (os : Orders) (i : ℕ) : Type 0 where
  pub within : i < length os
  pub free : rests_at os i ≡ false
  pub before : (k : ℕ) → k < i → rests_at os k ≡ true

-- The first free place; none only where all are in use.
abbrev pub Found : Orders → Option ℕ → Type 0
Found os (Some i) = First os i
Found os None = (k : ℕ) → k < length os → rests_at os k ≡ true
