-- Going through the time list by timestamps.
use Rattle.std.specs.Prelude.{◌≡◌, ℕ, ◌<◌, true, length, Some, None, Option}
use Rattle.table.specs.Sequence.{Orders, rests_at, resting_of, earlier, rank}

-- The order at the place i is the first on the time list that is not earlier than t.
pub record Leads (os : Orders) (t i : ℕ) : Type 0 where
  pub within : i < length os
  pub rests : rests_at os i ≡ true
  pub first : rank os i ≡ earlier os t

-- The first order not earlier than t; none only where all are earlier.
abbrev pub FirstFrom : Orders → ℕ → Option ℕ → Type 0
FirstFrom os t (Some i) = Leads os t i
FirstFrom os t None = earlier os t ≡ length (resting_of os)
