-- What is done to the order table after a run.
use Rattle.std.specs.Prelude.{◌≡◌, ℕ, ◌+◌, ◌-◌, ◌%◌, ◌<◌, ◌≤◌, min, Bool, true, false, cond, List, ◌++◌, map, length, Some, None, filter, Option, nat_lt}
use Rattle.types.specs.declared.orders.RestingOrder.{RestingOrder}
use Rattle.runs.specs.Slices.{volume_of}
use Rattle.runs.specs.Runs.{resting, spent, stays}
use Rattle.table.specs.declared.records.OrderRecord.{OrderRecord}
use Rattle.table.specs.Sequence.{Orders, place_at, rests_at, record_at, in_sequence, resting_of}

-- The iceberg of the record, refreshed by what its record says was drawn.
abbrev pub fresh : OrderRecord → RestingOrder
fresh r =
    let d : ℕ = r.resting.order.entry.display.shares in
    let v : ℕ = min (d - r.drawn % d) r.resting.reserve.shares in
    resting r.resting.order v (r.resting.reserve.shares - v)

-- The record with nothing drawn.
abbrev pub undrawn : OrderRecord → OrderRecord
undrawn r = record { time = r.time; drawn = 0; resting = r.resting }

-- The record refreshed at the time t.
abbrev pub renewed : ℕ → OrderRecord → OrderRecord
renewed t r = record { time = t; drawn = 0; resting = fresh r }

-- A place whose iceberg is to be refreshed.
abbrev pub spends : Option OrderRecord → Bool
spends None = false
spends (Some r) = spent r.resting

-- The place set free where its order is used up, with nothing drawn where it is not to be refreshed.
abbrev pub settled : Option OrderRecord → Option OrderRecord
settled None = None
settled (Some r) = cond (nat_lt 0 (volume_of r.resting)) (Some (cond (spent r.resting) r (undrawn r))) None

-- The time list once used-up orders are gone and spent icebergs are refreshed at its end, their sequence kept.
unfoldable pub to_tidy : Orders → List RestingOrder
to_tidy os = filter stays (resting_of os) ++ map fresh (filter (λ r. spent r.resting) (in_sequence os))

-- No order on the table has anything drawn.
abbrev pub Undrawn : Orders → Type 0
Undrawn os = (k : ℕ) → rests_at os k ≡ true → (record_at os k).drawn ≡ 0

-- The order kept its timestamp, and what its record says was drawn is what its reserve has lost, where it is to be refreshed.
pub record Since (r r' : OrderRecord) : Type 0 where
  pub time : r'.time ≡ r.time
  pub drawn : spent r'.resting ≡ true → r.resting.reserve.shares ≡ r'.drawn + r'.resting.reserve.shares

-- The same at each place of the table, where the same orders rest.
pub record DrawnSince (before os : Orders) : Type 0 where
  pub places : length os ≡ length before
  pub rests : (k : ℕ) → rests_at os k ≡ rests_at before k
  pub each : (k : ℕ) → Since (record_at before k) (record_at os k)

-- No order on the table is used up, and only what is to be refreshed has anything drawn.
pub record Settled (r : OrderRecord) : Type 0 where
  pub some : 0 < volume_of r.resting
  pub drawn : spent r.resting ≡ false → r.drawn ≡ 0

-- The place of the iceberg to be refreshed that has waited longest, of those below n.
pub record Oldest (os : Orders) (n i : ℕ) : Type 0 where
  pub within : i < n
  pub here : spends (place_at os i) ≡ true
  pub first : (k : ℕ) → k < n → spends (place_at os k) ≡ true → (record_at os i).time ≤ (record_at os k).time

abbrev pub OldestSpent : Orders → ℕ → Option ℕ → Type 0
OldestSpent os n None = (k : ℕ) → k < n → spends (place_at os k) ≡ false
OldestSpent os n (Some i) = Oldest os n i
