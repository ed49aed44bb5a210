-- A run on the order table.
use Rattle.std.specs.Prelude.{◌≡◌, ℕ, ◌+◌, ◌<◌, ◌≤◌, true, List, length}
use Rattle.checks.specs.Values.{is_iceberg}
use Rattle.types.specs.declared.reports.Report.{Report}
use Rattle.runs.specs.Slices.{volume_of}
use Rattle.runs.specs.Runs.{Progress}
use Rattle.table.specs.declared.records.OrderRecord.{OrderRecord}
use Rattle.table.specs.Sequence.{Orders, rests_at, record_at, resting_of}

-- The state of a run with so much left on the table, and with the reports so far.
abbrev pub on_table : ℕ → Orders → List Report → Progress
on_table left os log = record { left = left; others = resting_of os; log = log }

-- What a run may do to a record: the order keeps its timestamp and gains no volume, and what is drawn from the reserve is counted.
pub record SameOrder (r r' : OrderRecord) : Type 0 where
  pub time : r'.time ≡ r.time
  pub order : r'.resting.order ≡ r.resting.order
  pub drawn : r'.drawn + r'.resting.reserve.shares ≡ r.drawn + r.resting.reserve.shares
  pub volume : volume_of r'.resting ≤ volume_of r.resting

-- The same at each place of the table, where the same orders rest.
pub record SameOrders (os os' : Orders) : Type 0 where
  pub places : length os' ≡ length os
  pub rests : (k : ℕ) → rests_at os' k ≡ rests_at os k
  pub each : (k : ℕ) → SameOrder (record_at os k) (record_at os' k)

-- What may rest: no more than 10,000,000 shares, with what the run going on has drawn, and an iceberg has a display size.
pub record MayRest (r : OrderRecord) : Type 0 where
  pub volume : volume_of r.resting ≤ 10000000
  pub drawn : r.drawn + r.resting.reserve.shares ≤ 10000000
  pub display : is_iceberg r.resting.order.entry.kind ≡ true → 0 < r.resting.order.entry.display.shares

-- Each order on the table may rest there.
abbrev pub AllMayRest : Orders → Type 0
AllMayRest os = (k : ℕ) → rests_at os k ≡ true → MayRest (record_at os k)
