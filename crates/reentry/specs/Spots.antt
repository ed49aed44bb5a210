-- A resting order that is run again from its place.
use Rattle.std.specs.Prelude.{ℕ, []}
use Rattle.rules.specs.Requotes.{Spot, emptied}
use Rattle.rules.specs.States.{Book}
use Rattle.table.specs.declared.records.OrderRecord.{OrderRecord}
use Rattle.table.specs.Sequence.{Orders, record_at, rank, resting_of}

-- Where the order at the place i stands on the time list.
abbrev pub spot : Orders → ℕ → Spot
spot os i = record { place = rank os i; order = (record_at os i).resting }

-- The time list of the table, with no report yet.
abbrev pub book_of : Orders → Book
book_of os = record { resting = resting_of os; log = [] }

-- The record with no volume, as it stands in its place while its order runs.
abbrev pub hollow : OrderRecord → OrderRecord
hollow r = record { time = r.time; drawn = r.drawn; resting = emptied r.resting }
