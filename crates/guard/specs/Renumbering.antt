-- Timestamps made small again.
use Rattle.std.specs.Prelude.{ℕ, cond, map, nat_lt}
use Rattle.std.specs.Option.{option_map}
use Rattle.table.specs.declared.records.OrderRecord.{OrderRecord}
use Rattle.table.specs.Sequence.{Orders, stamped, earlier}

-- The record with the number of records of the table with an earlier timestamp as its own.
abbrev pub ranked : Orders → OrderRecord → OrderRecord
ranked os r = stamped (earlier os r.time) r

-- The table with each timestamp so replaced.
abbrev pub renumbered : Orders → Orders
renumbered os = map (option_map (ranked os)) os

-- The table renumbered where half of all timestamps are used up, else as it is.
abbrev pub with_room : ℕ → Orders → Orders
with_room next os = cond (nat_lt next 9223372036854775808) os (renumbered os)
