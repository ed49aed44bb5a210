-- What all writes to an order table keep.
use Rattle.std.specs.Prelude.{◌≡◌, length}
use Rattle.table.specs.declared.order_table.OrderTable.{OrderTable}
use Rattle.table.specs.Noting.{Moved}

-- From old to new every write was noted, and the places, as many as before, and the journal are still the lent memory.
pub record Written (old new : OrderTable) : Type 0 where
  pub moved : Moved old.places.now old.journal.now new.places.now new.journal.now
  pub long : length new.places.now ≡ length old.places.now
  pub places : new.places.ghost_name ≡ old.places.ghost_name
  pub journal : new.journal.ghost_name ≡ old.journal.ghost_name
