-- The values of a set-up.
use Rattle.std.specs.Prelude.{ℕ, Bool, ◌&&◌, is_some, unwrap_or, ◌==◌}
use Rattle.types.specs.declared.money.Lot.{Lot}
use Rattle.types.specs.declared.money.Lot.TheVariants.{Hundred}
use Rattle.types.specs.Money.{lot_of}
use Rattle.checks.specs.Values.{between}
use Rattle.rules.specs.declared.SetUp.{SetUp}

-- The sheet and the registers are within their ranges.
abbrev pub places_in_range : SetUp → Bool
places_in_range s = between 1 65536 s.sheet && (between 1 65536 s.traders && between s.table 65536 s.orders)

-- The sizes that a set-up takes, with a spare of so many places behind the table; any other is refused.
abbrev pub set_up_ok : SetUp → ℕ → Bool
set_up_ok s spare =
    is_some (lot_of s.lot)
    && (between 1 1000000 s.day_limit
    && (between 1 4096 s.table
    && (places_in_range s
    && spare == s.table)))

-- The board lot of an accepted set-up; one without a lot is refused.
abbrev pub lot_in : SetUp → Lot
lot_in s = unwrap_or (lot_of s.lot) Hundred
