-- Board lots.
use Rattle.std.specs.Prelude.{ℕ, cond, Some, None, Ok, Err, Option, Result, ◌==◌}
use Rattle.types.specs.declared.money.Lot.{Lot}
use Rattle.types.specs.declared.money.UnknownLot.{UnknownLot}
use Rattle.types.specs.declared.money.Lot.TheVariants.{Hundred, FiveHundred, Thousand}

abbrev pub lot_shares : Lot → ℕ
lot_shares Hundred = 100
lot_shares FiveHundred = 500
lot_shares Thousand = 1000

-- the lot of so many shares, if there is one
abbrev pub lot_of : ℕ → Option Lot
lot_of n = cond (n == 100) (Some Hundred) (cond (n == 500) (Some FiveHundred) (cond (n == 1000) (Some Thousand) None))

-- the same as a conversion, which says of which number there is none
abbrev pub lot_from : ℕ → Result Lot UnknownLot
lot_from n = elim (lot_of n) [ Some lot ↦ Ok lot | None ↦ Err (record { shares = n }) ]
