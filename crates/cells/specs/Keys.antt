-- When two keys are the same, and the numbers that their homes go by.
use Rattle.std.specs.Prelude.{ℕ, ◌+◌, ◌*◌, Bool, ◌==◌, slice_index}
use Rattle.std.specs.Str.{bytes_eq}
use Rattle.types.specs.declared.orders.OrderNumber.{OrderNumber}
use Rattle.types.specs.declared.orders.TraderId.{TraderId}
use Rattle.cells.specs.Cells.{scattered}

-- orders go by their number
abbrev pub same_order : OrderNumber → OrderNumber → Bool
same_order x y = x.number == y.number

abbrev pub order_home : OrderNumber → ℕ
order_home x = scattered x.number

-- traders go by their letters
abbrev pub same_trader : TraderId → TraderId → Bool
same_trader x y = bytes_eq x.letters y.letters

-- the number of three letters from the i-th on
abbrev pub three : TraderId → ℕ → ℕ
three x i = slice_index x.letters i * 65536 + slice_index x.letters (i + 1) * 256 + slice_index x.letters (i + 2)

-- the first three letters are spread, then the last three with them
abbrev pub trader_home : TraderId → ℕ
trader_home x = scattered (scattered (three x 0) + three x 3)
