-- The values that the fields of a call may have.
use Rattle.std.specs.Prelude.{ℕ, ◌%◌, Bool, true, false, cond, not, ◌&&◌, ◌||◌, List, ◌==◌, nat_le, nat_lt, slice_index}
use Rattle.types.specs.declared.money.Lot.{Lot}
use Rattle.types.specs.declared.orders.OrderKind.{OrderKind}
use Rattle.types.specs.declared.orders.OrderKind.TheVariants.{Limit, Iceberg, Peg}
use Rattle.types.specs.declared.orders.TimeInForce.{TimeInForce}
use Rattle.types.specs.declared.orders.TimeInForce.TheVariants.{Day, ImmediateOrCancel, FillOrKill}
use Rattle.types.specs.declared.orders.StpInstruction.{StpInstruction}
use Rattle.types.specs.declared.orders.StpInstruction.TheVariants.{Off, TradeAndSuppress, CancelAndDecrement, CancelNewest, CancelOldest}
use Rattle.types.specs.Money.{lot_shares}

-- from low to high, both included
abbrev pub between : ℕ → ℕ → ℕ → Bool
between low high n = nat_le low n && nat_le n high

-- 0 to 9 and A to Z
abbrev pub is_letter : ℕ → Bool
is_letter c = between 48 57 c || between 65 90 c

-- all six
abbrev pub are_letters : List ℕ → Bool
are_letters cs =
    is_letter (slice_index cs 0) && (is_letter (slice_index cs 1) && (is_letter (slice_index cs 2)
    && (is_letter (slice_index cs 3) && (is_letter (slice_index cs 4) && is_letter (slice_index cs 5)))))

abbrev pub is_broker : ℕ → Bool
is_broker n = between 1 999 n

-- from a quarter cent to 10,000 dollars
abbrev pub in_range : ℕ → Bool
in_range p = between 1 4000000 p

-- a cent from 50 cents on, half a cent below
abbrev pub tick : ℕ → ℕ
tick p = cond (nat_lt p 200) 2 4

abbrev pub half_tick : ℕ → ℕ
half_tick p = cond (nat_lt p 200) 1 2

abbrev pub on_tick : ℕ → Bool
on_tick p = in_range p && p % tick p == 0

abbrev pub on_half_tick : ℕ → Bool
on_half_tick p = in_range p && p % half_tick p == 0

-- a peg's limit may stand on a half tick
abbrev pub is_limit : OrderKind → ℕ → Bool
is_limit Limit p = on_tick p
is_limit Iceberg p = on_tick p
is_limit Peg p = on_half_tick p

-- a multiple of the lot
abbrev pub in_lots : Lot → ℕ → Bool
in_lots lot v = v % lot_shares lot == 0

abbrev pub is_volume : Lot → ℕ → Bool
is_volume lot v = between 1 10000000 v && in_lots lot v

-- an iceberg shows from one lot to its volume, other orders have no display size
abbrev pub is_display : Lot → OrderKind → ℕ → ℕ → Bool
is_display lot Limit v d = d == 0
is_display lot Iceberg v d = between (lot_shares lot) v d && in_lots lot d
is_display lot Peg v d = d == 0

abbrev pub is_day : TimeInForce → Bool
is_day Day = true
is_day ImmediateOrCancel = false
is_day FillOrKill = false

abbrev pub is_iceberg : OrderKind → Bool
is_iceberg Limit = false
is_iceberg Iceberg = true
is_iceberg Peg = false

-- what rests by its nature is good for the day
abbrev pub is_term : Bool → OrderKind → TimeInForce → Bool
is_term post kind term = not (post || is_iceberg kind) || is_day term

abbrev pub is_off : StpInstruction → Bool
is_off Off = true
is_off TradeAndSuppress = false
is_off CancelAndDecrement = false
is_off CancelNewest = false
is_off CancelOldest = false

-- an instruction has a key, and a key an instruction
abbrev pub is_paired : StpInstruction → ℕ → Bool
is_paired i key = cond (is_off i) (key == 0) (not (key == 0))
