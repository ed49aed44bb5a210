-- The codes by which frames tell the words of an order.
use Rattle.std.specs.Prelude.{ℕ, ◌+◌, ◌/◌, ◌%◌, Bool, true, false, cond, Some, None, Option, ◌==◌, nat_lt}
use Rattle.types.specs.declared.orders.Side.{Side}
use Rattle.types.specs.declared.orders.Side.TheVariants.{Buy, Sell}
use Rattle.types.specs.declared.orders.OrderKind.{OrderKind}
use Rattle.types.specs.declared.orders.OrderKind.TheVariants.{Limit, Iceberg, Peg}
use Rattle.types.specs.declared.orders.TimeInForce.{TimeInForce}
use Rattle.types.specs.declared.orders.TimeInForce.TheVariants.{Day, ImmediateOrCancel, FillOrKill}
use Rattle.types.specs.declared.orders.Marks.{Marks}
use Rattle.types.specs.declared.orders.StpInstruction.{StpInstruction}
use Rattle.types.specs.declared.orders.StpInstruction.TheVariants.{Off, TradeAndSuppress, CancelAndDecrement, CancelNewest, CancelOldest}
use Rattle.types.specs.Reports.{side_mark}

-- a side's code is its mark in the reports
abbrev pub side_code : Side → ℕ
side_code s = side_mark s

abbrev pub side_of : ℕ → Option Side
side_of n = cond (n == 1) (Some Buy) (cond (n == 2) (Some Sell) None)

abbrev pub kind_code : OrderKind → ℕ
kind_code Limit = 1
kind_code Iceberg = 2
kind_code Peg = 3

abbrev pub kind_of : ℕ → Option OrderKind
kind_of n = cond (n == 1) (Some Limit) (cond (n == 2) (Some Iceberg) (cond (n == 3) (Some Peg) None))

abbrev pub term_code : TimeInForce → ℕ
term_code Day = 1
term_code ImmediateOrCancel = 2
term_code FillOrKill = 3

abbrev pub term_of : ℕ → Option TimeInForce
term_of n = cond (n == 1) (Some Day) (cond (n == 2) (Some ImmediateOrCancel) (cond (n == 3) (Some FillOrKill) None))

-- 1 for post-only, 2 for anonymous and 4 for jitney, added up
abbrev pub marks_code : Marks → ℕ
marks_code m = cond m.post_only 1 0 + cond m.anonymous 2 0 + cond m.jitney 4 0

abbrev pub marks_of : ℕ → Option Marks
marks_of n =
    cond (nat_lt n 8) (Some (record { post_only = (n % 2 == 1); anonymous = (n / 2 % 2 == 1); jitney = (n / 4 == 1) })) None

abbrev pub instruction_code : StpInstruction → ℕ
instruction_code Off = 0
instruction_code TradeAndSuppress = 1
instruction_code CancelAndDecrement = 2
instruction_code CancelNewest = 3
instruction_code CancelOldest = 4

abbrev pub instruction_of : ℕ → Option StpInstruction
instruction_of n =
    cond (n == 0) (Some Off)
    (cond (n == 1) (Some TradeAndSuppress)
    (cond (n == 2) (Some CancelAndDecrement) (cond (n == 3) (Some CancelNewest) (cond (n == 4) (Some CancelOldest) None))))

-- no and yes
abbrev pub flag_code : Bool → ℕ
flag_code b = cond b 1 0

abbrev pub flag_of : ℕ → Option Bool
flag_of n = cond (n == 0) (Some false) (cond (n == 1) (Some true) None)
