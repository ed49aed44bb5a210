-- A meeting of the active order with a slice of a resting one.
use Rattle.std.specs.Prelude.{ℕ, ◌-◌, min, Bool, true, false, cond, not, ◌&&◌, List, [], ◌∷◌, Some, None, Option, ◌==◌, nat_lt}
use Rattle.types.specs.declared.money.Price.{Price}
use Rattle.types.specs.declared.money.Volume.{Volume}
use Rattle.types.specs.declared.orders.Order.{Order}
use Rattle.types.specs.declared.orders.RestingOrder.{RestingOrder}
use Rattle.types.specs.declared.orders.Side.{Side}
use Rattle.types.specs.declared.orders.Side.TheVariants.{Buy, Sell}
use Rattle.types.specs.declared.orders.StpInstruction.{StpInstruction}
use Rattle.types.specs.declared.orders.StpInstruction.TheVariants.{Off, TradeAndSuppress, CancelAndDecrement, CancelNewest, CancelOldest}
use Rattle.types.specs.declared.reports.CancelReason.TheVariants.{SelfTrade}
use Rattle.types.specs.declared.reports.Report.{Report}
use Rattle.types.specs.Reports.{trade, cancelled, decremented}
use Rattle.prices.specs.Prices.{View}
use Rattle.runs.specs.Slices.{Slice, volume_of, amount, offered}

-- What a meeting leaves of the active order and of the two volumes of the resting one, and its reports, the newest first.
pub record Effect : Type 0 where
  pub left : ℕ
  pub shown : ℕ
  pub reserve : ℕ
  pub reports : List Report

-- A volume of so many shares.
abbrev pub shares : ℕ → Volume
shares v = record { shares = v }

-- A trade of the active order a, of the side, with the resting order b.
abbrev pub trade_of : Side → Order → Order → Price → ℕ → Bool → Report
trade_of Buy a b p v suppressed = trade a.number b.number p (shares v) Buy suppressed
trade_of Sell a b p v suppressed = trade b.number a.number p (shares v) Sell suppressed

-- They trade the smaller of the active order's volume and the slice, at the resting order's price.
unfoldable pub trading : View → Order → ℕ → Slice → Bool → Effect
trading view a left s suppressed =
    let v : ℕ = min left (amount s) in
    record {
      left = left - v;
      shown = cond s.hidden s.resting.shown.shares (s.resting.shown.shares - v);
      reserve = cond s.hidden (s.resting.reserve.shares - v) s.resting.reserve.shares;
      reports = trade_of a.entry.side a s.resting.order (offered view s.resting) v suppressed ∷ [];
    }

-- Self-trade prevention cancels what is left of an order.
abbrev pub stopped : Order → ℕ → Report
stopped o v = cancelled o.number (shares v) SelfTrade

-- The one with less volume left is cancelled and the other decremented by that volume, drawn from the shown part first; equal ones are both cancelled.
unfoldable pub smaller_out : Order → ℕ → RestingOrder → Effect
smaller_out a left o =
    cond (nat_lt left (volume_of o))
    (record {
      left = 0;
      shown = o.shown.shares - left;
      reserve = o.reserve.shares - (left - o.shown.shares);
      reports = decremented o.order.number a.number (shares left) ∷ stopped a left ∷ [];
    })
    (cond (nat_lt (volume_of o) left)
    (record {
      left = left - volume_of o;
      shown = 0;
      reserve = 0;
      reports = decremented a.number o.order.number (shares (volume_of o)) ∷ stopped o.order (volume_of o) ∷ [];
    })
    (record {
      left = 0;
      shown = 0;
      reserve = 0;
      reports = stopped a left ∷ stopped o.order (volume_of o) ∷ [];
    }))

-- The active order is cancelled.
abbrev pub active_out : Order → ℕ → RestingOrder → Effect
active_out a left o = record { left = 0; shown = o.shown.shares; reserve = o.reserve.shares; reports = stopped a left ∷ [] }

-- The resting order is cancelled.
abbrev pub resting_out : ℕ → RestingOrder → Effect
resting_out left o = record { left = left; shown = 0; reserve = 0; reports = stopped o.order (volume_of o) ∷ [] }

-- The instruction of the active order a, where it and b are of one broker and have one key other than 0.
abbrev pub prevents : Order → Order → Option StpInstruction
prevents a b =
    cond (a.broker.number == b.broker.number && (a.entry.key.number == b.entry.key.number && not (a.entry.key.number == 0)))
    (Some a.entry.instruction)
    None

-- Without an instruction they trade; trade and suppress marks the report, and each of the others cancels.
abbrev pub by_instruction : Option StpInstruction → View → Order → ℕ → Slice → Effect
by_instruction None view a left s = trading view a left s false
by_instruction (Some Off) view a left s = trading view a left s false
by_instruction (Some TradeAndSuppress) view a left s = trading view a left s true
by_instruction (Some CancelAndDecrement) view a left s = smaller_out a left s.resting
by_instruction (Some CancelNewest) view a left s = active_out a left s.resting
by_instruction (Some CancelOldest) view a left s = resting_out left s.resting

-- What comes of the meeting of a, with so much left, and the slice.
unfoldable pub meeting : View → Order → ℕ → Slice → Effect
meeting view a left s = by_instruction (prevents a s.resting.order) view a left s
