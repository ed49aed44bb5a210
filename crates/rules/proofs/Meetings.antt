-- What one meeting does to the accounts. Assumes nothing.
use Rattle.std.proofs.Common.{◌≡◌, ℕ, ◌+◌, ◌-◌, ◌<◌, min, Bool, true, false, cond, eqb, ltb, Some, None, Option, refl, arith}
use Rattle.std.proofs.lemmas.Bool.{ltb-true}
use Rattle.types.specs.declared.money.Price.{Price}
use Rattle.types.specs.declared.orders.Order.{Order}
use Rattle.types.specs.declared.orders.RestingOrder.{RestingOrder}
use Rattle.types.specs.declared.orders.Side.{Side}
use Rattle.types.specs.declared.orders.Side.TheVariants.{Buy, Sell}
use Rattle.types.specs.declared.orders.StpInstruction.{StpInstruction}
use Rattle.types.specs.declared.orders.StpInstruction.TheVariants.{Off, TradeAndSuppress, CancelAndDecrement, CancelNewest, CancelOldest}
use Rattle.prices.specs.Prices.{View}
use Rattle.runs.specs.Lists.{sum_of}
use Rattle.runs.specs.Slices.{Slice, volume_of, amount, offered}
use Rattle.runs.specs.Meetings.{Effect, trade_of, trading, smaller_out, prevents, by_instruction, meeting}
use Rattle.runs.proofs.Meetings.{volume_left}
use Rattle.rules.specs.Accounts.{on, lost_by, entered_by}

-- no volume comes or goes but by a report, and none is entered
pub record Even (n : ℕ) (a : Order) (o : RestingOrder) (left : ℕ) (f : Effect) : Type 0 where
  pub sums : sum_of (lost_by n) f.reports + on n a.number.number f.left + on n o.order.number.number (volume_left f) ≡ on n a.number.number left + on n o.order.number.number (volume_of o)
  pub none : sum_of (entered_by n) f.reports ≡ 0

trade_lost : (n : ℕ) (side : Side) (x y : Order) (p : Price) (v : ℕ) (sup : Bool) → lost_by n (trade_of side x y p v sup) ≡ on n x.number.number v + on n y.number.number v
trade_lost n Buy x y p v sup = refl
trade_lost n Sell x y p v sup = omega arith

trade_entered : (n : ℕ) (side : Side) (x y : Order) (p : Price) (v : ℕ) (sup : Bool) → entered_by n (trade_of side x y p v sup) ≡ 0
trade_entered n Buy x y p v sup = refl
trade_entered n Sell x y p v sup = refl

trading_sum : (b c h : Bool) (left sh rs : ℕ) →
    let v : ℕ = min left (cond h rs sh) in
    (cond b v 0 + cond c v 0) + cond b (left - v) 0 + cond c (cond h sh (sh - v) + cond h (rs - v) rs) 0 ≡ cond b left 0 + cond c (sh + rs) 0
trading_sum true true true left sh rs = omega arith
trading_sum true true false left sh rs = omega arith
trading_sum true false true left sh rs = omega arith
trading_sum true false false left sh rs = omega arith
trading_sum false true true left sh rs = omega arith
trading_sum false true false left sh rs = omega arith
trading_sum false false true left sh rs = omega arith
trading_sum false false false left sh rs = omega arith

trading_even : (n : ℕ) (q : View) (a : Order) (left : ℕ) (s : Slice) (sup : Bool) → Even n a s.resting left (trading q a left s sup)
unfolding trading
trading_even n q a left s sup =
    let v : ℕ = min left (amount s) in
    let l = trade_lost n a.entry.side a s.resting.order (offered q s.resting) v sup in
    let t = trading_sum (eqb n a.number.number) (eqb n s.resting.order.number.number) s.hidden left s.resting.shown.shares s.resting.reserve.shares in
    record {
      sums = omega (arith, l, t);
      none = omega (arith, trade_entered n a.entry.side a s.resting.order (offered q s.resting) v sup);
    }

smaller_even : (n : ℕ) (a : Order) (left : ℕ) (o : RestingOrder) → Even n a o left (smaller_out a left o)
unfolding smaller_out
smaller_even n a left o = go (ltb left (volume_of o)) refl (ltb (volume_of o) left) refl
  where
    sum₁ : (b c : Bool) (x y : ℕ) → left < x + y → (cond c left 0 + (cond b left 0 + 0)) + cond b 0 0 + cond c ((x - left) + (y - (left - x))) 0 ≡ cond b left 0 + cond c (x + y) 0
    sum₁ true true x y h = omega arith
    sum₁ true false x y h = omega arith
    sum₁ false true x y h = omega arith
    sum₁ false false x y h = omega arith

    sum₂ : (b c : Bool) (w : ℕ) → w < left → (cond b w 0 + (cond c w 0 + 0)) + cond b (left - w) 0 + cond c (0 + 0) 0 ≡ cond b left 0 + cond c w 0
    sum₂ true true w h = omega arith
    sum₂ true false w h = omega arith
    sum₂ false true w h = omega arith
    sum₂ false false w h = omega arith

    sum₃ : (b c : Bool) (w : ℕ) → (cond b left 0 + (cond c w 0 + 0)) + cond b 0 0 + cond c (0 + 0) 0 ≡ cond b left 0 + cond c w 0
    sum₃ true true w = omega arith
    sum₃ true false w = omega arith
    sum₃ false true w = omega arith
    sum₃ false false w = omega arith

    go : (b : Bool) → ltb left (volume_of o) ≡ b → (c : Bool) → ltb (volume_of o) left ≡ c → Even n a o left (unfold smaller_out in smaller_out a left o)
    go true e c f = rw e (record { sums = sum₁ (eqb n a.number.number) (eqb n o.order.number.number) o.shown.shares o.reserve.shares (ltb-true _ _ e); none = refl })
    go false e true f = rw (e, f) (record { sums = sum₂ (eqb n a.number.number) (eqb n o.order.number.number) (volume_of o) (ltb-true _ _ f); none = refl })
    go false e false f = rw (e, f) (record { sums = sum₃ (eqb n a.number.number) (eqb n o.order.number.number) (volume_of o); none = refl })

by_even : (i : Option StpInstruction) (n : ℕ) (q : View) (a : Order) (left : ℕ) (s : Slice) → Even n a s.resting left (by_instruction i q a left s)
by_even None n q a left s = trading_even n q a left s false
by_even (Some Off) n q a left s = trading_even n q a left s false
by_even (Some TradeAndSuppress) n q a left s = trading_even n q a left s true
by_even (Some CancelAndDecrement) n q a left s = smaller_even n a left s.resting
by_even (Some CancelNewest) n q a left s = record { sums = go (eqb n a.number.number); none = refl }
  where
    go : (b : Bool) → (cond b left 0 + 0) + cond b 0 0 + on n s.resting.order.number.number (volume_of s.resting) ≡ cond b left 0 + on n s.resting.order.number.number (volume_of s.resting)
    go true = omega arith
    go false = omega arith
by_even (Some CancelOldest) n q a left s = record { sums = go (eqb n s.resting.order.number.number); none = refl }
  where
    go : (b : Bool) → (cond b (volume_of s.resting) 0 + 0) + on n a.number.number left + cond b (0 + 0) 0 ≡ on n a.number.number left + cond b (volume_of s.resting) 0
    go true = omega arith
    go false = omega arith

pub even : (n : ℕ) (q : View) (a : Order) (left : ℕ) (s : Slice) → Even n a s.resting left (meeting q a left s)
unfolding meeting
even n q a left s = by_even (prevents a s.resting.order) n q a left s
