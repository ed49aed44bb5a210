-- What one meeting does to the volumes. Assumes nothing.
use Rattle.std.proofs.Common.{◌≡◌, ℕ, ◌+◌, ◌-◌, ◌<◌, min, Bool, true, false, cond, ltb, Some, None, Option, refl, arith}
use Rattle.std.proofs.lemmas.Bool.{ltb-true}
use Rattle.types.specs.declared.orders.Order.{Order}
use Rattle.types.specs.declared.orders.RestingOrder.{RestingOrder}
use Rattle.types.specs.declared.orders.StpInstruction.{StpInstruction}
use Rattle.types.specs.declared.orders.StpInstruction.TheVariants.{Off, TradeAndSuppress, CancelAndDecrement, CancelNewest, CancelOldest}
use Rattle.prices.specs.Prices.{View}
use Rattle.runs.specs.Slices.{Slice, volume_of, amount}
use Rattle.runs.specs.Meetings.{Effect, trading, smaller_out, prevents, by_instruction, meeting}

abbrev pub volume_left : Effect → ℕ
volume_left f = f.shown + f.reserve

-- A meeting takes volume off.

trading_less : (q : View) (a : Order) (left : ℕ) (s : Slice) (sup : Bool) → 0 < left → 0 < amount s → (trading q a left s sup).left + volume_left (trading q a left s sup) < left + volume_of s.resting
unfolding trading
trading_less q a left s sup h k = go s.hidden s.resting.shown.shares s.resting.reserve.shares k
  where
    go : (b : Bool) (x y : ℕ) → 0 < cond b y x → (left - min left (cond b y x)) + (cond b x (x - min left (cond b y x)) + cond b (y - min left (cond b y x)) y) < left + (x + y)
    go true x y k = omega arith
    go false x y k = omega arith

smaller_less : (a : Order) (left : ℕ) (o : RestingOrder) → 0 < left → 0 < volume_of o → (smaller_out a left o).left + volume_left (smaller_out a left o) < left + volume_of o
unfolding smaller_out
smaller_less a left o h k = go (ltb left (volume_of o)) refl (ltb (volume_of o) left) refl
  where
    go : (b : Bool) → ltb left (volume_of o) ≡ b → (c : Bool) → ltb (volume_of o) left ≡ c → unfold smaller_out in ((smaller_out a left o).left + volume_left (smaller_out a left o) < left + volume_of o)
    go true e c f = rw e (omega (arith, ltb-true _ _ e))
    go false e true f = rw (e, f) (omega (arith, ltb-true _ _ f))
    go false e false f = rw (e, f) (omega arith)

pub amount_volume : (s : Slice) → 0 < amount s → 0 < volume_of s.resting
amount_volume s h = go s.hidden s.resting.shown.shares s.resting.reserve.shares h
  where
    go : (b : Bool) (x y : ℕ) → 0 < cond b y x → 0 < x + y
    go true x y h = omega arith
    go false x y h = omega arith

by_less : (i : Option StpInstruction) (q : View) (a : Order) (left : ℕ) (s : Slice) → 0 < left → 0 < amount s → (by_instruction i q a left s).left + volume_left (by_instruction i q a left s) < left + volume_of s.resting
by_less None q a left s h k = trading_less q a left s false h k
by_less (Some Off) q a left s h k = trading_less q a left s false h k
by_less (Some TradeAndSuppress) q a left s h k = trading_less q a left s true h k
by_less (Some CancelAndDecrement) q a left s h k = smaller_less a left s.resting h (amount_volume s k)
by_less (Some CancelNewest) q a left s h k = omega arith
by_less (Some CancelOldest) q a left s h k = omega (arith, amount_volume s k)

pub less : (q : View) (a : Order) (left : ℕ) (s : Slice) → 0 < left → 0 < amount s → (meeting q a left s).left + volume_left (meeting q a left s) < left + volume_of s.resting
unfolding meeting
less q a left s h k = by_less (prevents a s.resting.order) q a left s h k
