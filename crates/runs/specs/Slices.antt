-- The slices that an active order may meet, and which of them is foremost.
use Rattle.std.specs.Prelude.{ℕ, suc, ◌+◌, Bool, true, false, cond, List, [], ◌∷◌, ◌++◌, map, nat_lt}
use Rattle.std.specs.Ordering.{is_lt}
use Rattle.types.specs.declared.money.Price.{Price}
use Rattle.types.specs.declared.orders.Order.{Order}
use Rattle.types.specs.declared.orders.RestingOrder.{RestingOrder}
pub use Rattle.types.specs.Orders.{volume_of, volume_in}
use Rattle.types.specs.Reports.{price_or_zero}
use Rattle.prices.specs.Prices.{View, price, is_peg, may_take}
use Rattle.priority.specs.declared.SliceFacts.{SliceFacts}
use Rattle.priority.specs.declared.Taker.{Taker}
use Rattle.priority.specs.Priority.{Rule}

-- One of the two volumes of a resting order, with the order's place on the time list. A limit has all of its volume in the shown slice, a peg in the hidden one, and an iceberg in both.
pub record Slice : Type 0 where
  pub place : ℕ
  pub resting : RestingOrder
  pub hidden : Bool

-- The volume of a slice.
abbrev pub amount : Slice → ℕ
amount s = volume_in s.resting s.hidden

-- The accepted order a may take the accepted order b.
abbrev pub takes : View → Order → Order → Bool
takes view a b = may_take view a.entry b.entry

-- The first order's slice, where it is not empty.
abbrev pub slice_of : RestingOrder → Bool → List Slice
slice_of o hidden = cond (nat_lt 0 (volume_in o hidden)) (record { place = 0; resting = o; hidden = hidden } ∷ []) []

-- The same slice where one more order stands before it on the list.
abbrev pub later : Slice → Slice
later s = record { place = suc s.place; resting = s.resting; hidden = s.hidden }

-- The non-empty slices of the orders that a may take, in the sequence of the time list.
unfoldable pub slices : View → Order → List RestingOrder → List Slice
slices view a [] = []
slices view a (o ∷ os) = cond (takes view a o.order) (slice_of o false ++ slice_of o true) [] ++ map later (slices view a os)

-- The price at which a resting order trades.
abbrev pub offered : View → RestingOrder → Price
offered view o = record { quarters = price_or_zero (price view o.order.entry) }

-- What a rule is told of the active order and of a slice.
abbrev pub taker : Order → Taker
taker a = record { side = a.entry.side; broker = a.broker; marks = a.entry.marks }

-- A slice is told by its price, by being shown or hidden, by being a peg or not, by its broker and its marks.
abbrev pub facts : View → Slice → SliceFacts
facts view s = record {
  price = offered view s.resting;
  hidden = s.hidden;
  peg = is_peg s.resting.order.entry.kind;
  broker = s.resting.order.broker;
  marks = s.resting.order.entry.marks;
}

-- The first slice is ahead of the second.
unfoldable pub ahead : Rule → View → Order → Slice → Slice → Bool
ahead rule view a s t = is_lt (rule (taker a) (facts view s) (facts view t))
