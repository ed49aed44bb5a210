-- What an order is worth at a moment, and which order may take which.
use Rattle.std.specs.Prelude.{◌≡◌, ℕ, ◌+◌, ◌/◌, min, max, Bool, true, false, cond, not, ◌&&◌, ◌||◌, Some, None, Option, nat_le, nat_lt}
use Rattle.types.specs.declared.money.Price.{Price}
use Rattle.types.specs.declared.orders.Entry.{Entry}
use Rattle.types.specs.declared.orders.OrderKind.{OrderKind}
use Rattle.types.specs.declared.orders.OrderKind.TheVariants.{Limit, Iceberg, Peg}
use Rattle.types.specs.declared.orders.Side.{Side}
use Rattle.types.specs.declared.orders.Side.TheVariants.{Buy, Sell}
use Rattle.types.specs.declared.quotes.Quote.{Quote}

-- What the price of an order depends on, besides the order: the quote.
abbrev pub View : Type 0
View = Quote

-- Halfway between a bid and an offer, in whole quarter cents.
abbrev pub halfway : Price → Price → Price
halfway bid offer = record { quarters = (bid.quarters + offer.quarters) / 2 }

-- A bid and an offer have a middle where both are present and the bid is below the offer.
abbrev pub middle_of : Option Price → Option Price → Option Price
middle_of None offer = None
middle_of (Some bid) None = None
middle_of (Some bid) (Some offer) = cond (nat_lt bid.quarters offer.quarters) (Some (halfway bid offer)) None

-- The middle of a quote.
abbrev pub middle : Quote → Option Price
middle q = middle_of q.bid q.offer

-- The price is no worse than the limit for an order of the side.
abbrev pub no_worse : Side → Price → Price → Bool
no_worse Buy p limit = nat_le p.quarters limit.quarters
no_worse Sell p limit = nat_le limit.quarters p.quarters

-- The smaller of a limit and a present offer.
abbrev pub at_most : Option Price → Price → Price
at_most None limit = limit
at_most (Some offer) limit = record { quarters = min limit.quarters offer.quarters }

-- The larger of a limit and a present bid.
abbrev pub at_least : Option Price → Price → Price
at_least None limit = limit
at_least (Some bid) limit = record { quarters = max limit.quarters bid.quarters }

-- A limit is held to the far side of the quote: a buyer pays no more than the offer, a seller takes no less than the bid.
abbrev pub capped : Side → Quote → Price → Price
capped Buy q limit = at_most q.offer limit
capped Sell q limit = at_least q.bid limit

-- A peg has the middle as its price where there is one and it is no worse than its limit.
abbrev pub pegged : Side → Option Price → Price → Option Price
pegged side None limit = None
pegged side (Some mid) limit = cond (no_worse side mid limit) (Some mid) None

-- The price by the kind of order.
abbrev pub price_of : OrderKind → Side → View → Price → Option Price
price_of Limit side view limit = Some (capped side view limit)
price_of Iceberg side view limit = Some (capped side view limit)
price_of Peg side view limit = pegged side (middle view) limit

-- The executable price of an order, if it has one.
abbrev pub price : View → Entry → Option Price
price view e = price_of e.kind e.side view e.limit

-- The order is a midpoint peg.
abbrev pub is_peg : OrderKind → Bool
is_peg Limit = false
is_peg Iceberg = false
is_peg Peg = true

-- One buys and the other sells.
abbrev pub opposite : Side → Side → Bool
opposite Buy Buy = false
opposite Buy Sell = true
opposite Sell Buy = true
opposite Sell Sell = false

-- A peg takes only pegs.
abbrev pub pegs_agree : OrderKind → OrderKind → Bool
pegs_agree active resting = not (is_peg active) || is_peg resting

-- Both have a price, and the buyer's is at least the seller's; the side is the first one's.
abbrev pub crosses : Side → Option Price → Option Price → Bool
crosses side None other = false
crosses side (Some own) None = false
crosses Buy (Some buyer) (Some seller) = nat_le seller.quarters buyer.quarters
crosses Sell (Some seller) (Some buyer) = nat_le seller.quarters buyer.quarters

-- The first may take the second: they are on opposite sides, the first is not post-only, the second is a peg if the first is one, and the prices cross.
unfoldable pub may_take : View → Entry → Entry → Bool
may_take view a b =
    opposite a.side b.side
    && (not a.marks.post_only
    && (pegs_agree a.kind b.kind
    && crosses a.side (price view a) (price view b)))

-- A quote with both sides present.
abbrev pub bid_by_offer : ℕ → ℕ → Quote
bid_by_offer bid offer = record { bid = Some (record { quarters = bid }); offer = Some (record { quarters = offer }) }

-- A middle may be off every tick, and a locked or crossed quote has none; a limit beyond the far side is executable there.
pub record PricesHold : Type 0 where
  pub apart : middle (bid_by_offer 4000 4012) ≡ Some (record { quarters = 4006 })
  pub locked : middle (bid_by_offer 4000 4000) ≡ None
  pub crossed : middle (bid_by_offer 4004 4000) ≡ None
  pub odd : middle (bid_by_offer 198 204) ≡ Some (record { quarters = 201 })
  pub far : price_of Limit Buy (bid_by_offer 4000 4012) (record { quarters = 4016 }) ≡ Some (record { quarters = 4012 })
