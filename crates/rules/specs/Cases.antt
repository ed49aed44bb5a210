-- Worked cases, under Omega with a lot of 100.
use Rattle.std.specs.Prelude.{◌≡◌, ℕ, false, List, [], ◌∷◌, ◌++◌, map, reverse}
use Rattle.types.specs.declared.calls.Call.{Call}
use Rattle.types.specs.declared.calls.Call.TheVariants.{Enter, Quote as NewQuote, Enrol}
use Rattle.types.specs.declared.money.Price.{Price}
use Rattle.types.specs.declared.orders.OrderNumber.{OrderNumber}
use Rattle.types.specs.declared.orders.OrderKind.{OrderKind}
use Rattle.types.specs.declared.orders.OrderKind.TheVariants.{Limit, Iceberg}
use Rattle.types.specs.declared.orders.RestingOrder.{RestingOrder}
use Rattle.types.specs.declared.orders.Side.{Side}
use Rattle.types.specs.declared.orders.Side.TheVariants.{Buy, Sell}
use Rattle.types.specs.declared.orders.StpInstruction.{StpInstruction}
use Rattle.types.specs.declared.orders.StpInstruction.TheVariants.{Off, CancelAndDecrement}
use Rattle.types.specs.declared.orders.TimeInForce.{TimeInForce}
use Rattle.types.specs.declared.orders.TimeInForce.TheVariants as term
use Rattle.types.specs.declared.orders.TraderId.{TraderId}
use Rattle.types.specs.declared.reports.CancelReason.TheVariants.{SelfTrade, FillOrKill}
use Rattle.types.specs.declared.reports.Report.{Report}
use Rattle.types.specs.Reports.{accepted, trade, cancelled, decremented, quoted}
use Rattle.checks.specs.Checks.{Ticks}
use Rattle.prices.specs.Prices.{bid_by_offer, PricesHold}
use Rattle.priority.specs.Priority.{omega_rule}
use Rattle.runs.specs.Meetings.{shares}
use Rattle.rules.specs.declared.SetUp.{SetUp}
use Rattle.rules.specs.Days.{Day, opening, day_of}

-- A small book.
abbrev pub usual : SetUp
usual = record { lot = 100; day_limit = 1000; table = 10; sheet = 20; traders = 10; orders = 10 }

-- The day of the calls, with space enough.
abbrev pub played : List Call → Day
played calls = day_of usual omega_rule (opening 100) calls

-- Its reports in sequence.
abbrev pub reported : List Call → List Report
reported calls = reverse (played calls).log

-- A trader of each broker, with a letter of its own.
abbrev pub trader : ℕ → TraderId
trader letter = record { letters = 65 ∷ 65 ∷ 65 ∷ 65 ∷ 65 ∷ letter ∷ [] }

-- A price, and an order number, by its number.
abbrev pub at : ℕ → Price
at quarters = record { quarters = quarters }

abbrev pub number : ℕ → OrderNumber
number n = record { number = n }

-- A trader of the broker is enrolled.
abbrev pub joins : ℕ → ℕ → Call
joins letter broker = Enrol (record { trader = trader letter; broker = record { number = broker }; latency_sensitive = false })

-- An attributed order: trader, side, kind, term, limit, volume, display, instruction and key.
abbrev pub entry : ℕ → Side → OrderKind → TimeInForce → ℕ → ℕ → ℕ → StpInstruction → ℕ → Call
entry letter side kind term limit volume display instruction key = Enter (record {
  trader = trader letter;
  side = side;
  kind = kind;
  term = term;
  marks = record { post_only = false; anonymous = false; jitney = false };
  limit = at limit;
  volume = shares volume;
  display = shares display;
  instruction = instruction;
  key = record { number = key };
})

-- A limit order without self-trade prevention.
abbrev pub plain : ℕ → Side → TimeInForce → ℕ → ℕ → Call
plain letter side term limit volume = entry letter side Limit term limit volume 0 Off 0

-- Two traders: A of broker 101 and B of broker 102; in the later cases A of 123, B of 124 and C of 125.
abbrev pub icebergs : List Call
icebergs =
    joins 65 101 ∷ joins 66 102
    ∷ entry 65 Buy Iceberg term.Day 4004 1300 200 Off 0
    ∷ entry 66 Buy Iceberg term.Day 4004 2500 500 Off 0
    ∷ entry 66 Buy Iceberg term.Day 4004 1200 300 Off 0
    ∷ plain 66 Sell term.ImmediateOrCancel 4004 2100
    ∷ []

-- The three traders of the later cases.
abbrev pub brokers : List Call
brokers = joins 65 123 ∷ joins 66 124 ∷ joins 67 125 ∷ []

-- A trade with the seller active.
abbrev pub sold : ℕ → ℕ → ℕ → ℕ → Report
sold buyer seller p v = trade (number buyer) (number seller) (at p) (shares v) Sell false

-- The report of an accepted order.
abbrev pub enters : ℕ → ℕ → ℕ → Side → Report
enters n limit v side = accepted (number n) (at limit) (shares v) side

-- Number, shown volume and reserve.
abbrev pub slices_of : RestingOrder → ℕ × ℕ × ℕ
slices_of o = (o.order.number.number, o.shown.shares, o.reserve.shares)

-- All worked cases together.
pub record Cases : Type 0 where
  pub ticks : Ticks
  pub prices : PricesHold
  -- three icebergs and an order of the second one's broker
  pub own_broker_first : reported icebergs ≡
      enters 1 4004 1300 Buy ∷ enters 2 4004 2500 Buy ∷ enters 3 4004 1200 Buy ∷ enters 4 4004 2100 Sell
      ∷ sold 2 4 4004 500 ∷ sold 3 4 4004 300 ∷ sold 1 4 4004 200 ∷ sold 2 4 4004 1100 ∷ []
  pub refreshed_then : map slices_of (played icebergs).state.resting ≡ (1, 200, 900) ∷ (2, 400, 500) ∷ (3, 300, 600) ∷ []
  -- the smaller of two orders with one key is cancelled, and the other decremented
  pub cancel_and_decrement : reported (brokers ++ (
      plain 65 Buy term.Day 4004 100
      ∷ entry 66 Buy Limit term.Day 4004 500 0 CancelAndDecrement 9
      ∷ plain 67 Buy term.Day 4004 100
      ∷ entry 66 Sell Limit term.Day 4004 700 0 CancelAndDecrement 9
      ∷ [])) ≡
      enters 1 4004 100 Buy ∷ enters 2 4004 500 Buy ∷ enters 3 4004 100 Buy ∷ enters 4 4004 700 Sell
      ∷ cancelled (number 2) (shares 500) SelfTrade ∷ decremented (number 4) (number 2) (shares 500) ∷ sold 1 4 4004 100 ∷ sold 3 4 4004 100 ∷ []
  -- a fill-or-kill order of 300 against 200, and against 300
  pub fill_or_kill : reported (brokers ++ (
      plain 65 Buy term.Day 4004 200
      ∷ plain 66 Sell term.FillOrKill 4004 300
      ∷ plain 65 Buy term.Day 4004 100
      ∷ plain 66 Sell term.FillOrKill 4004 300
      ∷ [])) ≡
      enters 1 4004 200 Buy ∷ enters 2 4004 300 Sell ∷ cancelled (number 2) (shares 300) FillOrKill
      ∷ enters 3 4004 100 Buy ∷ enters 4 4004 300 Sell ∷ sold 1 4 4004 200 ∷ sold 3 4 4004 100 ∷ []
  -- orders that rest in a crossed quote, and trade when it is uncrossed
  pub uncrossed : reported (brokers ++ (
      NewQuote (bid_by_offer 4004 4000)
      ∷ plain 65 Buy term.Day 4008 100
      ∷ plain 66 Sell term.Day 3996 100
      ∷ NewQuote (bid_by_offer 4000 4008)
      ∷ [])) ≡
      quoted (bid_by_offer 4004 4000) false ∷ enters 1 4008 100 Buy ∷ enters 2 3996 100 Sell ∷ quoted (bid_by_offer 4000 4008) false
      ∷ trade (number 1) (number 2) (at 4000) (shares 100) Buy false ∷ []
