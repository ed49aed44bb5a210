-- The law of a day.
use Rattle.std.specs.Prelude.{◌≡◌, ℕ, ◌+◌, ◌<◌, ◌≤◌, true, ◌||◌, List, [], ◌∷◌, ◌++◌, reverse, Some, ◌≢◌}
use Rattle.types.specs.declared.calls.Call.{Call}
use Rattle.types.specs.declared.money.Price.{Price}
use Rattle.types.specs.declared.orders.Order.{Order}
use Rattle.types.specs.declared.orders.RestingOrder.{RestingOrder}
use Rattle.types.specs.declared.orders.Side.TheVariants.{Buy, Sell}
use Rattle.types.specs.declared.reports.Report.{Report}
use Rattle.types.specs.declared.reports.ReportKind.{ReportKind}
use Rattle.types.specs.declared.reports.ReportKind.TheVariants as kind
use Rattle.prices.specs.Prices.{View, middle, price, is_peg}
use Rattle.priority.specs.Priority.{Rule, Lawful, better}
use Rattle.runs.specs.Lists.{In}
use Rattle.runs.specs.Slices.{takes}
use Rattle.rules.specs.declared.SetUp.{SetUp}
use Rattle.rules.specs.Accounts.{lost, left_by_reports, limit_in_force, quote_of, view_under, view_of, active_side, active_of, rests}
use Rattle.rules.specs.States.{State}
use Rattle.rules.specs.Served.{served}
use Rattle.rules.specs.Days.{Day, opening, day_of, Shows}

-- The price of a trade.
abbrev pub at_price : Report → Price
at_price r = record { quarters = r.price }

-- A trade after the reports of the log, of the orders accepted on the day.
pub record FairTrade (orders : List Order) (log : List Report) (r : Report) : Type 0 where
  pub buyer : Order
  pub seller : Order
  pub buyer_known : In buyer orders
  pub seller_known : In seller orders
  pub buyer_number : buyer.number.number ≡ r.order
  pub seller_number : seller.number.number ≡ r.other
  pub buyer_side : buyer.entry.side ≡ Buy
  pub seller_side : seller.entry.side ≡ Sell
  -- the earlier reports leave each of them the volume that it trades,
  pub buyer_has : r.volume ≤ left_by_reports r.order log
  pub seller_has : r.volume ≤ left_by_reports r.other log
  -- its price is within both limits,
  pub low : (limit_in_force log seller).quarters ≤ r.price
  pub high : r.price ≤ (limit_in_force log buyer).quarters
  -- within each present side of the quote in force,
  pub bid : (p : Price) → (quote_of log).bid ≡ Some p → p.quarters ≤ r.price
  pub offer : (p : Price) → (quote_of log).offer ≡ Some p → r.price ≤ p.quarters
  -- with a peg in it exactly the middle,
  pub peg : (is_peg buyer.entry.kind || is_peg seller.entry.kind) ≡ true → middle (quote_of log) ≡ Some (at_price r)
  -- and no order of which the reports leave volume, and that the active one may take, has a better price.
  pub best : (o : Order) (p : Price) → In o orders → 0 < left_by_reports o.number.number log
      → takes (view_of log) (active_of (active_side r.mark) buyer seller) o ≡ true → price (view_of log) o.entry ≡ Some p
      → better (active_side r.mark) p (at_price r) ≢ true

-- Each report that is a trade is fair.
abbrev pub FairAs : ReportKind → List Order → List Report → Report → Type 0
FairAs kind.Blank orders log r = Unit {0}
FairAs kind.Accepted orders log r = Unit {0}
FairAs kind.Trade orders log r = FairTrade orders log r
FairAs kind.Cancelled orders log r = Unit {0}
FairAs kind.Decremented orders log r = Unit {0}
FairAs kind.Quote orders log r = Unit {0}
FairAs kind.Halted orders log r = Unit {0}
FairAs kind.Closed orders log r = Unit {0}

abbrev pub FairReport : List Order → List Report → Report → Type 0
FairReport orders log r = FairAs r.kind orders log r

-- No two of the orders may each take the other.
abbrev pub Quiet : View → List RestingOrder → Type 0
Quiet view os = (x y : RestingOrder) → In x os → In y os → takes view x.order y.order ≡ true → takes view y.order x.order ≢ true

-- The three laws of a day.
pub record DayOk (d : Day) : Type 0 where
  -- What was entered of each order is what the reports took, and what rests.
  pub conserved : (o : Order) → In o d.orders
      → o.entry.volume.shares ≡ lost o.number.number d.log + rests o.number.number d.state.resting
  -- Each trade, with the reports before it, is fair.
  pub fair : (before behind : List Report) (r : Report) → reverse d.log ≡ before ++ (r ∷ behind) → FairReport d.orders (reverse before) r
  -- The book is quiet.
  pub quiet : Quiet (view_under d.state.quote) d.state.resting

-- It holds for every set-up, every lawful rule, every space of the channel and every list of calls.
abbrev pub DayLaw : Type 0
DayLaw = (s : SetUp) (rule : Rule) → Lawful rule → (space : ℕ) (calls : List Call) → DayOk (day_of s rule (opening space) calls)

-- The law at one call, from the state and the channel's list at its start to those at its end: whatever calls of the day came before,
-- the day with this call shows what is held now, and has the law.
abbrev pub GoesOn : SetUp → Rule → Call → State → List Report → State → List Report → Type 0
GoesOn s rule c st list st' list' =
    (first : List Report) (space : ℕ) (calls : List Call) → Shows first (day_of s rule (opening space) calls) st list
    → Shows first (day_of s rule (opening space) (calls ++ (c ∷ []))) st' list' × DayOk (day_of s rule (opening space) (calls ++ (c ∷ [])))

-- Every call that is served as the rules say carries the law on.
abbrev pub CallsGoOn : Type 0
CallsGoOn = (s : SetUp) (rule : Rule) → Lawful rule → (c : Call) (st : State) (list : List Report)
    → GoesOn s rule c st list (served s rule st c).state (list ++ (served s rule st c).reports)
