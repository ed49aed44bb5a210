-- What the reports say of orders and of the quote. A log has the newest report first.
use Rattle.std.specs.Prelude.{ℕ, ◌+◌, ◌-◌, ◌%◌, cond, List, [], ◌∷◌, None, ◌==◌}
use Rattle.types.specs.declared.money.Price.{Price}
use Rattle.types.specs.Reports.{price_unless_zero}
use Rattle.types.specs.declared.orders.Order.{Order}
use Rattle.types.specs.declared.orders.RestingOrder.{RestingOrder}
use Rattle.types.specs.declared.orders.Side.{Side}
use Rattle.types.specs.declared.orders.Side.TheVariants.{Buy, Sell}
use Rattle.types.specs.declared.quotes.Quote.{Quote}
use Rattle.types.specs.declared.reports.Report.{Report}
use Rattle.types.specs.declared.reports.ReportKind.{ReportKind}
use Rattle.types.specs.declared.reports.ReportKind.TheVariants as kind
use Rattle.prices.specs.Prices.{View}
use Rattle.runs.specs.Lists.{sum_of}
use Rattle.runs.specs.Slices.{volume_of}

-- v where n is m, else nothing
abbrev pub on : ℕ → ℕ → ℕ → ℕ
on n m v = cond (n == m) v 0

-- What a report of the kind enters, trades, and takes in all of the order n: a trade counts against buyer and seller,
-- a cancellation or a decrement against its order.
abbrev pub entered_as : ReportKind → ℕ → Report → ℕ
entered_as kind.Blank n r = 0
entered_as kind.Accepted n r = on n r.order r.volume
entered_as kind.Trade n r = 0
entered_as kind.Cancelled n r = 0
entered_as kind.Decremented n r = 0
entered_as kind.Quote n r = 0
entered_as kind.Halted n r = 0
entered_as kind.Closed n r = 0

-- What it trades of the order n.
abbrev pub traded_as : ReportKind → ℕ → Report → ℕ
traded_as kind.Blank n r = 0
traded_as kind.Accepted n r = 0
traded_as kind.Trade n r = on n r.order r.volume + on n r.other r.volume
traded_as kind.Cancelled n r = 0
traded_as kind.Decremented n r = 0
traded_as kind.Quote n r = 0
traded_as kind.Halted n r = 0
traded_as kind.Closed n r = 0

-- What it takes of the order n in all.
abbrev pub lost_as : ReportKind → ℕ → Report → ℕ
lost_as kind.Blank n r = 0
lost_as kind.Accepted n r = 0
lost_as kind.Trade n r = on n r.order r.volume + on n r.other r.volume
lost_as kind.Cancelled n r = on n r.order r.volume
lost_as kind.Decremented n r = on n r.order r.volume
lost_as kind.Quote n r = 0
lost_as kind.Halted n r = 0
lost_as kind.Closed n r = 0

-- What a report enters of the order n, and what it takes of it.
abbrev pub entered_by : ℕ → Report → ℕ
entered_by n r = entered_as r.kind n r

abbrev pub lost_by : ℕ → Report → ℕ
lost_by n r = lost_as r.kind n r

-- What the reports enter of the order n, and what they trade of it.
unfoldable pub entered : ℕ → List Report → ℕ
entered n log = sum_of (entered_by n) log

abbrev pub traded : ℕ → List Report → ℕ
traded n log = sum_of (λ (r : Report). traded_as r.kind n r) log

-- what the reports took of the order n: traded, cancelled and decremented
unfoldable pub lost : ℕ → List Report → ℕ
lost n log = sum_of (lost_by n) log

-- what they leave of it
abbrev pub left_by_reports : ℕ → List Report → ℕ
left_by_reports n log = entered n log - lost n log

-- The limit of an accepted order after the reports of the log: it stays as it was entered.
unfoldable pub limit_in_force : List Report → Order → Price
limit_in_force log o = o.entry.limit

-- A QUOTE report changes the quote in force, and no other report does.
abbrev pub quote_as : ReportKind → Report → Quote → Quote
quote_as kind.Blank r q = q
quote_as kind.Accepted r q = q
quote_as kind.Trade r q = q
quote_as kind.Cancelled r q = q
quote_as kind.Decremented r q = q
quote_as kind.Quote r q = record { bid = price_unless_zero r.price; offer = price_unless_zero r.volume }
quote_as kind.Halted r q = q
quote_as kind.Closed r q = q

-- Both sides are missing.
abbrev pub no_quote : Quote
no_quote = record { bid = None; offer = None }

-- The quote in force after the reports of the log: the last one reported.
abbrev pub quote_of : List Report → Quote
quote_of [] = no_quote
quote_of (r ∷ log) = quote_as r.kind r (quote_of log)

-- What prices go by under a quote, and after the reports of the log.
abbrev pub view_under : Quote → View
view_under quote = quote

abbrev pub view_of : List Report → View
view_of log = view_under (quote_of log)

-- The side that was active in a trade of the mark, suppressed or not.
abbrev pub active_side : ℕ → Side
active_side mark = cond (mark % 4 == 1) Buy Sell

-- The order of the active side.
abbrev pub active_of : Side → Order → Order → Order
active_of Buy buyer seller = buyer
active_of Sell buyer seller = seller

-- What rests of the order n, 0 off the list.
unfoldable pub rests : ℕ → List RestingOrder → ℕ
rests n os = sum_of (λ (o : RestingOrder). on n o.order.number.number (volume_of o)) os
