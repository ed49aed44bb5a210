-- What each report says. A field that a report does not name is 0.
use Rattle.std.specs.Prelude.{ℕ, ◌+◌, Bool, cond, Some, None, Option, Result, ok_or, ◌==◌}
use Rattle.types.specs.declared.money.Price.{Price}
use Rattle.types.specs.declared.money.Volume.{Volume}
use Rattle.types.specs.declared.orders.OrderNumber.{OrderNumber}
use Rattle.types.specs.declared.orders.Side.{Side}
use Rattle.types.specs.declared.orders.Side.TheVariants.{Buy, Sell}
use Rattle.types.specs.declared.quotes.Quote.{Quote}
use Rattle.types.specs.declared.reports.CancelReason.{CancelReason}
use Rattle.types.specs.declared.reports.CancelReason.TheVariants.{Requested, ImmediateOrCancel, FillOrKill, SelfTrade, Close}
use Rattle.types.specs.declared.reports.Report.{Report}
use Rattle.types.specs.declared.reports.ReportKind.{ReportKind}
use Rattle.types.specs.declared.reports.ReportKind.TheVariants as kind
use Rattle.types.specs.declared.reports.UnknownReportKind.{UnknownReportKind}

-- how a report marks a side, and why an order was cancelled
abbrev pub side_mark : Side → ℕ
side_mark Buy = 1
side_mark Sell = 2

abbrev pub cancel_mark : CancelReason → ℕ
cancel_mark Requested = 1
cancel_mark ImmediateOrCancel = 2
cancel_mark FillOrKill = 3
cancel_mark SelfTrade = 4
cancel_mark Close = 5

-- the kind of a report by its number; 0, a blank's, tells none
abbrev pub report_kind : ℕ → Option ReportKind
report_kind n =
    cond (n == 1) (Some kind.Accepted)
    (cond (n == 2) (Some kind.Trade)
    (cond (n == 3) (Some kind.Cancelled)
    (cond (n == 4) (Some kind.Decremented)
    (cond (n == 5) (Some kind.Quote) (cond (n == 6) (Some kind.Halted) (cond (n == 7) (Some kind.Closed) None))))))

-- the same as a conversion, which says of which number there is none
abbrev pub report_kind_from : ℕ → Result ReportKind UnknownReportKind
report_kind_from n = ok_or (report_kind n) (record { code = n })

-- a missing side of a quote counts as 0
abbrev pub price_or_zero : Option Price → ℕ
price_or_zero None = 0
price_or_zero (Some p) = p.quarters

-- and the other way round
abbrev pub price_unless_zero : ℕ → Option Price
price_unless_zero n = cond (n == 0) None (Some (record { quarters = n }))

-- a place of an event sheet that is not in use
abbrev pub blank : Report
blank = record { kind = kind.Blank; order = 0; other = 0; price = 0; volume = 0; mark = 0 }

abbrev pub accepted : OrderNumber → Price → Volume → Side → Report
accepted n limit v side =
    record { kind = kind.Accepted; order = n.number; other = 0; price = limit.quarters; volume = v.shares; mark = side_mark side }

-- the buyer, the seller, and the side that was active
abbrev pub trade : OrderNumber → OrderNumber → Price → Volume → Side → Bool → Report
trade buyer seller p v active suppressed =
    record { kind = kind.Trade; order = buyer.number; other = seller.number; price = p.quarters; volume = v.shares; mark = side_mark active + cond suppressed 4 0 }

abbrev pub cancelled : OrderNumber → Volume → CancelReason → Report
cancelled n v why =
    record { kind = kind.Cancelled; order = n.number; other = 0; price = 0; volume = v.shares; mark = cancel_mark why }

-- the order that lost the volume, and the one that was cancelled
abbrev pub decremented : OrderNumber → OrderNumber → Volume → Report
decremented n other v =
    record { kind = kind.Decremented; order = n.number; other = other.number; price = 0; volume = v.shares; mark = 0 }

-- the bid as price, the offer as volume
abbrev pub quoted : Quote → Bool → Report
quoted q resumed =
    record { kind = kind.Quote; order = 0; other = 0; price = price_or_zero q.bid; volume = price_or_zero q.offer; mark = cond resumed 1 0 }

abbrev pub halted : Report
halted = record { kind = kind.Halted; order = 0; other = 0; price = 0; volume = 0; mark = 0 }

abbrev pub closed : Report
closed = record { kind = kind.Closed; order = 0; other = 0; price = 0; volume = 0; mark = 0 }
