-- The line that is printed of a report, and of a resting order.
use Rattle.std.specs.Prelude.{ℕ, ◌/◌, ◌%◌, Bool, true, false, cond, List, ◌++◌, codes, decimal, ◌==◌}
use Rattle.types.specs.declared.orders.RestingOrder.{RestingOrder}
use Rattle.types.specs.declared.reports.Report.{Report}
use Rattle.types.specs.declared.reports.ReportKind.{ReportKind}
use Rattle.types.specs.declared.reports.ReportKind.TheVariants as kind
use Rattle.types.specs.Reports.{price_unless_zero}
use Rattle.names.specs.Names.{side_word, kind_word}
use Rattle.words.specs.Words.{dollars, side_dollars}

-- the side that a mark tells; a mark that tells none is a dash
abbrev pub side_told : ℕ → List ℕ
side_told mark = cond (mark == 1) (codes "buy") (cond (mark == 2) (codes "sell") (codes "-"))

abbrev pub active_told : ℕ → List ℕ
active_told mark = cond (mark % 4 == 1) (codes "buyer") (cond (mark % 4 == 2) (codes "seller") (codes "-"))

abbrev pub suppressed_told : Bool → List ℕ
suppressed_told true = codes " suppressed"
suppressed_told false = codes ""

abbrev pub reason_told : ℕ → List ℕ
reason_told mark =
    cond (mark == 1) (codes "request")
    (cond (mark == 2) (codes "ioc") (cond (mark == 3) (codes "fok") (cond (mark == 4) (codes "stp") (cond (mark == 5) (codes "close") (codes "-")))))

abbrev pub resume_told : ℕ → List ℕ
resume_told mark = cond (mark == 1) (codes " on resume") (codes "")

abbrev pub accepted_words : Report → List ℕ
accepted_words r =
    codes "ACCEPTED order " ++ (decimal r.order ++ (codes " " ++ (side_told r.mark ++ (codes " " ++ (decimal r.volume ++ (codes " at " ++ dollars r.price))))))

abbrev pub trade_words : Report → List ℕ
trade_words r =
    codes "TRADE buyer " ++ (decimal r.order ++ (codes " seller " ++ (decimal r.other
    ++ (codes " price " ++ (dollars r.price ++ (codes " volume " ++ (decimal r.volume
    ++ (codes " active " ++ (active_told r.mark ++ suppressed_told (r.mark / 4 == 1))))))))))

abbrev pub cancelled_words : Report → List ℕ
cancelled_words r = codes "CANCELLED order " ++ (decimal r.order ++ (codes " volume " ++ (decimal r.volume ++ (codes " by " ++ reason_told r.mark))))

abbrev pub decremented_words : Report → List ℕ
decremented_words r =
    codes "DECREMENTED order " ++ (decimal r.order ++ (codes " volume " ++ (decimal r.volume ++ (codes " against " ++ decimal r.other))))

abbrev pub quote_words : Report → List ℕ
quote_words r =
    codes "QUOTE bid " ++ (side_dollars (price_unless_zero r.price) ++ (codes " offer " ++ (side_dollars (price_unless_zero r.volume) ++ resume_told r.mark)))

abbrev pub words_by : ReportKind → Report → List ℕ
words_by kind.Blank r = codes "BLANK"
words_by kind.Accepted r = accepted_words r
words_by kind.Trade r = trade_words r
words_by kind.Cancelled r = cancelled_words r
words_by kind.Decremented r = decremented_words r
words_by kind.Quote r = quote_words r
words_by kind.Halted r = codes "HALTED"
words_by kind.Closed r = codes "CLOSED"

abbrev pub report_words : Report → List ℕ
report_words r = words_by r.kind r

-- an order's number, side, kind and limit, and its volumes and broker
abbrev pub order_words : RestingOrder → List ℕ
order_words o =
    codes "order " ++ (decimal o.order.number.number ++ (codes " " ++ (side_word o.order.entry.side
    ++ (codes " " ++ (kind_word o.order.entry.kind ++ (codes " at " ++ dollars o.order.entry.limit.quarters))))))

abbrev pub volume_words : RestingOrder → List ℕ
volume_words o =
    codes "shown " ++ (decimal o.shown.shares ++ (codes " reserve " ++ (decimal o.reserve.shares ++ (codes " broker " ++ decimal o.order.broker.number))))

abbrev pub resting_words : RestingOrder → List ℕ
resting_words o = codes "RESTING " ++ (order_words o ++ (codes " " ++ volume_words o))
