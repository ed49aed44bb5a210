-- Entering an order.
use Rattle.std.specs.Prelude.{ℕ, suc, cond, List, [], ◌∷◌, ◌++◌, reverse, ◌==◌}
use Rattle.types.specs.declared.orders.Broker.{Broker}
use Rattle.types.specs.declared.orders.Entry.{Entry}
use Rattle.types.specs.declared.orders.Order.{Order}
use Rattle.types.specs.declared.orders.RestingOrder.{RestingOrder}
use Rattle.types.specs.declared.orders.TimeInForce.{TimeInForce}
use Rattle.types.specs.declared.orders.TimeInForce.TheVariants as term
use Rattle.types.specs.declared.reports.CancelReason.{CancelReason}
use Rattle.types.specs.declared.reports.CancelReason.TheVariants as why
use Rattle.types.specs.declared.reports.Report.{Report}
use Rattle.types.specs.Reports.{accepted, cancelled}
use Rattle.prices.specs.Prices.{View}
use Rattle.priority.specs.Priority.{Rule}
use Rattle.runs.specs.Meetings.{shares}
use Rattle.runs.specs.Runs.{Progress, run, tidied, laid_out}
use Rattle.rules.specs.Accounts.{traded, view_under}
use Rattle.rules.specs.States.{State, Book, Made}

-- The report that an order was accepted.
abbrev pub noted : Order → Report
noted o = accepted o.number o.entry.limit o.entry.volume o.entry.side

-- The accepted order after its run; a post-only order has none.
unfoldable pub ran : Rule → View → Order → List RestingOrder → Progress
ran rule view o os =
    let start : Progress = record { left = o.entry.volume.shares; others = os; log = noted o ∷ [] } in
    cond o.entry.marks.post_only start (run rule view o start)

-- What is left of a DAY order rests at the end of the list.
abbrev pub remainder : Order → ℕ → List RestingOrder
remainder o v = cond (v == 0) [] (laid_out o.entry.kind o v ∷ [])

-- What is left is cancelled.
abbrev pub cut : Order → ℕ → CancelReason → List Report → List Report
cut o v reason log = cond (v == 0) log (cancelled o.number (shares v) reason ∷ log)

-- A DAY order: its remainder rests.
unfoldable pub day_book : Order → List RestingOrder → Progress → Book
day_book o os r = record { resting = tidied os r.others ++ remainder o r.left; log = r.log }

-- An IOC order: its remainder is cancelled.
unfoldable pub ioc_book : Order → List RestingOrder → Progress → Book
ioc_book o os r = record { resting = tidied os r.others; log = cut o r.left why.ImmediateOrCancel r.log }

-- The order is cancelled in full, and all else is as before.
abbrev pub killed : Order → List RestingOrder → Book
killed o os = record { resting = os; log = cancelled o.number o.entry.volume why.FillOrKill ∷ noted o ∷ [] }

-- A fill-or-kill order is run on trial; its trades must make up its whole volume.
unfoldable pub fok_book : Order → List RestingOrder → Progress → Book
fok_book o os r = cond (traded o.number.number r.log == o.entry.volume.shares) (ioc_book o os r) (killed o os)

-- What the run comes to goes by the order's term.
abbrev pub by_term : TimeInForce → Order → List RestingOrder → Progress → Book
by_term term.Day o os r = day_book o os r
by_term term.ImmediateOrCancel o os r = ioc_book o os r
by_term term.FillOrKill o os r = fok_book o os r

-- The order that an entry of the broker becomes.
abbrev pub numbered : State → Broker → Entry → Order
numbered st broker e = record { number = record { number = suc st.accepted }; broker = broker; entry = e }

-- The order is run through the resting ones, and comes to rest or goes by its term.
abbrev pub entry_book : Rule → Order → State → Book
entry_book rule o st = by_term o.entry.term o st.resting (ran rule (view_under st.quote) o st.resting)

-- The order takes the next number.
unfoldable pub enter : Rule → Broker → Entry → State → Made
enter rule broker e st =
    let o : Order = numbered st broker e in
    let b : Book = entry_book rule o st in
    record {
      state = record { session = st.session; quote = st.quote; resting = b.resting; traders = st.traders; accepted = suc st.accepted; space = st.space };
      reports = reverse b.log;
      orders = o ∷ [];
    }
