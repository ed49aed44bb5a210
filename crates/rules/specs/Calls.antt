-- What each call makes where it is accepted.
use Rattle.std.specs.Prelude.{ℕ, Bool, true, false, not, List, [], ◌∷◌, ◌++◌, map, Some, None, filter, find, Option, ◌==◌}
use Rattle.std.specs.Str.{bytes_eq}
use Rattle.types.specs.declared.calls.Call.{Call}
use Rattle.types.specs.declared.calls.Call.TheVariants as call
use Rattle.types.specs.declared.calls.Enrolment.{Enrolment}
use Rattle.types.specs.declared.orders.Broker.{Broker}
use Rattle.types.specs.declared.orders.OrderNumber.{OrderNumber}
use Rattle.types.specs.declared.orders.RestingOrder.{RestingOrder}
use Rattle.types.specs.declared.orders.TraderId.{TraderId}
use Rattle.types.specs.declared.quotes.SessionState.{SessionState}
use Rattle.types.specs.declared.quotes.SessionState.TheVariants.{Halted, Closed}
use Rattle.types.specs.declared.reports.CancelReason.TheVariants as why
use Rattle.types.specs.declared.reports.Report.{Report}
use Rattle.types.specs.Reports.{cancelled, halted, closed}
use Rattle.priority.specs.Priority.{Rule}
use Rattle.runs.specs.Slices.{volume_of}
use Rattle.runs.specs.Meetings.{shares}
use Rattle.rules.specs.Accounts.{rests}
use Rattle.rules.specs.States.{State, Made}
use Rattle.rules.specs.Entering.{enter}
use Rattle.rules.specs.Requotes.{requote}

-- The enrolment of a trader, by its letters.
abbrev pub enrolled : TraderId → List Enrolment → Option Enrolment
enrolled t es = find (λ (e : Enrolment). bytes_eq t.letters e.trader.letters) es

-- The broker of an enrolled trader.
abbrev pub broker_of : Option Enrolment → Broker
broker_of None = record { number = 0 }
broker_of (Some e) = e.broker

-- The state in another session, with another time list.
abbrev pub moved_to : SessionState → List RestingOrder → State → State
moved_to session os st = record { session = session; quote = st.quote; resting = os; traders = st.traders; accepted = st.accepted; space = st.space }

-- It is the order of the number n.
abbrev pub has_number : ℕ → RestingOrder → Bool
has_number n o = n == o.order.number.number

-- What rests of the order is cancelled.
unfoldable pub cancel : OrderNumber → State → Made
cancel n st = record {
  state = moved_to st.session (filter (λ o. not (has_number n.number o)) st.resting) st;
  reports = cancelled n (shares (rests n.number st.resting)) why.Requested ∷ [];
  orders = [];
}

-- The session halts.
unfoldable pub halt : State → Made
halt st = record { state = moved_to Halted st.resting st; reports = halted ∷ []; orders = [] }

-- What rests of an order is cancelled at the close.
abbrev pub cancelled_at_close : RestingOrder → Report
cancelled_at_close o = cancelled o.order.number (shares (volume_of o)) why.Close

-- Every order is cancelled, in the sequence of the list.
unfoldable pub close : State → Made
close st = record {
  state = moved_to Closed [] st;
  reports = map cancelled_at_close st.resting ++ (closed ∷ []);
  orders = [];
}

-- The trader is enrolled, and nothing is reported.
unfoldable pub enrol : Enrolment → State → Made
enrol e st = record {
  state = record { session = st.session; quote = st.quote; resting = st.resting; traders = st.traders ++ (e ∷ []); accepted = st.accepted; space = st.space };
  reports = [];
  orders = [];
}

-- Each call, where nothing speaks against it.
abbrev pub made : Rule → Call → State → Made
made rule (call.Enter e) st = enter rule (broker_of (enrolled e.trader st.traders)) e st
made rule (call.Cancel c) st = cancel c.order st
made rule (call.Quote q) st = requote rule false q st
made rule call.Halt st = halt st
made rule (call.Resume q) st = requote rule true q st
made rule call.Close st = close st
made rule (call.Enrol e) st = enrol e st
