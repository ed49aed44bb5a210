-- The grounds on which each call is refused, in rising order of the refusals' numbers; the first that applies counts.
use Rattle.std.specs.Prelude.{ℕ, Bool, true, false, cond, not, ◌&&◌, List, [], ◌∷◌, ◌++◌, length, is_some, Some, None, Ok, Err, Option, ◌==◌, nat_le, nat_lt}
use Rattle.types.specs.declared.calls.Call.{Call}
use Rattle.types.specs.declared.calls.Call.TheVariants as call
use Rattle.types.specs.declared.calls.Cancellation.{Cancellation}
use Rattle.types.specs.declared.calls.Enrolment.{Enrolment}
use Rattle.types.specs.declared.orders.Entry.{Entry}
use Rattle.types.specs.declared.orders.RestingOrder.{RestingOrder}
use Rattle.types.specs.declared.orders.TraderId.{TraderId}
use Rattle.types.specs.declared.quotes.SessionState.{SessionState}
use Rattle.types.specs.declared.quotes.SessionState.TheVariants.{Open, Halted, Closed}
use Rattle.faults.specs.declared.layers.BookFault.{BookFault}
use Rattle.faults.specs.declared.layers.BookFault.TheVariants as book
use Rattle.faults.specs.declared.layers.ChannelFault.{ChannelFault}
use Rattle.faults.specs.declared.layers.ChannelFault.TheVariants as channel
use Rattle.checks.specs.Checks.{Checked, check}
use Rattle.prices.specs.Prices.{View, is_peg, may_take}
use Rattle.runs.specs.Lists.{no_one}
use Rattle.rules.specs.declared.SetUp.{SetUp}
use Rattle.rules.specs.SetUps.{lot_in}
use Rattle.rules.specs.Accounts.{view_under}
use Rattle.rules.specs.States.{State}
use Rattle.rules.specs.Calls.{enrolled, broker_of, has_number}

-- A ground of refusal: whether it applies, and the fault that it is answered with.
pub record Ground : Type 0 where
  pub applies : Bool
  pub fault : ChannelFault

-- The fault of the first ground that applies.
abbrev pub first_fault : List Ground → Option ChannelFault
first_fault [] = None
first_fault (g ∷ gs) = cond g.applies (Some g.fault) (first_fault gs)

-- A ground in the state of the book.
abbrev pub by_book : Bool → BookFault → Ground
by_book applies fault = record { applies = applies; fault = channel.Book fault }

-- A fault of the call's fields.
abbrev pub by_fields : Checked → List Ground
by_fields (Ok passed) = []
by_fields (Err fault) = by_book true (book.Fields fault) ∷ []

-- The session is closed, or halted.
abbrev pub is_closed : SessionState → Bool
is_closed Open = false
is_closed Halted = false
is_closed Closed = true

abbrev pub is_halted : SessionState → Bool
is_halted Open = false
is_halted Halted = true
is_halted Closed = false

-- A closed session takes no call.
abbrev pub when_closed : State → Ground
when_closed st = by_book (is_closed st.session) book.Closed

-- A halted session takes no entry, no quote and no halt.
abbrev pub when_halted : State → Ground
when_halted st = by_book (is_halted st.session) book.Halted

-- Only a halted session takes a resume.
abbrev pub unless_halted : State → Ground
unless_halted st = by_book (not (is_halted st.session)) book.NotHalted

-- The trader is not enrolled.
abbrev pub unknown_trader : TraderId → State → Ground
unknown_trader t st = by_book (not (is_some (enrolled t st.traders))) book.UnknownTrader

-- The trader is enrolled already.
abbrev pub trader_known : TraderId → State → Ground
trader_known t st = by_book (is_some (enrolled t st.traders)) book.TraderKnown

-- The trader register has no free place.
abbrev pub register_full : SetUp → State → Ground
register_full s st = by_book (nat_le s.traders (length st.traders)) book.RegisterFull

-- The trader was enrolled as latency-sensitive.
abbrev pub is_latency_sensitive : Option Enrolment → Bool
is_latency_sensitive None = false
is_latency_sensitive (Some e) = e.latency_sensitive

-- A latency-sensitive trader enters only post-only orders.
abbrev pub must_be_post_only : Entry → State → Ground
must_be_post_only e st = by_book (is_latency_sensitive (enrolled e.trader st.traders) && not e.marks.post_only) book.LatencySensitive

-- The entry without its post-only mark.
abbrev pub unmarked : Entry → Entry
unmarked e = record {
  trader = e.trader;
  side = e.side;
  kind = e.kind;
  term = e.term;
  marks = record { post_only = false; anonymous = e.marks.anonymous; jitney = e.marks.jitney };
  limit = e.limit;
  volume = e.volume;
  display = e.display;
  instruction = e.instruction;
  key = e.key;
}

-- A resting limit or iceberg that the entry without its mark may take.
abbrev pub in_its_way : View → Entry → RestingOrder → Bool
in_its_way view e o = not (is_peg o.order.entry.kind) && may_take view (unmarked e) o.order.entry

-- A post-only order must not find one in its way.
abbrev pub would_take : Entry → State → Ground
would_take e st = by_book (e.marks.post_only && not (no_one (in_its_way (view_under st.quote) e) st.resting)) book.WouldTake

-- The order does not rest.
abbrev pub unknown_order : Cancellation → State → Ground
unknown_order c st = by_book (no_one (has_number c.order.number) st.resting) (book.UnknownOrder c.order)

-- It is an order of the broker n.
abbrev pub is_brokers : ℕ → RestingOrder → Bool
is_brokers n o = n == o.order.broker.number

-- The order is not one of the trader's broker.
abbrev pub other_brokers : Cancellation → State → Ground
other_brokers c st =
    by_book (no_one (λ o. has_number c.order.number o && is_brokers (broker_of (enrolled c.trader st.traders)).number o) st.resting)
    (book.OtherBrokers c.order)

-- As many orders were accepted as a day takes.
abbrev pub day_full : SetUp → State → Ground
day_full s st = by_book (nat_le s.day_limit st.accepted) book.DayLimit

-- As many orders rest as the table has places, before the entry is run.
abbrev pub table_full : SetUp → State → Ground
table_full s st = by_book (nat_le s.table (length st.resting)) book.TableFull

-- The grounds in the state of the book, call by call.
abbrev pub by_state : SetUp → Call → State → List Ground
by_state s (call.Enter e) st =
    when_closed st ∷ when_halted st ∷ unknown_trader e.trader st ∷ must_be_post_only e st ∷ would_take e st ∷ day_full s st ∷ table_full s st ∷ []
by_state s (call.Cancel c) st = when_closed st ∷ unknown_trader c.trader st ∷ unknown_order c st ∷ other_brokers c st ∷ []
by_state s (call.Quote q) st = when_closed st ∷ when_halted st ∷ []
by_state s call.Halt st = when_closed st ∷ when_halted st ∷ []
by_state s (call.Resume q) st = when_closed st ∷ unless_halted st ∷ []
by_state s call.Close st = when_closed st ∷ []
by_state s (call.Enrol e) st = when_closed st ∷ trader_known e.trader st ∷ register_full s st ∷ []

-- The grounds before a call is tried.
abbrev pub grounds : SetUp → Call → State → List Ground
grounds s c st = by_fields (check (lot_in s) c) ++ by_state s c st

-- The grounds after it was tried: event sheet or channel has no room for its n reports.
abbrev pub room : SetUp → State → ℕ → List Ground
room s st n = by_book (nat_lt s.sheet n) book.SheetFull ∷ record { applies = nat_lt st.space n; fault = channel.Full } ∷ []
