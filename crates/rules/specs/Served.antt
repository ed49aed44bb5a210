-- A call to the book, accepted or refused: its answer, and what it leaves.
use Rattle.std.specs.Prelude.{ℕ, ◌-◌, Bool, true, false, cond, List, [], ◌++◌, length, replicate, Some, None, Ok, Err, Option, Result}
use Rattle.types.specs.declared.calls.Call.{Call}
use Rattle.types.specs.declared.calls.Call.TheVariants as call
use Rattle.types.specs.declared.orders.Order.{Order}
use Rattle.types.specs.declared.orders.RestingOrder.{RestingOrder}
use Rattle.types.specs.declared.reports.Report.{Report}
use Rattle.types.specs.Reports.{blank}
use Rattle.faults.specs.declared.layers.ChannelFault.{ChannelFault}
use Rattle.priority.specs.Priority.{Rule}
use Rattle.rules.specs.declared.SetUp.{SetUp}
use Rattle.rules.specs.States.{State, Made}
use Rattle.rules.specs.Calls.{made}
use Rattle.rules.specs.Refusals.{first_fault, grounds, room}

-- How many reports were put, or the fault; the state; the call's own reports in sequence; and the order that it accepted.
pub record Outcome : Type 0 where
  pub answer : Result ℕ ChannelFault
  pub state : State
  pub reports : List Report
  pub orders : List Order

-- A refused call leaves the state as it was.
abbrev pub refused : ChannelFault → State → Outcome
refused fault st = record { answer = Err fault; state = st; reports = []; orders = [] }

-- The state with n places less in the channel.
abbrev pub sent : ℕ → State → State
sent n st = record { session = st.session; quote = st.quote; resting = st.resting; traders = st.traders; accepted = st.accepted; space = st.space - n }

-- An accepted call answers how many reports it put, and they take up the channel's space.
abbrev pub taken : Made → Outcome
taken m = record {
  answer = Ok (length m.reports);
  state = sent (length m.reports) m.state;
  reports = m.reports;
  orders = m.orders;
}

-- A call is refused where there is a fault.
abbrev pub settled : Option ChannelFault → State → Made → Outcome
settled None st m = taken m
settled (Some fault) st m = refused fault st

-- The call in the state, under the set-up and the rule.
unfoldable pub served : SetUp → Rule → State → Call → Outcome
served s rule st c =
    let m : Made = made rule c st in
    settled (first_fault (grounds s c st ++ room s st (length m.reports))) st m

-- The reports, and blanks up to the end of the sheet; all blank after a refusal.
abbrev pub filled_up : SetUp → List Report → List Report
filled_up s reports = reports ++ replicate (s.sheet - length reports) blank

-- The call is an enrolment.
abbrev pub is_enrol : Call → Bool
is_enrol (call.Enter e) = false
is_enrol (call.Cancel c) = false
is_enrol (call.Quote q) = false
is_enrol call.Halt = false
is_enrol (call.Resume q) = false
is_enrol call.Close = false
is_enrol (call.Enrol e) = true

-- The event sheet after a call, from the one before it: enrol leaves it alone.
abbrev pub sheet_after : SetUp → Rule → State → Call → List Report → List Report
sheet_after s rule st c sheet = cond (is_enrol c) sheet (filled_up s (served s rule st c).reports)

-- A call that is refused before it is tried leaves the spare table as found.
abbrev pub unless_tried : Option ChannelFault → List RestingOrder → List RestingOrder → List RestingOrder
unless_tried None before spare = before
unless_tried (Some fault) before spare = spare

-- The spare table after a call, from the one before it: the time list from before the call, once the call was tried; enrol leaves it alone.
abbrev pub spare_after : SetUp → State → Call → List RestingOrder → List RestingOrder
spare_after s st c spare = cond (is_enrol c) spare (unless_tried (first_fault (grounds s c st)) st.resting spare)
