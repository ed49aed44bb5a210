-- A day: what the rules give for a list of calls.
use Rattle.std.specs.Prelude.{◌≡◌, ℕ, List, [], ◌∷◌, ◌++◌, reverse}
use Rattle.types.specs.declared.calls.Call.{Call}
use Rattle.types.specs.declared.orders.Order.{Order}
use Rattle.types.specs.declared.reports.Report.{Report}
use Rattle.priority.specs.Priority.{Rule}
use Rattle.rules.specs.declared.SetUp.{SetUp}
use Rattle.rules.specs.States.{State, opened}
use Rattle.rules.specs.Served.{Outcome, served}

-- The state, all reports since the opening, the newest first, and all orders accepted, the newest first.
pub record Day : Type 0 where
  pub state : State
  pub log : List Report
  pub orders : List Order

-- A day begins with a channel that has space for so many reports.
abbrev pub opening : ℕ → Day
opening space = record { state = opened space; log = []; orders = [] }

-- The day with one more call.
abbrev pub add : Day → Outcome → Day
add d o = record { state = o.state; log = reverse o.reports ++ d.log; orders = o.orders ++ d.orders }

-- One call of the day is served in the state that the calls before it left.
abbrev pub answer : SetUp → Rule → Day → Call → Day
answer s rule d c = add d (served s rule d.state c)

-- The calls are served one after the other.
unfoldable pub day_of : SetUp → Rule → Day → List Call → Day
day_of s rule d [] = d
day_of s rule d (c ∷ cs) = day_of s rule (answer s rule d c) cs

-- What is seen of a day from outside: the state, and the channel's list, which began with `first`.
pub record Shows (first : List Report) (d : Day) (st : State) (list : List Report) : Type 0 where
  pub state_is : st ≡ d.state
  pub list_is : list ≡ first ++ reverse d.log
