-- What a book holds between calls.
use Rattle.std.specs.Prelude.{ℕ, List, []}
use Rattle.types.specs.declared.calls.Enrolment.{Enrolment}
use Rattle.types.specs.declared.orders.Order.{Order}
use Rattle.types.specs.declared.orders.RestingOrder.{RestingOrder}
use Rattle.types.specs.declared.quotes.Quote.{Quote}
use Rattle.types.specs.declared.quotes.SessionState.{SessionState}
use Rattle.types.specs.declared.quotes.SessionState.TheVariants.{Open}
use Rattle.types.specs.declared.reports.Report.{Report}
use Rattle.rules.specs.Accounts.{no_quote}

-- The session, the quote in force, the time list, the enrolled traders, how many orders were accepted so far, and the space of the channel.
pub record State : Type 0 where
  pub session : SessionState
  pub quote : Quote
  pub resting : List RestingOrder
  pub traders : List Enrolment
  pub accepted : ℕ
  pub space : ℕ

-- At the opening nothing rests, no one is enrolled, and both sides of the quote are missing.
abbrev pub opened : ℕ → State
opened space = record { session = Open; quote = no_quote; resting = []; traders = []; accepted = 0; space = space }

-- The time list in the course of a call, and the call's reports so far, the newest first.
pub record Book : Type 0 where
  pub resting : List RestingOrder
  pub log : List Report

-- What an accepted call makes: the state, but for the space that its reports take, its reports in sequence, and the order that it accepted.
pub record Made : Type 0 where
  pub state : State
  pub reports : List Report
  pub orders : List Order
