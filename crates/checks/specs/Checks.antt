-- The checks of a call's fields, in rising order of the refusals' numbers, each at the field that is wrong.
use Rattle.std.specs.Prelude.{◌≡◌, Bool, true, false, Some, None, Ok, Err, Option, Result}
use Rattle.types.specs.declared.money.Lot.{Lot}
use Rattle.types.specs.declared.money.Price.{Price}
use Rattle.types.specs.declared.money.Volume.{Volume}
use Rattle.types.specs.declared.orders.Broker.{Broker}
use Rattle.types.specs.declared.orders.Entry.{Entry}
use Rattle.types.specs.declared.orders.OrderKind.{OrderKind}
use Rattle.types.specs.declared.orders.OrderKind.TheVariants.{Limit, Peg}
use Rattle.types.specs.declared.orders.TraderId.{TraderId}
use Rattle.types.specs.declared.quotes.Quote.{Quote}
use Rattle.types.specs.declared.calls.Call.{Call}
use Rattle.types.specs.declared.calls.Call.TheVariants as call
use Rattle.types.specs.declared.calls.Cancellation.{Cancellation}
use Rattle.types.specs.declared.calls.Enrolment.{Enrolment}
use Rattle.faults.specs.declared.layers.CallField.{CallField}
use Rattle.faults.specs.declared.layers.CallField.TheVariants as at
use Rattle.faults.specs.declared.layers.FieldFault.{FieldFault}
use Rattle.faults.specs.declared.layers.FieldFault.TheVariants as fault
use Rattle.checks.specs.Values.{are_letters, is_broker, on_tick, is_limit, is_volume, is_display, is_term, is_paired}

-- passed, or the first fault
abbrev pub Checked : Type 0
Checked = Result (Unit {0}) FieldFault

abbrev pub test : Bool → FieldFault → Checked
test true f = Ok tt
test false f = Err f

-- the second check counts where the first passed
abbrev pub then : Checked → Checked → Checked
then (Ok _) next = next
then (Err f) next = Err f

abbrev pub trader_check : TraderId → Checked
trader_check t = test (are_letters t.letters) (fault.Field at.Trader)

abbrev pub broker_check : Broker → Checked
broker_check b = test (is_broker b.number) (fault.Field at.Broker)

abbrev pub limit_check : OrderKind → Price → Checked
limit_check kind p = test (is_limit kind p.quarters) (fault.Price at.Limit)

abbrev pub volume_check : Lot → Volume → Checked
volume_check lot v = test (is_volume lot v.shares) (fault.Volume at.Volume)

abbrev pub entry_check : Lot → Entry → Checked
entry_check lot e =
    then (trader_check e.trader)
    (then (limit_check e.kind e.limit)
    (then (volume_check lot e.volume)
    (then (test (is_display lot e.kind e.volume.shares e.display.shares) (fault.Display at.Display))
    (then (test (is_term e.marks.post_only e.kind e.term) (fault.Pairing at.Term))
    (test (is_paired e.instruction e.key.number) (fault.Pairing at.Instruction))))))

abbrev pub cancel_check : Cancellation → Checked
cancel_check c = trader_check c.trader

-- a missing side passes
abbrev pub side_check : Option Price → CallField → Checked
side_check None f = Ok tt
side_check (Some p) f = test (on_tick p.quarters) (fault.Price f)

abbrev pub quote_check : Quote → Checked
quote_check q = then (side_check q.bid at.Bid) (side_check q.offer at.Offer)

abbrev pub enrol_check : Enrolment → Checked
enrol_check e = then (trader_check e.trader) (broker_check e.broker)

abbrev pub check : Lot → Call → Checked
check lot (call.Enter e) = entry_check lot e
check lot (call.Cancel c) = cancel_check c
check lot (call.Quote q) = quote_check q
check lot call.Halt = Ok tt
check lot (call.Resume q) = quote_check q
check lot call.Close = Ok tt
check lot (call.Enrol e) = enrol_check e

-- Half a cent below 50 cents, a cent from there on; a peg's limit may stand in between.
pub record Ticks : Type 0 where
  pub limit_199 : is_limit Limit 199 ≡ false
  pub peg_199 : is_limit Peg 199 ≡ true
  pub limit_200 : is_limit Limit 200 ≡ true
  pub peg_200 : is_limit Peg 200 ≡ true
  pub limit_202 : is_limit Limit 202 ≡ false
  pub peg_202 : is_limit Peg 202 ≡ true
  pub limit_204 : is_limit Limit 204 ≡ true
  pub peg_204 : is_limit Peg 204 ≡ true
