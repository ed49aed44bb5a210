-- A meeting on the order table.
use Rattle.std.specs.Prelude.{◌≡◌, ℕ, ◌+◌, ◌-◌, Bool, not, ◌&&◌, reverse, ◌==◌}
use Rattle.types.specs.declared.orders.Order.{Order}
use Rattle.types.specs.declared.orders.RestingOrder.{RestingOrder}
use Rattle.prices.specs.Prices.{View}
use Rattle.runs.specs.Slices.{Slice}
use Rattle.runs.specs.Meetings.{Effect, shares, meeting}
use Rattle.runs.specs.Runs.{holding}
use Rattle.sheet.specs.declared.EventSheet.{EventSheet}
use Rattle.sheet.specs.Sheets.{Adds}
use Rattle.table.specs.declared.records.OrderRecord.{OrderRecord}
use Rattle.table.specs.Sequence.{Orders}
use Rattle.scan.specs.declared.Candidate.{Candidate}
use Rattle.scan.specs.Leading.{slice_on}
use Rattle.matching.specs.declared.meetings.Meeting.{Meeting}

-- A slice of the order, wherever that stands.
abbrev pub slice_from : RestingOrder → Bool → Slice
slice_from o hidden = record { place = 0; resting = o; hidden = hidden }

-- The slice that the active order meets.
abbrev pub slice_met : Meeting → Slice
slice_met m = slice_from m.resting m.hidden

-- The two orders are of one broker and have one key other than 0.
abbrev pub one_key : Order → Order → Bool
one_key a b = a.broker.number == b.broker.number && (a.entry.key.number == b.entry.key.number && not (a.entry.key.number == 0))

-- What is left of the active order, and the resting one, are as the meeting says, its reports came onto the sheet, the oldest first, and all else of the meeting is as it was.
pub record ComesTo (f : Effect) (m m' : Meeting) (sheet sheet' : EventSheet) : Type 0 where
  pub left : m'.left ≡ shares f.left
  pub resting : m'.resting ≡ holding f.shown f.reserve m.resting
  pub adds : Adds sheet sheet' (reverse f.reports)
  pub view : m'.view ≡ m.view
  pub active : m'.active ≡ m.active
  pub hidden : m'.hidden ≡ m.hidden

-- What comes of the meeting of a, with so much left, and a slice of a table.
abbrev pub comes_of : View → Order → ℕ → Orders → Candidate → Effect
comes_of view a left os b = meeting view a left (slice_on os b.place b.facts.hidden)

-- The record once its order has met: what was drawn from the reserve is counted.
abbrev pub met : Effect → OrderRecord → OrderRecord
met f r = record { time = r.time; drawn = r.drawn + (r.resting.reserve.shares - f.reserve); resting = holding f.shown f.reserve r.resting }
