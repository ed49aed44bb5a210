-- Frames and what they say, both ways.
use Rattle.std.specs.Prelude.{◌≡◌, ℕ, List, ◌++◌, length, Some, Ok, ◌≢◌}
use Rattle.types.specs.declared.orders.TraderId.{TraderId}
use Rattle.types.specs.declared.quotes.Quote.{Quote}
use Rattle.types.specs.declared.reports.Report.{Report}
use Rattle.types.specs.declared.reports.ReportKind.TheVariants.{Blank}
use Rattle.wire.specs.declared.frames.CallFrame.{CallFrame}
use Rattle.wire.specs.declared.frames.CallFrame.TheVariants as frame
use Rattle.wire.specs.Layouts.{Fit, Bytes}
use Rattle.wire.specs.Frames.{kind_in, layout, numbers, call_bytes, read_call}
use Rattle.wire.specs.Reports.{report_layout, report_numbers, report_bytes, read_report}
use Rattle.types.specs.Reports.{price_or_zero, price_unless_zero}

-- a trader has six letters
abbrev pub Six : TraderId → Type 0
Six t = length t.letters ≡ 6

-- a side of a quote that is present is not 0
abbrev pub Present : Quote → Type 0
Present q = (price_unless_zero (price_or_zero q.bid) ≡ q.bid) × (price_unless_zero (price_or_zero q.offer) ≡ q.offer)

-- the parts of a call that its numbers do not show whole
abbrev pub Sound : CallFrame → Type 0
Sound (frame.Enter e) = Six e.trader
Sound (frame.Cancel c) = Six c.trader
Sound (frame.Quote q) = Present q
Sound frame.Halt = Unit {0}
Sound (frame.Resume q) = Present q
Sound frame.Close = Unit {0}
Sound (frame.Enrol e) = Six e.trader

-- A call written as a frame, whatever follows it, reads back as itself; a frame that is read is the one that is written of what was read.
pub record CallTrips : Type 0 where
  pub reads : (f : CallFrame) (more : List ℕ) → Sound f → Fit (layout (kind_in f)) (numbers f) → read_call (call_bytes f ++ more) ≡ record { answer = Ok (Some f); rest = more }
  pub written : (b : List ℕ) (f : CallFrame) → Bytes b → (read_call b).answer ≡ Ok (Some f) → b ≡ call_bytes f ++ (read_call b).rest

-- The same of reports of every kind but the blank.
pub record ReportTrips : Type 0 where
  pub reads : (r : Report) (more : List ℕ) → (r.kind ≢ Blank) → Fit report_layout (report_numbers r) → read_report (report_bytes r ++ more) ≡ record { answer = Ok (Some r); rest = more }
  pub written : (b : List ℕ) (r : Report) → Bytes b → (read_report b).answer ≡ Ok (Some r) → b ≡ report_bytes r ++ (read_report b).rest
