-- The reports that stand as frames in bytes, each 21 bytes long.
use Rattle.std.specs.Prelude.{◌≡◌, ℕ, zero, suc, ◌-◌, ◌*◌, ◌/◌, ◌≤◌, List, [], ◌∷◌, length, take, drop, Some, None, Ok, Err, Option, Result, ◌≢◌}
use Rattle.faults.specs.declared.layers.FrameFault.{FrameFault}
use Rattle.types.specs.declared.reports.Report.{Report}
use Rattle.types.specs.declared.reports.ReportKind.TheVariants.{Blank}
use Rattle.wire.specs.Layouts.{Bytes}
use Rattle.wire.specs.Reports.{report_at, read_report}

-- what the frame reader found, or else a blank with the numbers that stand there
abbrev pub or_blank : List ℕ → Result (Option Report) FrameFault → Report
or_blank frame (Ok (Some report)) = report
or_blank frame (Ok None) = report_at frame Blank
or_blank frame (Err fault) = report_at frame Blank

-- the report of one frame
abbrev pub report_in : List ℕ → Report
report_in frame = or_blank frame (read_report frame).answer

-- the reports of the first n frames
abbrev pub reports_in : ℕ → List ℕ → List Report
reports_in zero b = []
reports_in (suc n) b = report_in (take 21 b) ∷ reports_in n (drop 21 b)

-- how many frames more go behind n
abbrev pub frames_left : ℕ → List ℕ → ℕ
frames_left n b = (length b - n * 21) / 21

abbrev pub NoBlank : List Report → Type 0
NoBlank [] = Unit {0}
NoBlank (r ∷ rs) = (r.kind ≢ Blank) × NoBlank rs

-- The frame reader, asked again and again, answers these reports.
abbrev pub Reads : List ℕ → List Report → Type 0
Reads b [] = Unit {0}
Reads b (r ∷ rs) = ((read_report b).answer ≡ Ok (Some r)) × Reads (read_report b).rest rs

-- Where none of the first n frames is a blank, the frame reader answers their reports.
abbrev pub ReadBack : Type 0
ReadBack = (n : ℕ) (b : List ℕ) → Bytes b → n * 21 ≤ length b → NoBlank (reports_in n b) → Reads b (reports_in n b)
