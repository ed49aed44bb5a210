-- The frames of reports.
use Rattle.std.specs.Prelude.{ℕ, List, [], ◌∷◌, Option, slice_index}
use Rattle.types.specs.declared.reports.Report.{Report}
use Rattle.types.specs.declared.reports.ReportKind.{ReportKind}
use Rattle.types.specs.declared.reports.ReportKind.TheVariants as kind
pub use Rattle.types.specs.Reports.{report_kind}
use Rattle.wire.specs.Layouts.{Width, one, four, fields}
use Rattle.wire.specs.Reading.{announced, framed, Form, form_of, Read, read}

-- the number of each kind; a blank has 0, which no reader takes
abbrev pub report_code : ReportKind → ℕ
report_code kind.Blank = 0
report_code kind.Accepted = 1
report_code kind.Trade = 2
report_code kind.Cancelled = 3
report_code kind.Decremented = 4
report_code kind.Quote = 5
report_code kind.Halted = 6
report_code kind.Closed = 7

-- order, other, price, volume, mark
abbrev pub report_layout : List Width
report_layout = four ∷ four ∷ four ∷ four ∷ one ∷ []

abbrev pub report_numbers : Report → List ℕ
report_numbers r = r.order ∷ r.other ∷ r.price ∷ r.volume ∷ r.mark ∷ []

abbrev pub report_bytes : Report → List ℕ
report_bytes r = framed (report_code r.kind) report_layout (report_numbers r)

abbrev pub report_from : ReportKind → List ℕ → Report
report_from k ns = record { kind = k; order = slice_index ns 0; other = slice_index ns 1; price = slice_index ns 2; volume = slice_index ns 3; mark = slice_index ns 4 }

abbrev pub report_at : List ℕ → ReportKind → Report
report_at b k = report_from k (fields report_layout b 4)

abbrev pub report_form : List ℕ → Option ReportKind → Option (Form Report)
report_form b k = form_of (λ kind. announced report_layout) report_at b k

-- The next report of the bytes that are left.
abbrev pub read_report : List ℕ → Read Report
read_report b = read (report_form b (report_kind (slice_index b 3))) b
