-- The frames of reports, both ways.
use Rattle.std.proofs.Common.{◌≡◌, ℕ, ◌<◌, List, ◌++◌, Some, Ok, refl, ap, arith, rules}
use Rattle.types.specs.declared.reports.Report.{Report}
use Rattle.types.specs.declared.reports.ReportKind.{ReportKind}
use Rattle.types.specs.declared.reports.ReportKind.TheVariants as kind
use Rattle.wire.specs.Layouts.{Fit, Bytes}
use Rattle.wire.specs.Reports.{report_code, report_kind, report_layout, report_numbers, report_bytes, report_from, report_at, read_report}
use Rattle.wire.proofs.Trips.{reads_again, reads_back}

coded : (k : ReportKind) → (k ≡ kind.Blank → ⊥) → report_kind (report_code k) ≡ Some k
coded k h = search rules

code_was : (n : ℕ) (k : ReportKind) → report_kind n ≡ Some k → n ≡ report_code k
code_was n k e = search rules

small_code : (k : ReportKind) → report_code k < 256
small_code k = search rules

pub report_reads : (r : Report) (more : List ℕ) → (r.kind ≡ kind.Blank → ⊥) → Fit report_layout (report_numbers r)
    → read_report (report_bytes r ++ more) ≡ record { answer = Ok (Some r); rest = more }
report_reads r more h fit =
    reads_again report_kind report_code (λ _. report_layout) report_at r r.kind (report_numbers r) more (coded r.kind h) (small_code r.kind) (omega arith) fit
    (λ b e. ap (report_from r.kind) e)

pub report_written : (b : List ℕ) (r : Report) → Bytes b → (read_report b).answer ≡ Ok (Some r) → b ≡ report_bytes r ++ (read_report b).rest
report_written = reads_back report_kind report_code (λ _. report_layout) report_at (λ r. r.kind) report_numbers code_was (λ b k. refl) (λ b k. refl)
