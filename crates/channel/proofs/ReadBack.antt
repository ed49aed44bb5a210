-- What the frame reader makes of the frames.
use Rattle.std.proofs.Common.{◌≡◌, ℕ, zero, suc, ◌+◌, ◌*◌, ◌<◌, ◌≤◌, List, [], ◌∷◌, ◌++◌, length, get_or, take, drop, Some, None, Ok, Err, Option, Result, sym, refl, ap, ◌∙◌, subst, append-nil, arith, length-append, length-drop, take-append-drop}
use Rattle.std.proofs.ByRecursion.{All-take, All-drop}
use Rattle.std.proofs.lemmas.List.{length-take-le, nil_from_length}
use Rattle.faults.specs.declared.layers.FrameFault.{FrameFault}
use Rattle.types.specs.declared.reports.Report.{Report}
use Rattle.types.specs.declared.reports.ReportKind.{ReportKind}
use Rattle.types.specs.declared.reports.ReportKind.TheVariants.{Blank}
use Rattle.wire.specs.Layouts.{Width, one, two, four, size, limit, number, fields, Fit, Bytes}
use Rattle.wire.specs.Reading.{announced, Form, Read}
use Rattle.wire.specs.Reports.{report_kind, report_layout, report_numbers, report_bytes, report_at, report_form, read_report}
use Rattle.wire.proofs.Laws.{below}
use Rattle.wire.proofs.Trips.{was_read}
use Rattle.wire.proofs.ReportTrips.{report_reads, report_written}
use Rattle.channel.specs.Frames.{or_blank, report_in, reports_in, Reads, ReadBack}

-- a report that the reader answers has the numbers that stand there
formed_numbers : (b : List ℕ) (k : Option ReportKind) (n : ℕ) (r : Report) → report_form b k ≡ Some (record { length = n; value = r })
    → report_numbers r ≡ fields report_layout b 4
formed_numbers b None n r e = absurd (let z : ◌≡◌ {A = ℕ} 0 1 = cc in omega arith)
formed_numbers b (Some k) n r e =
    let g : ◌≡◌ {A = Form Report} (record { length = announced report_layout; value = report_at b k }) (record { length = n; value = r }) = cc in
    ap (λ (f : Form Report). report_numbers f.value) (sym g)

read_numbers : (b : List ℕ) (r : Report) → (read_report b).answer ≡ Ok (Some r) → report_numbers r ≡ fields report_layout b 4
read_numbers b r e =
    let (n, w) = was_read (report_form b (report_kind (get_or b 3 0))) r b e in
    formed_numbers b (report_kind (get_or b 3 0)) n r w.form_is

-- numbers that stand in bytes fit their fields

number_fits : (w : Width) (b : List ℕ) (i : ℕ) → Bytes b → number w b i < limit w
number_fits one b i a = below b a i
number_fits two b i a = omega (arith, below b a i, below b a (i + 1))
number_fits four b i a = omega (arith, below b a i, below b a (i + 1), below b a (i + 2), below b a (i + 3))

fields_fit : (ws : List Width) (b : List ℕ) (i : ℕ) → Bytes b → Fit ws (fields ws b i)
fields_fit [] b i a = tt
fields_fit (w ∷ ws) b i a = (number_fits w b i a, fields_fit ws b (i + size w) a)

-- what is no blank was answered by the reader
answered : (frame : List ℕ) (x : Result (Option Report) FrameFault) → ((or_blank frame x).kind ≡ Blank → ⊥) → x ≡ Ok (Some (or_blank frame x))
answered frame (Ok (Some r)) h = refl
answered frame (Ok None) h = absurd (h refl)
answered frame (Err e) h = absurd (h refl)

-- the first frame, whatever follows it
first_read : (b : List ℕ) → Bytes b → 21 ≤ length b → ((report_in (take 21 b)).kind ≡ Blank → ⊥)
    → read_report b ≡ record { answer = Ok (Some (report_in (take 21 b))); rest = drop 21 b }
first_read b a l h =
    let frame : List ℕ = take 21 b in
    let r : Report = report_in frame in
    let small : Bytes frame = All-take (λ x. x < 256) 21 b a in
    let answer : (read_report frame).answer ≡ Ok (Some r) = answered frame (read_report frame).answer h in
    let fits : Fit report_layout (report_numbers r) = subst (Fit report_layout) (sym (read_numbers frame r answer)) (fields_fit report_layout frame 4 small) in
    let w : frame ≡ report_bytes r ++ (read_report frame).rest = report_written frame r small answer in
    let e : (read_report frame).rest ≡ [] = nil_from_length _ (omega (arith, ap length w, length-append (report_bytes r) (read_report frame).rest, length-take-le 21 b l)) in
    let f : frame ≡ report_bytes r = w ∙ ap (λ c. report_bytes r ++ c) e ∙ append-nil (report_bytes r) in
    let all : b ≡ report_bytes r ++ drop 21 b = sym (take-append-drop 21 b) ∙ ap (λ c. c ++ drop 21 b) f in
    ap read_report all ∙ report_reads r (drop 21 b) h fits

pub read_back : ReadBack
read_back zero b a l h = tt
read_back (suc n) b a l h =
    let one : 21 ≤ length b = omega arith in
    let e = first_read b a one h.0 in
    let more : n * 21 ≤ length (drop 21 b) = omega (arith, length-drop 21 b) in (
      ap (λ (x : Read Report). x.answer) e,
      subst (λ c. Reads c (reports_in n (drop 21 b))) (sym (ap (λ (x : Read Report). x.rest) e)) (read_back n (drop 21 b) (All-drop (λ x. x < 256) 21 b a) more h.1),
    )
