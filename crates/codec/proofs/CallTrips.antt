-- Calls and their frames, both ways.
use Rattle.std.proofs.Common.{◌≡◌, ℕ, List, ◌++◌, Some, None, Ok, Err, Option, Result, sym, refl, ap, ◌∙◌, arith, rules}
use Rattle.types.specs.declared.money.Lot.{Lot}
use Rattle.types.specs.declared.orders.Entry.{Entry}
use Rattle.types.specs.declared.calls.Call.{Call}
use Rattle.types.specs.declared.calls.Call.TheVariants as call
use Rattle.types.specs.declared.calls.Enrolment.{Enrolment}
use Rattle.faults.specs.declared.layers.CallField.{CallField}
use Rattle.faults.specs.declared.layers.CallField.TheVariants as at
use Rattle.faults.specs.declared.layers.FieldFault.{FieldFault}
use Rattle.faults.specs.declared.layers.FrameFault.{FrameFault}
use Rattle.checks.specs.Checks.{Checked, trader_check, broker_check, check}
use Rattle.codes.specs.Codes.{side_code, side_of, kind_code, kind_of, term_code, term_of, marks_code, marks_of, instruction_code, instruction_of, flag_code}
use Rattle.codes.specs.contracts.sides.SideCoded.TheImpl.Laws.{kept-law as side_kept, told-law as side_told}
use Rattle.codes.specs.contracts.kinds.OrderKindCoded.TheImpl.Laws.{kept-law as kind_kept, told-law as kind_told}
use Rattle.codes.specs.contracts.terms.TimeInForceCoded.TheImpl.Laws.{kept-law as term_kept, told-law as term_told}
use Rattle.codes.specs.contracts.marks.MarksCoded.TheImpl.Laws.{kept-law as marks_kept, told-law as marks_told}
use Rattle.codes.specs.contracts.instructions.StpInstructionCoded.TheImpl.Laws.{kept-law as instruction_kept, told-law as instruction_told}
use Rattle.codes.specs.contracts.flags.BoolCoded.TheImpl.Laws.{kept-law as flag_kept, told-law as flag_told}
use Rattle.wire.specs.declared.frames.CallFrame.{CallFrame}
use Rattle.wire.specs.declared.frames.CallFrame.TheVariants as frame
use Rattle.wire.specs.declared.frames.EnterFrame.{EnterFrame}
use Rattle.wire.specs.declared.frames.EnrolFrame.{EnrolFrame}
use Rattle.wire.specs.Layouts.{Bytes}
use Rattle.wire.specs.Reading.{Read}
use Rattle.wire.specs.Frames.{call_bytes, read_call}
use Rattle.wire.specs.Trips.{Sound}
use Rattle.wire.proofs.CallTrips.{call_reads, call_written}
use Rattle.codec.specs.Calls.{and_then, meant, decoded_entry, decoded_enrolment, decoded, encoded, encoded_entry, checked, taken, received}
use Rattle.codec.specs.Trips.{written, SixLetters, Fits}
use Rattle.codec.proofs.Checked.{first, second, quoted}

-- Written and read.

entry_again : (e : Entry) → trader_check e.trader ≡ Ok tt → decoded_entry (encoded_entry e) ≡ Ok e
entry_again e t = rw (t, side_kept e.side, kind_kept e.kind, term_kept e.term, marks_kept e.marks, instruction_kept e.instruction)

enrolment_again : (e : Enrolment) → trader_check e.trader ≡ Ok tt → broker_check e.broker ≡ Ok tt
    → decoded_enrolment (record { trader = e.trader; broker = e.broker; latency_sensitive = flag_code e.latency_sensitive }) ≡ Ok e
enrolment_again e t b = rw (t, b, flag_kept e.latency_sensitive)

again : (lot : Lot) (c : Call) → check lot c ≡ Ok tt → decoded (encoded c) ≡ Ok c
again lot (call.Enter e) h = rw (entry_again e (first (trader_check e.trader) _ h))
again lot (call.Cancel c) h = refl
again lot (call.Quote q) h = refl
again lot call.Halt h = refl
again lot (call.Resume q) h = refl
again lot call.Close h = refl
again lot (call.Enrol e) h =
    rw (enrolment_again e (first (trader_check e.trader) (broker_check e.broker) h) (second (trader_check e.trader) (broker_check e.broker) h))

sound : (lot : Lot) (c : Call) → SixLetters c → check lot c ≡ Ok tt → Sound (encoded c)
sound lot (call.Enter e) s h = s
sound lot (call.Cancel c) s h = s
sound lot (call.Quote q) s h = quoted q h
sound lot call.Halt s h = tt
sound lot (call.Resume q) s h = quoted q h
sound lot call.Close s h = tt
sound lot (call.Enrol e) s h = s

pub reads : (lot : Lot) (c : Call) (more : List ℕ) → Fits c → check lot c ≡ Ok tt → received lot (written c ++ more) ≡ record { answer = Ok (Some c); rest = more }
reads lot c more f h =
    let r = call_reads (encoded c) more (sound lot c f.0 h) f.1 in
    let t : and_then (decoded (encoded c)) (checked lot) ≡ Ok (Some c)
    = ap (λ (x : Result Call FieldFault). and_then x (checked lot)) (again lot c h) ∙ ap (λ (x : Checked). and_then x (λ _. Ok (Some c))) h in
    ap (λ (x : Read CallFrame). record { answer = taken lot x.answer; rest = x.rest }) r
    ∙ ap (λ (x : Result (Option Call) FieldFault). record { answer = x; rest = more }) t

-- Read and written.

-- the first step passed, and the next goes on from it
bound : {A B : Type 0} (r : Result A FieldFault) (next : A → Result B FieldFault) (y : B) → and_then r next ≡ Ok y → (x : A) × ((r ≡ Ok x) × (next x ≡ Ok y))
bound (Ok x) next y e = (x, (refl, e))
bound (Err f) next y e = search rules

-- a code that was decoded is that of its value, and the next step goes on from it
told : {A B : Type 0} (meaning : ℕ → Option A) (code : A → ℕ) → ((n : ℕ) (x : A) → meaning n ≡ Some x → n ≡ code x)
    → (n : ℕ) (f : CallField) (next : A → Result B FieldFault) (y : B) → and_then (meant (meaning n) f) next ≡ Ok y → (x : A) × ((n ≡ code x) × (next x ≡ Ok y))
told {A} {B} meaning code law n f next y e = go (meaning n) refl e
  where
    go : (o : Option A) → meaning n ≡ o → and_then (meant o f) next ≡ Ok y → (x : A) × ((n ≡ code x) × (next x ≡ Ok y))
    go (Some x) m e = (x, (law n x m, e))
    go None m e = search rules

same : {A : Type 0} (x y : A) → ◌≡◌ {A = Result A FieldFault} (Ok x) (Ok y) → x ≡ y
same x y e = cc

entry_was : (f : EnterFrame) (e : Entry) → decoded_entry f ≡ Ok e → encoded_entry e ≡ f
entry_was f e h =
    let (t, (th, h₁)) = bound (trader_check f.trader) _ e h in
    let (s, (a, h₂)) = told side_of side_code side_told f.side at.Side _ e h₁ in
    let (k, (b, h₃)) = told kind_of kind_code kind_told f.kind at.OrderKind _ e h₂ in
    let (d, (c, h₄)) = told term_of term_code term_told f.term at.Term _ e h₃ in
    let (m, (g, h₅)) = told marks_of marks_code marks_told f.marks at.Marks _ e h₄ in
    let (i, (j, h₆)) = told instruction_of instruction_code instruction_told f.instruction at.Instruction _ e h₅ in
    rw (← same _ e h₆, ← a, ← b, ← c, ← g, ← j)

enrolment_was : (f : EnrolFrame) (e : Enrolment) → decoded_enrolment f ≡ Ok e
    → record { trader = e.trader; broker = e.broker; latency_sensitive = flag_code e.latency_sensitive } ≡ f
enrolment_was f e h = grind (arith, flag_told)

was : (f : CallFrame) (c : Call) → decoded f ≡ Ok c → encoded c ≡ f
was (frame.Enter f) c h =
    let (e, (eh, h₁)) = bound (decoded_entry f) _ c h in
    ap encoded (sym (same _ c h₁)) ∙ ap frame.Enter (entry_was f e eh)
was (frame.Cancel x) c h = search rules
was (frame.Quote q) c h = search rules
was frame.Halt c h = search rules
was (frame.Resume q) c h = search rules
was frame.Close c h = search rules
was (frame.Enrol f) c h =
    let (e, (eh, h₁)) = bound (decoded_enrolment f) _ c h in
    ap encoded (sym (same _ c h₁)) ∙ ap frame.Enrol (enrolment_was f e eh)

-- an accepted call came as a frame, decoded
frame_was : (lot : Lot) (a : Result (Option CallFrame) FrameFault) (c : Call) → taken lot a ≡ Ok (Some c) → (f : CallFrame) × ((a ≡ Ok (Some f)) × (decoded f ≡ Ok c))
frame_was lot (Err e) c h = search rules
frame_was lot (Ok None) c h = search rules
frame_was lot (Ok (Some f)) c h =
    let (d, (dh, h₁)) = bound (decoded f) (checked lot) (Some c) h in
    let (u, (uh, h₂)) = bound (check lot d) (λ _. Ok (Some d)) (Some c) h₁ in
    (f, (refl, cc))

pub accepted : (lot : Lot) (b : List ℕ) (c : Call) → Bytes b → (received lot b).answer ≡ Ok (Some c) → b ≡ written c ++ (received lot b).rest
accepted lot b c a h =
    let (f, (fh, dh)) = frame_was lot (read_call b).answer c h in
    call_written b f a fh ∙ ap (λ (x : CallFrame). call_bytes x ++ (read_call b).rest) (sym (was f c dh))
