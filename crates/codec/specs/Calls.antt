-- From a call's frame to the call: the codes, then the checks.
use Rattle.std.specs.Prelude.{ℕ, List, Some, None, Ok, Err, Option, Result}
use Rattle.types.specs.declared.money.Lot.{Lot}
use Rattle.types.specs.declared.orders.Entry.{Entry}
use Rattle.types.specs.declared.calls.Call.{Call}
use Rattle.types.specs.declared.calls.Call.TheVariants as call
use Rattle.types.specs.declared.calls.Enrolment.{Enrolment}
use Rattle.faults.specs.declared.layers.CallField.{CallField}
use Rattle.faults.specs.declared.layers.CallField.TheVariants as at
use Rattle.faults.specs.declared.layers.FrameFault.{FrameFault}
use Rattle.faults.specs.declared.layers.FieldFault.{FieldFault}
use Rattle.faults.specs.declared.layers.FieldFault.TheVariants.{Frame, Field}
use Rattle.checks.specs.Checks.{trader_check, broker_check, check}
use Rattle.codes.specs.Codes.{side_code, side_of, kind_code, kind_of, term_code, term_of, marks_code, marks_of, instruction_code, instruction_of, flag_code, flag_of}
use Rattle.wire.specs.declared.frames.CallFrame.{CallFrame}
use Rattle.wire.specs.declared.frames.CallFrame.TheVariants as frame
use Rattle.wire.specs.declared.frames.EnterFrame.{EnterFrame}
use Rattle.wire.specs.declared.frames.EnrolFrame.{EnrolFrame}
use Rattle.wire.specs.Frames.{read_call}

-- one step after another: the first fault ends it
abbrev pub and_then : {A B : Type 0} → Result A FieldFault → (A → Result B FieldFault) → Result B FieldFault
and_then (Ok x) next = next x
and_then (Err e) next = Err e

-- a code without a meaning is a fault of its field
abbrev pub meant : {A : Type 0} → Option A → CallField → Result A FieldFault
meant (Some x) f = Ok x
meant None f = Err (Field f)

-- the fields of an entry in their sequence; its numbers go over as they are
abbrev pub decoded_entry : EnterFrame → Result Entry FieldFault
decoded_entry f =
    and_then (trader_check f.trader) (λ _.
    and_then (meant (side_of f.side) at.Side) (λ side.
    and_then (meant (kind_of f.kind) at.OrderKind) (λ kind.
    and_then (meant (term_of f.term) at.Term) (λ term.
    and_then (meant (marks_of f.marks) at.Marks) (λ marks.
    and_then (meant (instruction_of f.instruction) at.Instruction) (λ instruction.
    Ok (record {
      trader = f.trader;
      side = side;
      kind = kind;
      term = term;
      marks = marks;
      limit = record { quarters = f.limit };
      volume = record { shares = f.volume };
      display = record { shares = f.display };
      instruction = instruction;
      key = record { number = f.key };
    })))))))

abbrev pub decoded_enrolment : EnrolFrame → Result Enrolment FieldFault
decoded_enrolment f =
    and_then (trader_check f.trader) (λ _.
    and_then (broker_check f.broker) (λ _.
    and_then (meant (flag_of f.latency_sensitive) at.LatencySensitive) (λ lst.
    Ok (record { trader = f.trader; broker = f.broker; latency_sensitive = lst }))))

abbrev pub decoded : CallFrame → Result Call FieldFault
decoded (frame.Enter f) = and_then (decoded_entry f) (λ e. Ok (call.Enter e))
decoded (frame.Cancel c) = Ok (call.Cancel c)
decoded (frame.Quote q) = Ok (call.Quote q)
decoded frame.Halt = Ok call.Halt
decoded (frame.Resume q) = Ok (call.Resume q)
decoded frame.Close = Ok call.Close
decoded (frame.Enrol f) = and_then (decoded_enrolment f) (λ e. Ok (call.Enrol e))

abbrev pub encoded_entry : Entry → EnterFrame
encoded_entry e = record {
  trader = e.trader;
  side = side_code e.side;
  kind = kind_code e.kind;
  term = term_code e.term;
  marks = marks_code e.marks;
  limit = e.limit.quarters;
  volume = e.volume.shares;
  display = e.display.shares;
  instruction = instruction_code e.instruction;
  key = e.key.number;
}

abbrev pub encoded : Call → CallFrame
encoded (call.Enter e) = frame.Enter (encoded_entry e)
encoded (call.Cancel c) = frame.Cancel c
encoded (call.Quote q) = frame.Quote q
encoded call.Halt = frame.Halt
encoded (call.Resume q) = frame.Resume q
encoded call.Close = frame.Close
encoded (call.Enrol e) =
    frame.Enrol (record { trader = e.trader; broker = e.broker; latency_sensitive = flag_code e.latency_sensitive })

-- what a reader answers, and the bytes that it leaves
pub record Received : Type 0 where
  pub answer : Result (Option Call) FieldFault
  pub rest : List ℕ

abbrev pub checked : Lot → Call → Result (Option Call) FieldFault
checked lot c = and_then (check lot c) (λ _. Ok (Some c))

-- a frame's fault is carried up; its codes, and then its fields, are checked
abbrev pub taken : Lot → Result (Option CallFrame) FrameFault → Result (Option Call) FieldFault
taken lot (Err e) = Err (Frame e)
taken lot (Ok None) = Ok None
taken lot (Ok (Some f)) = and_then (decoded f) (checked lot)

-- The next call of the bytes that are left, checked.
abbrev pub received : Lot → List ℕ → Received
received lot b = record { answer = taken lot (read_call b).answer; rest = (read_call b).rest }
