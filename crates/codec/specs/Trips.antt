-- Calls and their frames, both ways.
use Rattle.std.specs.Prelude.{◌≡◌, ℕ, List, ◌++◌, Some, Ok}
use Rattle.types.specs.declared.money.Lot.{Lot}
use Rattle.types.specs.declared.calls.Call.{Call}
use Rattle.types.specs.declared.calls.Call.TheVariants as call
use Rattle.checks.specs.Checks.{check}
use Rattle.wire.specs.Layouts.{Fit, Bytes}
use Rattle.wire.specs.Frames.{kind_in, layout, numbers, call_bytes}
use Rattle.wire.specs.Trips.{Six}
use Rattle.codec.specs.Calls.{encoded, received}

abbrev pub written : Call → List ℕ
written c = call_bytes (encoded c)

-- a trader of six letters, and numbers that fit their fields, as the types of the code have them
abbrev pub SixLetters : Call → Type 0
SixLetters (call.Enter e) = Six e.trader
SixLetters (call.Cancel c) = Six c.trader
SixLetters (call.Quote q) = Unit {0}
SixLetters call.Halt = Unit {0}
SixLetters (call.Resume q) = Unit {0}
SixLetters call.Close = Unit {0}
SixLetters (call.Enrol e) = Six e.trader

abbrev pub Fits : Call → Type 0
Fits c = SixLetters c × Fit (layout (kind_in (encoded c))) (numbers (encoded c))

-- A call that passes its checks, written and read, is itself; an accepted frame is the one that is written of its call.
pub record CallsRoundTrip : Type 0 where
  pub reads : (lot : Lot) (c : Call) (more : List ℕ) → Fits c → check lot c ≡ Ok tt → received lot (written c ++ more) ≡ record { answer = Ok (Some c); rest = more }
  pub accepted : (lot : Lot) (b : List ℕ) (c : Call) → Bytes b → (received lot b).answer ≡ Ok (Some c) → b ≡ written c ++ (received lot b).rest
