-- The frames of calls: the kinds, their fields, and what a frame says.
use Rattle.std.specs.Prelude.{ℕ, cond, List, [], ◌∷◌, Some, None, Option, ◌==◌, slice_index}
use Rattle.types.specs.declared.orders.TraderId.{TraderId}
use Rattle.types.specs.declared.quotes.Quote.{Quote}
use Rattle.types.specs.Reports.{price_or_zero, price_unless_zero}
use Rattle.wire.specs.declared.frames.CallKind.{CallKind}
use Rattle.wire.specs.declared.frames.CallKind.TheVariants as kind
use Rattle.wire.specs.declared.frames.EnterFrame.{EnterFrame}
use Rattle.wire.specs.declared.frames.CallFrame.{CallFrame}
use Rattle.wire.specs.declared.frames.CallFrame.TheVariants as frame
use Rattle.wire.specs.Layouts.{Width, one, two, four, fields}
use Rattle.wire.specs.Reading.{announced, framed, Form, form_of, Read, read}

-- the number of each kind
abbrev pub kind_code : CallKind → ℕ
kind_code kind.Enter = 1
kind_code kind.Cancel = 2
kind_code kind.Quote = 3
kind_code kind.Halt = 4
kind_code kind.Resume = 5
kind_code kind.Close = 6
kind_code kind.Enrol = 7

abbrev pub kind_of : ℕ → Option CallKind
kind_of n =
    cond (n == 1) (Some kind.Enter)
    (cond (n == 2) (Some kind.Cancel)
    (cond (n == 3) (Some kind.Quote)
    (cond (n == 4) (Some kind.Halt)
    (cond (n == 5) (Some kind.Resume) (cond (n == 6) (Some kind.Close) (cond (n == 7) (Some kind.Enrol) None))))))

-- six letters, in front of more fields
abbrev pub six : List Width → List Width
six ws = one ∷ one ∷ one ∷ one ∷ one ∷ one ∷ ws

-- the fields of each kind
abbrev pub layout : CallKind → List Width
layout kind.Enter = six (one ∷ one ∷ one ∷ one ∷ four ∷ four ∷ four ∷ one ∷ four ∷ [])
layout kind.Cancel = six (four ∷ [])
layout kind.Quote = four ∷ four ∷ []
layout kind.Halt = []
layout kind.Resume = four ∷ four ∷ []
layout kind.Close = []
layout kind.Enrol = six (two ∷ one ∷ [])

-- What a call's frame is written as.

abbrev pub letters : TraderId → List ℕ → List ℕ
letters t more =
    slice_index t.letters 0 ∷ slice_index t.letters 1 ∷ slice_index t.letters 2 ∷ slice_index t.letters 3 ∷ slice_index t.letters 4 ∷ slice_index t.letters 5 ∷ more

abbrev pub sides : Quote → List ℕ
sides q = price_or_zero q.bid ∷ price_or_zero q.offer ∷ []

-- a quote and a resume differ in their kind alone
abbrev pub framed_quote : ℕ → Quote → List ℕ
framed_quote code q = framed code (four ∷ four ∷ []) (sides q)

abbrev pub kind_in : CallFrame → CallKind
kind_in (frame.Enter e) = kind.Enter
kind_in (frame.Cancel c) = kind.Cancel
kind_in (frame.Quote q) = kind.Quote
kind_in frame.Halt = kind.Halt
kind_in (frame.Resume q) = kind.Resume
kind_in frame.Close = kind.Close
kind_in (frame.Enrol e) = kind.Enrol

-- the numbers of a call's fields
abbrev pub numbers : CallFrame → List ℕ
numbers (frame.Enter e) =
    letters e.trader (e.side ∷ e.kind ∷ e.term ∷ e.marks ∷ e.limit ∷ e.volume ∷ e.display ∷ e.instruction ∷ e.key ∷ [])
numbers (frame.Cancel c) = letters c.trader (c.order.number ∷ [])
numbers (frame.Quote q) = sides q
numbers frame.Halt = []
numbers (frame.Resume q) = sides q
numbers frame.Close = []
numbers (frame.Enrol e) = letters e.trader (e.broker.number ∷ e.latency_sensitive ∷ [])

abbrev pub call_bytes : CallFrame → List ℕ
call_bytes f = framed (kind_code (kind_in f)) (layout (kind_in f)) (numbers f)

-- What the numbers of a call's fields say, place by place.

abbrev pub trader_from : List ℕ → TraderId
trader_from ns = record { letters = slice_index ns 0 ∷ slice_index ns 1 ∷ slice_index ns 2 ∷ slice_index ns 3 ∷ slice_index ns 4 ∷ slice_index ns 5 ∷ [] }

abbrev pub quote_from : List ℕ → Quote
quote_from ns = record { bid = price_unless_zero (slice_index ns 0); offer = price_unless_zero (slice_index ns 1) }

abbrev pub enter_from : List ℕ → EnterFrame
enter_from ns = record {
  trader = trader_from ns;
  side = slice_index ns 6;
  kind = slice_index ns 7;
  term = slice_index ns 8;
  marks = slice_index ns 9;
  limit = slice_index ns 10;
  volume = slice_index ns 11;
  display = slice_index ns 12;
  instruction = slice_index ns 13;
  key = slice_index ns 14;
}

abbrev pub call_from : CallKind → List ℕ → CallFrame
call_from kind.Enter ns = frame.Enter (enter_from ns)
call_from kind.Cancel ns = frame.Cancel (record { trader = trader_from ns; order = record { number = slice_index ns 6 } })
call_from kind.Quote ns = frame.Quote (quote_from ns)
call_from kind.Halt ns = frame.Halt
call_from kind.Resume ns = frame.Resume (quote_from ns)
call_from kind.Close ns = frame.Close
call_from kind.Enrol ns = frame.Enrol (record { trader = trader_from ns; broker = record { number = slice_index ns 6 }; latency_sensitive = slice_index ns 7 })

-- What the bytes of a frame say: the fields begin at 4.
abbrev pub call_at : List ℕ → CallKind → CallFrame
call_at b k = call_from k (fields (layout k) b 4)

abbrev pub call_form : List ℕ → Option CallKind → Option (Form CallFrame)
call_form b k = form_of (λ kind. announced (layout kind)) call_at b k

-- The next call of the bytes that are left.
abbrev pub read_call : List ℕ → Read CallFrame
read_call b = read (call_form b (kind_of (slice_index b 3))) b
