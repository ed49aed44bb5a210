-- The number of each refusal, its layer and its place.
use Rattle.std.specs.Prelude.{ℕ}
use Rattle.faults.specs.declared.layers.CallField.{CallField}
use Rattle.faults.specs.declared.layers.CallField.TheVariants as at
use Rattle.faults.specs.declared.layers.FrameFault.{FrameFault}
use Rattle.faults.specs.declared.layers.FrameFault.TheVariants as frame
use Rattle.faults.specs.declared.layers.FieldFault.{FieldFault}
use Rattle.faults.specs.declared.layers.FieldFault.TheVariants as field
use Rattle.faults.specs.declared.layers.BookFault.{BookFault}
use Rattle.faults.specs.declared.layers.BookFault.TheVariants as book
use Rattle.faults.specs.declared.layers.ChannelFault.{ChannelFault}
use Rattle.faults.specs.declared.layers.ChannelFault.TheVariants as channel
use Rattle.faults.specs.declared.refusals.Layer.{Layer}
use Rattle.faults.specs.declared.refusals.Layer.TheVariants as layer
use Rattle.faults.specs.declared.refusals.Reason.{Reason}
use Rattle.faults.specs.declared.refusals.Reason.TheVariants as why
use Rattle.faults.specs.declared.refusals.Refusal.{Refusal}

abbrev pub number_of : Reason → ℕ
number_of why.Short = 1
number_of why.Version = 2
number_of why.Kind = 3
number_of why.Length = 4
number_of why.Field = 5
number_of why.Price = 6
number_of why.Volume = 7
number_of why.Display = 8
number_of why.Pairing = 9
number_of why.SetUp = 10
number_of why.Closed = 20
number_of why.Halted = 21
number_of why.NotHalted = 22
number_of why.UnknownTrader = 23
number_of why.TraderKnown = 24
number_of why.RegisterFull = 25
number_of why.LatencySensitive = 26
number_of why.WouldTake = 27
number_of why.UnknownOrder = 28
number_of why.OtherBrokers = 29
number_of why.DayLimit = 30
number_of why.TableFull = 31
number_of why.SheetFull = 32
number_of why.ChannelFull = 33

abbrev pub layer_number : Layer → ℕ
layer_number layer.Frame = 1
layer_number layer.Field = 2
layer_number layer.Book = 3
layer_number layer.Channel = 4

-- where a field begins, counted from the first byte of its frame
abbrev pub offset : CallField → ℕ
offset at.Trader = 4
offset at.Side = 10
offset at.OrderKind = 11
offset at.Term = 12
offset at.Marks = 13
offset at.Limit = 14
offset at.Volume = 18
offset at.Display = 22
offset at.Instruction = 26
offset at.Bid = 4
offset at.Offer = 8
offset at.Broker = 10
offset at.LatencySensitive = 12

-- a version stands at 2, a kind at 3
abbrev pub frame_refusal : FrameFault → Refusal
frame_refusal frame.Short = record { reason = why.Short; layer = layer.Frame; place = 0 }
frame_refusal frame.Version = record { reason = why.Version; layer = layer.Frame; place = 2 }
frame_refusal frame.Kind = record { reason = why.Kind; layer = layer.Frame; place = 3 }
frame_refusal frame.Length = record { reason = why.Length; layer = layer.Frame; place = 0 }

abbrev at_field : Reason → CallField → Refusal
at_field r f = record { reason = r; layer = layer.Field; place = offset f }

abbrev pub field_refusal : FieldFault → Refusal
field_refusal (field.Frame e) = frame_refusal e
field_refusal (field.Field f) = at_field why.Field f
field_refusal (field.Price f) = at_field why.Price f
field_refusal (field.Volume f) = at_field why.Volume f
field_refusal (field.Display f) = at_field why.Display f
field_refusal (field.Pairing f) = at_field why.Pairing f
field_refusal field.SetUp = record { reason = why.SetUp; layer = layer.Field; place = 0 }

abbrev by_book : Reason → ℕ → Refusal
by_book r n = record { reason = r; layer = layer.Book; place = n }

-- an unknown order, and another broker's, are named by their number
abbrev pub book_refusal : BookFault → Refusal
book_refusal (book.Fields e) = field_refusal e
book_refusal book.Closed = by_book why.Closed 0
book_refusal book.Halted = by_book why.Halted 0
book_refusal book.NotHalted = by_book why.NotHalted 0
book_refusal book.UnknownTrader = by_book why.UnknownTrader 0
book_refusal book.TraderKnown = by_book why.TraderKnown 0
book_refusal book.RegisterFull = by_book why.RegisterFull 0
book_refusal book.LatencySensitive = by_book why.LatencySensitive 0
book_refusal book.WouldTake = by_book why.WouldTake 0
book_refusal (book.UnknownOrder n) = by_book why.UnknownOrder n.number
book_refusal (book.OtherBrokers n) = by_book why.OtherBrokers n.number
book_refusal book.DayLimit = by_book why.DayLimit 0
book_refusal book.TableFull = by_book why.TableFull 0
book_refusal book.SheetFull = by_book why.SheetFull 0

abbrev pub channel_refusal : ChannelFault → Refusal
channel_refusal (channel.Book e) = book_refusal e
channel_refusal channel.Full = record { reason = why.ChannelFull; layer = layer.Channel; place = 0 }
