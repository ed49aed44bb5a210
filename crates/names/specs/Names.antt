-- The words for sides, kinds, terms, marks, flags and the reasons of refusals.
use Rattle.std.specs.Prelude.{Bool, true, false, List, ℕ, codes}
use Rattle.types.specs.declared.orders.OrderKind.{OrderKind}
use Rattle.types.specs.declared.orders.OrderKind.TheVariants.{Limit, Iceberg, Peg}
use Rattle.types.specs.declared.orders.Side.{Side}
use Rattle.types.specs.declared.orders.Side.TheVariants.{Buy, Sell}
use Rattle.types.specs.declared.orders.TimeInForce.{TimeInForce}
use Rattle.types.specs.declared.orders.TimeInForce.TheVariants.{Day, ImmediateOrCancel, FillOrKill}
use Rattle.faults.specs.declared.refusals.Reason.{Reason}
use Rattle.faults.specs.declared.refusals.Reason.TheVariants as why

abbrev pub side_word : Side → List ℕ
side_word Buy = codes "buy"
side_word Sell = codes "sell"

abbrev pub kind_word : OrderKind → List ℕ
kind_word Limit = codes "limit"
kind_word Iceberg = codes "iceberg"
kind_word Peg = codes "peg"

abbrev pub term_word : TimeInForce → List ℕ
term_word Day = codes "day"
term_word ImmediateOrCancel = codes "ioc"
term_word FillOrKill = codes "fok"

-- post-only, anonymous, jitney: those that are set
abbrev pub mark_words : Bool → Bool → Bool → List ℕ
mark_words false false false = codes "-"
mark_words true false false = codes "post-only"
mark_words false true false = codes "anonymous"
mark_words true true false = codes "post-only+anonymous"
mark_words false false true = codes "jitney"
mark_words true false true = codes "post-only+jitney"
mark_words false true true = codes "anonymous+jitney"
mark_words true true true = codes "post-only+anonymous+jitney"

abbrev pub flag_word : Bool → List ℕ
flag_word true = codes "yes"
flag_word false = codes "no"

abbrev pub reason_word : Reason → List ℕ
reason_word why.Short = codes "SHORT"
reason_word why.Version = codes "VERSION"
reason_word why.Kind = codes "KIND"
reason_word why.Length = codes "LENGTH"
reason_word why.Field = codes "FIELD"
reason_word why.Price = codes "PRICE"
reason_word why.Volume = codes "VOLUME"
reason_word why.Display = codes "DISPLAY"
reason_word why.Pairing = codes "PAIRING"
reason_word why.SetUp = codes "SET-UP"
reason_word why.Closed = codes "CLOSED"
reason_word why.Halted = codes "HALTED"
reason_word why.NotHalted = codes "NOT HALTED"
reason_word why.UnknownTrader = codes "UNKNOWN TRADER"
reason_word why.TraderKnown = codes "TRADER KNOWN"
reason_word why.RegisterFull = codes "REGISTER FULL"
reason_word why.LatencySensitive = codes "LST"
reason_word why.WouldTake = codes "WOULD TAKE"
reason_word why.UnknownOrder = codes "UNKNOWN ORDER"
reason_word why.OtherBrokers = codes "OTHER BROKER'S"
reason_word why.DayLimit = codes "DAY LIMIT"
reason_word why.TableFull = codes "TABLE FULL"
reason_word why.SheetFull = codes "SHEET FULL"
reason_word why.ChannelFull = codes "CHANNEL FULL"
