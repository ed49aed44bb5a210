-- The frames of each kind of call, both ways.
use Rattle.std.proofs.Common.{◌≡◌, ℕ, ◌<◌, List, [], ◌∷◌, ◌++◌, length, get_or, Some, Ok, refl, ap, ◌∙◌, arith, rules}
use Rattle.std.proofs.lemmas.Bool.Decides.{nat_tests}
use Rattle.std.proofs.lemmas.Grind.{common_steps}
use Rattle.types.specs.declared.quotes.Quote.{Quote}
use Rattle.types.specs.Reports.{price_or_zero, price_unless_zero}
use Rattle.wire.specs.declared.frames.CallKind.{CallKind}
use Rattle.wire.specs.declared.frames.CallFrame.{CallFrame}
use Rattle.wire.specs.declared.frames.CallFrame.TheVariants as frame
use Rattle.wire.specs.Layouts.{fields, Fit, Bytes}
use Rattle.wire.specs.Reading.{announced}
use Rattle.wire.specs.Frames.{kind_code, kind_of, layout, kind_in, numbers, sides, quote_from, call_from, call_at, call_bytes, read_call}
use Rattle.wire.specs.Trips.{Present, Sound}
use Rattle.wire.proofs.Trips.{reads_again, reads_back}

-- Codes.

coded : (k : CallKind) → kind_of (kind_code k) ≡ Some k
coded k = search rules

code_was : (n : ℕ) (k : CallKind) → kind_of n ≡ Some k → n ≡ kind_code k
code_was n k e = search rules

small_code : (k : CallKind) → kind_code k < 256
small_code k = search rules

small_frame : (k : CallKind) → announced (layout k) < 65536
small_frame k = search rules

-- Six letters are those at their six places.
six : (l : List ℕ) → length l ≡ 6 → get_or l 0 0 ∷ get_or l 1 0 ∷ get_or l 2 0 ∷ get_or l 3 0 ∷ get_or l 4 0 ∷ get_or l 5 0 ∷ [] ≡ l
six l e = grind (arith, common_steps)

quote_again : (q : Quote) → Present q → quote_from (sides q) ≡ q
quote_again q p = rw (p.0, p.1)

-- What the numbers of a call say is the call.
again : (f : CallFrame) → Sound f → call_from (kind_in f) (numbers f) ≡ f
again (frame.Enter e) s = rw (six e.trader.letters s)
again (frame.Cancel c) s = rw (six c.trader.letters s)
again (frame.Quote q) s = ap frame.Quote (quote_again q s)
again frame.Halt s = refl
again (frame.Resume q) s = ap frame.Resume (quote_again q s)
again frame.Close s = refl
again (frame.Enrol e) s = rw (six e.trader.letters s)

side_back : (n : ℕ) → price_or_zero (price_unless_zero n) ≡ n
side_back n = grind (arith, nat_tests)

-- The call that bytes say has their numbers and their kind.
numbers_at : (b : List ℕ) (k : CallKind) → fields (layout k) b 4 ≡ numbers (call_at b k)
numbers_at b k = grind (arith, side_back)

kind_at : (b : List ℕ) (k : CallKind) → kind_in (call_at b k) ≡ k
kind_at b k = search rules

pub call_reads : (f : CallFrame) (more : List ℕ) → Sound f → Fit (layout (kind_in f)) (numbers f) → read_call (call_bytes f ++ more) ≡ record { answer = Ok (Some f); rest = more }
call_reads f more s fit =
    reads_again kind_of kind_code layout call_at f (kind_in f) (numbers f) more (coded (kind_in f)) (small_code (kind_in f)) (small_frame (kind_in f)) fit
    (λ b e. ap (call_from (kind_in f)) e ∙ again f s)

pub call_written : (b : List ℕ) (f : CallFrame) → Bytes b → (read_call b).answer ≡ Ok (Some f) → b ≡ call_bytes f ++ (read_call b).rest
call_written = reads_back kind_of kind_code layout call_at kind_in numbers code_was kind_at numbers_at
