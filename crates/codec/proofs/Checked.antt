-- What a call that passed its checks is known to have.
use Rattle.std.proofs.Common.{◌≡◌, Some, None, Ok, Err, Option, refl, arith, rules}
use Rattle.std.proofs.lemmas.Bool.Decides.{nat_tests}
use Rattle.types.specs.declared.money.Price.{Price}
use Rattle.types.specs.declared.quotes.Quote.{Quote}
use Rattle.types.specs.Reports.{price_or_zero, price_unless_zero}
use Rattle.faults.specs.declared.layers.CallField.{CallField}
use Rattle.faults.specs.declared.layers.CallField.TheVariants as at
use Rattle.checks.specs.Checks.{Checked, then, side_check, quote_check}
use Rattle.wire.specs.Trips.{Present}

-- both of two checks passed
pub first : (a b : Checked) → then a b ≡ Ok tt → a ≡ Ok tt
first (Ok tt) b e = refl
first (Err f) b e = search rules

pub second : (a b : Checked) → then a b ≡ Ok tt → b ≡ Ok tt
second (Ok tt) b e = e
second (Err f) b e = search rules

present : (s : Option Price) (f : CallField) → side_check s f ≡ Ok tt → price_unless_zero (price_or_zero s) ≡ s
present None f e = refl
present (Some p) f e = grind (arith, nat_tests)

pub quoted : (q : Quote) → quote_check q ≡ Ok tt → Present q
quoted q e = (
  present q.bid at.Bid (first (side_check q.bid at.Bid) (side_check q.offer at.Offer) e),
  present q.offer at.Offer (second (side_check q.bid at.Bid) (side_check q.offer at.Offer) e),
)
