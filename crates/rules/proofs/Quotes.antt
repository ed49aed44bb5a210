-- A quote that passes its checks is read back from its report. Assumes nothing.
use Rattle.std.proofs.Common.{◌≡◌, ◌%◌, Bool, true, false, cond, eqb, leb, Some, None, Ok, Err, Option, refl, ap, ◌∙◌, arith}
use Rattle.std.proofs.lemmas.Bool.{and_parts, leb-true, ne_eqb}
use Rattle.types.specs.declared.money.Price.{Price}
use Rattle.types.specs.declared.quotes.Quote.{Quote}
use Rattle.types.specs.Reports.{price_or_zero, price_unless_zero}
use Rattle.faults.specs.declared.layers.CallField.{CallField}
use Rattle.faults.specs.declared.layers.CallField.TheVariants as at
use Rattle.faults.specs.declared.layers.FieldFault.{FieldFault}
use Rattle.checks.specs.Values.{in_range, tick, on_tick}
use Rattle.checks.specs.Checks.{Checked, test, then, side_check, quote_check}
use Rattle.rules.proofs.Requote.{ReadsBack}

tested : (b : Bool) (f : FieldFault) → test b f ≡ Ok tt → b ≡ true
tested true f h = refl
tested false f h = cc

then_parts : (x y : Checked) → then x y ≡ Ok tt → (x ≡ Ok tt) × (y ≡ Ok tt)
then_parts (Ok u) y h = (refl, h)
then_parts (Err f) y h = cc

side_reads : (x : Option Price) (f : CallField) → side_check x f ≡ Ok tt → price_unless_zero (price_or_zero x) ≡ x
side_reads None f h = refl
side_reads (Some p) f h =
    let t = and_parts (in_range p.quarters) (eqb (p.quarters % tick p.quarters) 0) (tested (on_tick p.quarters) _ h) in
    let l = leb-true 1 p.quarters (and_parts (leb 1 p.quarters) (leb p.quarters 4000000) t.0).0 in
    ap (λ (b : Bool). cond b None (Some p)) (ne_eqb p.quarters 0 (λ z. omega arith))

pub quote_reads : (q : Quote) (resumed : Bool) → quote_check q ≡ Ok tt → ReadsBack q resumed
quote_reads q resumed h =
    let (b, o) = then_parts (side_check q.bid at.Bid) (side_check q.offer at.Offer) h in
    ap (λ (x : Option Price). record { bid = x; offer = price_unless_zero (price_or_zero q.offer) }) (side_reads q.bid at.Bid b)
    ∙ ap (λ (x : Option Price). record { bid = q.bid; offer = x }) (side_reads q.offer at.Offer o)
