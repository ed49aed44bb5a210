-- What prices and the right to take tell. Assumes nothing.
use Rattle.std.proofs.Common.{◌≡◌, ◌≤◌, Bool, true, false, cond, not, ◌&&◌, ◌||◌, ltb, Some, None, Option, sym, refl, ap, ◌∙◌, subst, arith}
use Rattle.std.proofs.lemmas.Bool.{and_parts, not-true, both_ways, leb-true, ltb-true}
use Rattle.types.specs.declared.money.Price.{Price}
use Rattle.types.specs.declared.orders.Order.{Order}
use Rattle.types.specs.declared.orders.OrderKind.{OrderKind}
use Rattle.types.specs.declared.orders.OrderKind.TheVariants.{Limit, Iceberg, Peg}
use Rattle.types.specs.declared.orders.Side.{Side}
use Rattle.types.specs.declared.orders.Side.TheVariants.{Buy, Sell}
use Rattle.types.specs.declared.quotes.Quote.{Quote}
use Rattle.prices.specs.Prices.{View, halfway, middle_of, middle, no_worse, at_most, at_least, capped, pegged, price_of, price, is_peg, opposite, pegs_agree, crosses, may_take}
use Rattle.runs.specs.Slices.{takes}

same_side : (s : Side) → opposite s s ≡ false
same_side Buy = refl
same_side Sell = refl

pub not_itself : (q : View) (o : Order) → takes q o o ≡ false
unfolding may_take
not_itself q o = rw same_side refl

pub record Takes (q : View) (a b : Order) : Type 0 where
  pub sides : opposite a.entry.side b.entry.side ≡ true
  pub free : a.entry.marks.post_only ≡ false
  pub pegs : pegs_agree a.entry.kind b.entry.kind ≡ true
  pub cross : crosses a.entry.side (price q a.entry) (price q b.entry) ≡ true

pub takes_parts : (q : View) (a b : Order) → takes q a b ≡ true → Takes q a b
unfolding may_take
takes_parts q a b h =
    let r = and_parts _ _ h in
    let s = and_parts _ _ r.1 in
    let t = and_parts _ _ s.1 in
    record { sides = r.0; free = not-true _ s.0; pegs = t.0; cross = t.1 }

pub post_never : (q : View) (a b : Order) → a.entry.marks.post_only ≡ true → takes q a b ≡ false
post_never q a b h = go (takes q a b) refl
  where
    go : (c : Bool) → takes q a b ≡ c → takes q a b ≡ false
    go true e = absurd (both_ways a.entry.marks.post_only (takes_parts q a b e).free h)
    go false e = e

-- the right to take goes by the two prices
pub takes_same : (q r : View) (a b : Order) → price q a.entry ≡ price r a.entry → price q b.entry ≡ price r b.entry → takes q a b ≡ takes r a b
unfolding may_take
takes_same q r a b e f =
    ap (λ z. opposite a.entry.side b.entry.side && (not a.entry.marks.post_only && (pegs_agree a.entry.kind b.entry.kind && z)))
    (ap (λ z. crosses a.entry.side z (price q b.entry)) e ∙ ap (λ z. crosses a.entry.side (price r a.entry) z) f)

-- a price within the limit and the far side of the quote, for an order of the side
abbrev pub Fair : Side → Price → Quote → Price → Type 0
Fair Buy l q p = (p.quarters ≤ l.quarters) × ((o : Price) → q.offer ≡ Some o → p.quarters ≤ o.quarters)
Fair Sell l q p = (l.quarters ≤ p.quarters) × ((b : Price) → q.bid ≡ Some b → b.quarters ≤ p.quarters)

some_same : {X : Type 0} (a b : X) → Some a ≡ Some b → a ≡ b
some_same a b e = cc

most_fair : (x : Option Price) (l : Price) → ((at_most x l).quarters ≤ l.quarters) × ((o : Price) → x ≡ Some o → (at_most x l).quarters ≤ o.quarters)
most_fair None l = (omega arith, λ o e. cc)
most_fair (Some p) l = (omega arith, λ o e. omega (arith, ap (λ (z : Price). z.quarters) (some_same p o e)))

least_fair : (x : Option Price) (l : Price) → (l.quarters ≤ (at_least x l).quarters) × ((o : Price) → x ≡ Some o → o.quarters ≤ (at_least x l).quarters)
least_fair None l = (omega arith, λ o e. cc)
least_fair (Some p) l = (omega arith, λ o e. omega (arith, ap (λ (z : Price). z.quarters) (some_same p o e)))

fair_capped : (s : Side) (l : Price) (q : Quote) → Fair s l q (capped s q l)
fair_capped Buy l q = most_fair q.offer l
fair_capped Sell l q = least_fair q.bid l

-- the middle lies within both sides
middle_is : (x y : Option Price) (m : Price) → middle_of x y ≡ Some m
    → ((b : Price) → x ≡ Some b → b.quarters ≤ m.quarters) × ((o : Price) → y ≡ Some o → m.quarters ≤ o.quarters)
middle_is None y m h = cc
middle_is (Some b) None m h = cc
middle_is (Some b) (Some o) m h = go (ltb b.quarters o.quarters) refl h
  where
    go : (t : Bool) → ltb b.quarters o.quarters ≡ t → cond t (Some (halfway b o)) None ≡ Some m
        → ((c : Price) → Some b ≡ Some c → c.quarters ≤ m.quarters) × ((c : Price) → Some o ≡ Some c → m.quarters ≤ c.quarters)
    go true e h =
        let l = ltb-true _ _ e in
        let i = ap (λ (z : Price). z.quarters) (some_same _ _ h) in
        (λ c k. omega (arith, ap (λ (z : Price). z.quarters) (some_same b c k)), λ c k. omega (arith, ap (λ (z : Price). z.quarters) (some_same o c k)))
    go false e h = cc

pegged_is : (s : Side) (x : Option Price) (l p : Price) → pegged s x l ≡ Some p → (x ≡ Some p) × (no_worse s p l ≡ true)
pegged_is s None l p h = cc
pegged_is s (Some m) l p h = go (no_worse s m l) refl h
  where
    go : (b : Bool) → no_worse s m l ≡ b → cond b (Some m) None ≡ Some p → (Some m ≡ Some p) × (no_worse s p l ≡ true)
    go true e h = (h, ap (λ z. no_worse s z l) (sym (some_same m p h)) ∙ e)
    go false e h = cc

fair_peg : (s : Side) (l : Price) (q : Quote) (p : Price) → no_worse s p l ≡ true → middle q ≡ Some p → Fair s l q p
fair_peg Buy l q p h k = (leb-true p.quarters l.quarters h, (middle_is q.bid q.offer p k).1)
fair_peg Sell l q p h k = (leb-true l.quarters p.quarters h, (middle_is q.bid q.offer p k).0)

pub fair : (k : OrderKind) (s : Side) (q : Quote) (l p : Price) → price_of k s q l ≡ Some p → Fair s l q p
fair Limit s q l p h = subst (Fair s l q) (some_same _ _ h) (fair_capped s l q)
fair Iceberg s q l p h = subst (Fair s l q) (some_same _ _ h) (fair_capped s l q)
fair Peg s q l p h = let r = pegged_is s (middle q) l p h in fair_peg s l q p r.1 r.0

pub peg_middle : (k : OrderKind) (s : Side) (q : Quote) (l p : Price) → price_of k s q l ≡ Some p → is_peg k ≡ true → middle q ≡ Some p
peg_middle Limit s q l p h e = cc
peg_middle Iceberg s q l p h e = cc
peg_middle Peg s q l p h e = (pegged_is s (middle q) l p h).0

abbrev pub Cross : Side → Price → Price → Type 0
Cross Buy p r = r.quarters ≤ p.quarters
Cross Sell p r = p.quarters ≤ r.quarters

pub crossed : (s : Side) (x y : Option Price) → crosses s x y ≡ true → (p : Price) × (r : Price) × (x ≡ Some p) × (y ≡ Some r) × Cross s p r
crossed s None y h = cc
crossed s (Some p) None h = cc
crossed Buy (Some p) (Some r) h = (p, r, refl, refl, leb-true r.quarters p.quarters h)
crossed Sell (Some p) (Some r) h = (p, r, refl, refl, leb-true p.quarters r.quarters h)

pub or_peg : (x y : Bool) → (not x || y) ≡ true → x ≡ true → y ≡ true
or_peg true y h e = h
or_peg false y h e = cc
