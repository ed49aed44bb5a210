-- What holds between the calls. Assumes nothing.
use Rattle.std.proofs.Common.{◌≡◌, ℕ, ◌+◌, ◌<◌, ◌≤◌, cond, List, [], ◌∷◌, ◌++◌, sym, refl, ap, ◌∙◌, inl, inr, arith}
use Rattle.std.proofs.lemmas.Bool.{eq-eqb, ne_eqb}
use Rattle.types.specs.declared.orders.Order.{Order}
use Rattle.types.specs.declared.orders.RestingOrder.{RestingOrder}
use Rattle.types.specs.declared.quotes.Quote.{Quote}
use Rattle.types.specs.declared.reports.Report.{Report}
use Rattle.types.specs.declared.reports.ReportKind.{ReportKind}
use Rattle.types.specs.declared.reports.ReportKind.TheVariants as kind
use Rattle.runs.specs.Lists.{In, sum_of}
use Rattle.runs.specs.Slices.{volume_of}
use Rattle.runs.proofs.Lists.{sum_append, sum_map}
use Rattle.rules.specs.Accounts.{on, lost_by, entered_by, lost, entered, rests, quote_of}
use Rattle.rules.specs.Laws.{FairTrade, FairAs, FairReport, Quiet}
use Rattle.rules.specs.States.{Book}
use Rattle.rules.proofs.Sound.{AllFair}
use Rattle.rules.proofs.Tidied.{rows_of, counted, count}

pub on_same : (n m v : ℕ) → n ≡ m → on n m v ≡ v
on_same n m v h = ap (λ b. cond b v 0) (eq-eqb n m h)

pub on_other : (n m v : ℕ) → (n ≡ m → ⊥) → on n m v ≡ 0
on_other n m v h = ap (λ b. cond b v 0) (ne_eqb n m h)

pub lost_cons : (n : ℕ) (r : Report) (log : List Report) → lost n (r ∷ log) ≡ lost_by n r + lost n log
unfolding lost
lost_cons n r log = refl

pub entered_cons : (n : ℕ) (r : Report) (log : List Report) → entered n (r ∷ log) ≡ entered_by n r + entered n log
unfolding entered
entered_cons n r log = refl

pub fair_cons : (os : List Order) (r : Report) (log : List Report) → FairReport os log r → AllFair os log → AllFair os (r ∷ log)
unfolding AllFair
fair_cons os r log h k = (h, k)

pub rests_append : (n : ℕ) (xs ys : List RestingOrder) → rests n (xs ++ ys) ≡ rests n xs + rests n ys
unfolding rests
rests_append n xs ys = sum_append (λ (o : RestingOrder). on n o.order.number.number (volume_of o)) xs ys

pub count_append : (n : ℕ) (xs ys : List RestingOrder) → count n (xs ++ ys) ≡ count n xs + count n ys
unfolding count
count_append n xs ys = sum_append (counted n) xs ys

-- the count goes by the orders
pub count_rows : (n : ℕ) (xs ys : List RestingOrder) → rows_of xs ≡ rows_of ys → count n xs ≡ count n ys
unfolding count
count_rows n xs ys e =
    sym (sum_map (λ (z : Order). on n z.number.number 1) (λ (o : RestingOrder). o.order) xs) ∙ ap (sum_of (λ (z : Order). on n z.number.number 1)) e
    ∙ sum_map (λ (z : Order). on n z.number.number 1) (λ (o : RestingOrder). o.order) ys

-- `want` is what was entered of each number
pub record Core (orders : List Order) (q : Quote) (want : ℕ → ℕ) (b : Book) : Type 0 where
  pub sums : (n : ℕ) → want n ≡ lost n b.log + rests n b.resting
  pub wanted : (n : ℕ) → entered n b.log ≡ want n
  pub listed : (o : RestingOrder) → In o b.resting → In o.order orders
  pub filled : (o : RestingOrder) → In o b.resting → 0 < volume_of o
  pub single : (n : ℕ) → count n b.resting ≤ 1
  pub quoted : quote_of b.log ≡ q
  pub trades : AllFair orders b.log

abbrev pub Unique : List Order → Type 0
Unique os = (x y : Order) → In x os → In y os → x.number.number ≡ y.number.number → x ≡ y

-- a call's reports, and the earlier ones
abbrev pub onto : List Report → Book → Book
onto old b = record { resting = b.resting; log = b.log ++ old }

abbrev pub book : List RestingOrder → List Report → Book
book os log = record { resting = os; log = log }

-- so many orders were accepted, and none has a higher number
pub record Inv (accepted : ℕ) (q : Quote) (b : Book) (orders : List Order) (want : ℕ → ℕ) : Type 0 where
  pub below : (o : Order) → In o orders → o.number.number ≤ accepted
  pub unique : Unique orders
  pub volumes : (o : Order) → In o orders → want o.number.number ≡ o.entry.volume.shares
  pub fresh : (n : ℕ) → accepted < n → want n ≡ 0
  pub core : Core orders q want b
  pub quiet : Quiet q b.resting

-- an order that is accepted later has no volume in the earlier reports
module _ (os : List Order) (e : Order) where
  later_trade : (log : List Report) (r : Report) → entered e.number.number log ≡ 0 → FairTrade os log r → FairTrade (e ∷ os) log r
  later_trade log r h f =
      record {
        buyer = f.buyer;
        seller = f.seller;
        buyer_known = inr f.buyer_known;
        seller_known = inr f.seller_known;
        buyer_number = f.buyer_number;
        seller_number = f.seller_number;
        buyer_side = f.buyer_side;
        seller_side = f.seller_side;
        buyer_has = f.buyer_has;
        seller_has = f.seller_has;
        low = f.low;
        high = f.high;
        bid = f.bid;
        offer = f.offer;
        peg = f.peg;
        best = λ d p i. elim i [ inl x ↦ (λ k t pr w. absurd (omega (arith, ap (λ (z : Order). entered z.number.number log) x))) | inr j ↦ f.best d p j ];
      }

  later_as : (k : ReportKind) (log : List Report) (r : Report) → entered e.number.number log ≡ 0 → FairAs k os log r → FairAs k (e ∷ os) log r
  later_as kind.Blank log r h f = tt
  later_as kind.Accepted log r h f = tt
  later_as kind.Trade log r h f = later_trade log r h f
  later_as kind.Cancelled log r h f = tt
  later_as kind.Decremented log r h f = tt
  later_as kind.Quote log r h f = tt
  later_as kind.Halted log r h f = tt
  later_as kind.Closed log r h f = tt

  pub later_order : (log : List Report) → entered e.number.number log ≡ 0 → AllFair os log → AllFair (e ∷ os) log
  unfolding AllFair entered
  later_order [] h k = tt
  later_order (r ∷ log) h (k, l) =
      let z : entered e.number.number log ≡ 0 = unfold entered in omega arith in
      (later_as r.kind log r z k, later_order log z l)
