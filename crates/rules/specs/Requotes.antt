-- A new quote: the orders that it reprices move to the end of the list, and are run in their turn.
use Rattle.std.specs.Prelude.{ℕ, suc, Bool, true, false, cond, not, ◌&&◌, List, [], ◌∷◌, ◌++◌, map, reverse, is_some, Some, None, filter, Option, ◌==◌}
use Rattle.types.specs.declared.money.Price.{Price}
use Rattle.types.specs.declared.orders.RestingOrder.{RestingOrder}
use Rattle.types.specs.declared.quotes.Quote.{Quote}
use Rattle.types.specs.declared.quotes.SessionState.TheVariants.{Open}
use Rattle.types.specs.Reports.{quoted}
use Rattle.prices.specs.Prices.{View, price}
use Rattle.priority.specs.Priority.{Rule}
use Rattle.runs.specs.Lists.{at_place}
use Rattle.runs.specs.Slices.{volume_of}
use Rattle.runs.specs.Runs.{Progress, resting, run, tidied, laid_out}
use Rattle.rules.specs.Accounts.{view_under}
use Rattle.rules.specs.States.{State, Book, Made}

-- An order on the time list, and its place there.
pub record Spot : Type 0 where
  pub place : ℕ
  pub order : RestingOrder

-- The same spot where one more order stands before it.
abbrev pub further : Option Spot → Option Spot
further None = None
further (Some s) = Some (record { place = suc s.place; order = s.order })

-- Where the order of the number n stands.
abbrev pub seek : ℕ → List RestingOrder → Option Spot
seek n [] = None
seek n (o ∷ os) = cond (n == o.order.number.number) (Some (record { place = 0; order = o })) (further (seek n os))

-- The order with no volume, as it stands in its place while it runs.
abbrev pub emptied : RestingOrder → RestingOrder
emptied o = resting o.order 0 0

-- After its run an order that lost volume shows as after an entry.
abbrev pub put_back : RestingOrder → ℕ → RestingOrder
put_back o v = cond (v == volume_of o) o (laid_out o.order.entry.kind o.order v)

-- The resting order is run from its place, which it keeps; put back it shows volume, and so is not among the refreshed ones.
unfoldable pub run_at : Rule → View → Spot → Book → Book
run_at rule view s b =
    let o : RestingOrder = s.order in
    let r : Progress = run rule view o.order (record { left = volume_of o; others = at_place s.place emptied b.resting; log = b.log }) in
    record { resting = tidied b.resting (at_place s.place (λ _. put_back o r.left) r.others); log = r.log }

-- It is run if it still rests, has a price and is not post-only.
abbrev pub if_resting : Rule → View → Option Spot → Book → Book
if_resting rule view None b = b
if_resting rule view (Some s) b =
    cond (is_some (price view s.order.order.entry) && not s.order.order.entry.marks.post_only) (run_at rule view s b) b

-- The order of the number n is run in its turn.
unfoldable pub run_again : Rule → View → ℕ → Book → Book
run_again rule view n b = if_resting rule view (seek n b.resting) b

-- The orders of the numbers are run, one after the other.
unfoldable pub re_enter : Rule → View → List ℕ → Book → Book
re_enter rule view [] b = b
re_enter rule view (n ∷ ns) b = re_enter rule view ns (run_again rule view n b)

-- The orders that pass the test go to the end of the list, their sequence kept.
abbrev pub to_end : (RestingOrder → Bool) → List RestingOrder → List RestingOrder
to_end test os = filter (λ o. not (test o)) os ++ filter test os

-- Both have no price, or both have the same.
abbrev pub same_price : Option Price → Option Price → Bool
same_price None None = true
same_price None (Some p) = false
same_price (Some p) None = false
same_price (Some p) (Some r) = p.quarters == r.quarters

-- Its executable price changed, appeared or vanished.
abbrev pub repriced : View → View → RestingOrder → Bool
repriced old new o = not (same_price (price old o.order.entry) (price new o.order.entry))

-- The numbers of the orders.
abbrev pub numbers : List RestingOrder → List ℕ
numbers os = map (λ (o : RestingOrder). o.order.number.number) os

-- An order that the new quote reprices.
abbrev pub moved_by : Quote → State → RestingOrder → Bool
moved_by q st = repriced (view_under st.quote) (view_under q)

-- QUOTE is reported, repriced orders move to the end, and are run in the sequence in which they moved.
abbrev pub requoted : Rule → Bool → Quote → State → Book
requoted rule resumed q st =
    re_enter rule (view_under q) (numbers (filter (moved_by q st) st.resting))
    (record { resting = to_end (moved_by q st) st.resting; log = quoted q resumed ∷ [] })

-- The quote is in force, and the session is open.
unfoldable pub requote : Rule → Bool → Quote → State → Made
requote rule resumed q st =
    let b : Book = requoted rule resumed q st in
    record {
      state = record { session = Open; quote = q; resting = b.resting; traders = st.traders; accepted = st.accepted; space = st.space };
      reports = reverse b.log;
      orders = [];
    }
