-- Comparisons that rank: by a preference, by the price, and one after another.
use Rattle.std.specs.Prelude.{◌≡◌, ℕ, true}
use Rattle.std.specs.Cmp.{IsTotalOrder, bool_cmp_total}
use Rattle.std.specs.declared.cmp.Ordering.TheVariants.{Less, Equal, Greater}
use Rattle.std.proofs.Common.{ap, subst, inl, inr, arith}
use Rattle.std.proofs.lemmas.Bool.{lt-ltb, cases_order}
use Rattle.std.proofs.lemmas.Bool.Decides.{nat_tests}
use Rattle.std.proofs.lemmas.Cmp.{nat_cmp_total, on_total, back_total, then_total, tied_itself}
use Rattle.types.specs.declared.money.Price.{Price}
use Rattle.types.specs.declared.orders.Side.{Side}
use Rattle.types.specs.declared.orders.Side.TheVariants.{Buy, Sell}
use Rattle.priority.specs.declared.Taker.{Taker}
use Rattle.priority.specs.Priority.{Rule, Likes, better, ◌then◌, price_order, best_price, shown_first, preferring}

-- For each active order the slices stand in one order.
pub record Ranks (rule : Rule) : Type 0 where
  pub total : (a : Taker) → IsTotalOrder (rule a)

-- By a preference, by being shown, by the price, and by one rule after another.

pub preferring_ranks : (likes : Likes) → Ranks (preferring likes)
preferring_ranks likes = record { total = λ a. back_total (on_total (likes a) bool_cmp_total) }

pub shown_first_ranks : Ranks shown_first
shown_first_ranks = record { total = λ a. on_total (λ s. s.hidden) bool_cmp_total }

pub price_order_total : (side : Side) → IsTotalOrder (price_order side)
price_order_total Buy = on_total (λ p. p.quarters) nat_cmp_total
price_order_total Sell = back_total (on_total (λ p. p.quarters) nat_cmp_total)

pub best_price_ranks : Ranks best_price
best_price_ranks = record { total = λ a. on_total (λ s. s.price) (price_order_total a.side) }

pub then_ranks : (rule next : Rule) → Ranks rule → Ranks next → Ranks (rule then next)
then_ranks rule next h k = record { total = λ a. then_total (h.total a) (k.total a) }

-- It goes by `better`.

pub better_first : (side : Side) (p r : Price) → better side p r ≡ true → price_order side p r ≡ Less
better_first Buy p r h = grind (arith, nat_tests)
better_first Sell p r h = grind (arith, nat_tests)

pub better_second : (side : Side) (p r : Price) → better side r p ≡ true → price_order side p r ≡ Greater
better_second Buy p r h = grind (arith, nat_tests)
better_second Sell p r h = grind (arith, nat_tests)

pub same_level : (side : Side) (p r : Price) → p ≡ r → price_order side p r ≡ Equal
same_level side p r e = subst (λ (x : Price). price_order side p x ≡ Equal) e (tied_itself (price_order_total side) p)

pub better_chain : (side : Side) (p q r : Price) → better side p q ≡ true → better side q r ≡ true → better side p r ≡ true
better_chain Buy p q r h k = grind (arith, nat_tests)
better_chain Sell p q r h k = grind (arith, nat_tests)

-- Of two prices one is better, or they are the same.
data Apart (side : Side) (p r : Price) : Type 0 where
  ahead_of : better side p r ≡ true → Apart side p r
  behind_of : better side r p ≡ true → Apart side p r
  same_as : p ≡ r → Apart side p r

abbrev priced : ℕ → Price
priced n = record { quarters = n }

apart : (side : Side) (p r : Price) → Apart side p r
apart Buy p r = elim (cases_order p.quarters r.quarters) [
  | inl e ↦ same_as (ap priced e)
  | inr (inl l) ↦ ahead_of (lt-ltb _ _ l)
  | inr (inr l) ↦ behind_of (lt-ltb _ _ l)
]
apart Sell p r = elim (cases_order p.quarters r.quarters) [
  | inl e ↦ same_as (ap priced e)
  | inr (inl l) ↦ behind_of (lt-ltb _ _ l)
  | inr (inr l) ↦ ahead_of (lt-ltb _ _ l)
]
