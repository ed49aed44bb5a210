-- Priority: which of two slices an active order meets first.
use Rattle.std.specs.Prelude.{◌≡◌, Bool, true, false, not, ◌&&◌, ◌||◌, ◌==◌, nat_lt}
use Rattle.std.specs.declared.cmp.Ordering.{Ordering}
use Rattle.std.specs.declared.cmp.Ordering.TheVariants.{Less, Equal}
use Rattle.std.specs.Ordering.{is_gt, ordering_reverse, ordering_then, nat_cmp, bool_cmp}
use Rattle.types.specs.declared.money.Price.{Price}
use Rattle.types.specs.declared.orders.Side.{Side}
use Rattle.types.specs.declared.orders.Side.TheVariants.{Buy, Sell}
use Rattle.priority.specs.declared.SliceFacts.{SliceFacts}
use Rattle.priority.specs.declared.Taker.{Taker}

-- A rule is told of the active order and of two slices, and says which slice is ahead: the first where it answers less, the second where it answers greater, and neither where it answers equal.
abbrev pub Rule : Type 0
Rule = Taker → SliceFacts → SliceFacts → Ordering

-- A preference is told of the active order and of a slice, and says whether that order prefers the slice.
abbrev pub Likes : Type 0
Likes = Taker → SliceFacts → Bool

-- The first price is better than the second for an active order of the side.
abbrev pub better : Side → Price → Price → Bool
better Buy p r = nat_lt p.quarters r.quarters
better Sell p r = nat_lt r.quarters p.quarters

-- The laws of a rule.
pub record Lawful (rule : Rule) : Type 0 where
  -- Equal facts get equal answers: a rule is a function of the facts, so the law that is left to keep is that slices with equal facts are level.
  pub same : (a : Taker) (s : SliceFacts) → rule a s s ≡ Equal
  -- Swapped slices get the swapped answer.
  pub swap : (a : Taker) (s t : SliceFacts) → rule a t s ≡ ordering_reverse (rule a s t)
  -- Not behind is transitive.
  pub not_behind : (a : Taker) (s t u : SliceFacts) → is_gt (rule a s t) ≡ false → is_gt (rule a t u) ≡ false → is_gt (rule a s u) ≡ false
  -- The price better for the active order is ahead.
  pub by_price : (a : Taker) (s t : SliceFacts) → better a.side s.price t.price ≡ true → rule a s t ≡ Less
  -- At one price shown is ahead of hidden.
  pub by_shown : (a : Taker) (s t : SliceFacts) → s.price ≡ t.price → s.hidden ≡ false → t.hidden ≡ true → rule a s t ≡ Less

-- Of two slices, each preferred or not, the preferred one is ahead.
abbrev pub prefer : Bool → Bool → Ordering
prefer first second = bool_cmp second first

infixl 20 ◌then◌
-- One rule, and where it answers level another.
abbrev pub ◌then◌ : Rule → Rule → Rule
◌then◌ rule next a s t = ordering_then (rule a s t) (next a s t)

-- The better of two prices is ahead for an active order of the side.
abbrev pub price_order : Side → Price → Price → Ordering
price_order Buy p r = nat_cmp p.quarters r.quarters
price_order Sell p r = nat_cmp r.quarters p.quarters

-- The better price is ahead.
abbrev pub best_price : Rule
best_price a s t = price_order a.side s.price t.price

-- Shown is ahead of hidden.
abbrev pub shown_first : Rule
shown_first a s t = bool_cmp s.hidden t.hidden

-- A slice that the active order prefers is ahead.
abbrev pub preferring : Likes → Rule
preferring likes a s t = prefer (likes a s) (likes a t)

-- Slice and active order are of one broker, and neither is jitney.
abbrev pub own_broker : Taker → SliceFacts → Bool
own_broker a s = a.broker.number == s.broker.number && (not a.marks.jitney && not s.marks.jitney)

-- Slice and active order are both attributed, that is, not anonymous.
abbrev pub attributed : Taker → SliceFacts → Bool
attributed a s = not a.marks.anonymous && not s.marks.anonymous

-- Under Omega an active order prefers a slice of its own broker where both are attributed.
abbrev pub omega_prefers : Taker → SliceFacts → Bool
omega_prefers a s = own_broker a s && attributed a s

-- Under Lynx it does too, and for a peg's slice neither of the two needs to be attributed.
abbrev pub lynx_prefers : Taker → SliceFacts → Bool
lynx_prefers a s = own_broker a s && (s.peg || attributed a s)

-- Price, then shown; level slices go by time.
abbrev pub time_only : Rule
time_only = best_price then shown_first

-- As time-only, then by Omega's preference.
abbrev pub omega_rule : Rule
omega_rule = time_only then preferring omega_prefers

-- As time-only, then by Lynx's preference.
abbrev pub lynx_rule : Rule
lynx_rule = time_only then preferring lynx_prefers
