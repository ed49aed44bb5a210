-- What a run is, with no count of its steps: a chain of meetings with the foremost slices.
use Rattle.std.specs.Prelude.{◌≡◌, ◌<◌, true, ◌⊎◌, List, [], ◌∷◌}
use Rattle.std.specs.declared.cmp.Ordering.TheVariants.{Less, Equal}
use Rattle.types.specs.declared.orders.Order.{Order}
use Rattle.types.specs.declared.orders.RestingOrder.{RestingOrder}
use Rattle.prices.specs.Prices.{View}
use Rattle.priority.specs.Priority.{Rule, Lawful}
use Rattle.runs.specs.Lists.{At}
use Rattle.runs.specs.Slices.{Slice, amount, takes, taker, facts}
use Rattle.runs.specs.Runs.{Progress, meet, run}

-- A non-empty slice of a resting order that a may take.
pub record OpenTo (view : View) (a : Order) (os : List RestingOrder) (s : Slice) : Type 0 where
  pub at : At os s.place s.resting
  pub taken : takes view a s.resting.order ≡ true
  pub some : 0 < amount s

-- Each other such slice is behind it, or is level with it and comes later on the time list.
pub record Foremost (rule : Rule) (view : View) (a : Order) (st : Progress) (s : Slice) : Type 0 where
  pub here : OpenTo view a st.others s
  pub first : (t : Slice) → OpenTo view a st.others t
      → (t ≡ s) ⊎ ((rule (taker a) (facts view s) (facts view t) ≡ Less) ⊎ ((rule (taker a) (facts view s) (facts view t) ≡ Equal) × (s.place < t.place)))

-- The active order is used up, or no slice is left.
abbrev pub Over : View → Order → Progress → Type 0
Over view a st = (st.left ≡ 0) ⊎ ((s : Slice) → OpenTo view a st.others s → ⊥)

-- The chain of meetings with the slices of a list, from one state of a run to its end.
pub data Chain (rule : Rule) (view : View) (a : Order) : Progress → List Slice → Progress → Type 0 where
  ends : (st : Progress) → Over view a st → Chain rule view a st [] st
  meets : (st end : Progress) (s : Slice) (met : List Slice) → 0 < st.left → Foremost rule view a st s → Chain rule view a (meet view a st s) met end → Chain rule view a st (s ∷ met) end

-- From any start there is exactly one chain, and it is the run.
pub record OneChain (rule : Rule) (view : View) (a : Order) (st : Progress) : Type 0 where
  pub met : List Slice
  pub links : Chain rule view a st met (run rule view a st)
  pub only : (others : List Slice) (end : Progress) → Chain rule view a st others end → (others ≡ met) × (end ≡ run rule view a st)

-- It holds for every lawful rule.
abbrev pub RunsHold : Type 0
RunsHold = (rule : Rule) → Lawful rule → (view : View) (a : Order) (st : Progress) → OneChain rule view a st
