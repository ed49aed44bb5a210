-- A run of the active order through the resting ones, and what it leaves of them.
use Rattle.std.specs.Prelude.{ℕ, zero, suc, ◌+◌, ◌-◌, ◌%◌, min, Bool, cond, not, ◌&&◌, List, [], ◌∷◌, ◌++◌, Some, None, filter, Option, ◌==◌, nat_lt}
use Rattle.types.specs.declared.orders.Order.{Order}
use Rattle.types.specs.declared.orders.OrderKind.{OrderKind}
use Rattle.types.specs.declared.orders.OrderKind.TheVariants.{Limit, Iceberg, Peg}
use Rattle.types.specs.declared.orders.RestingOrder.{RestingOrder}
use Rattle.types.specs.declared.reports.Report.{Report}
use Rattle.checks.specs.Values.{is_iceberg}
use Rattle.prices.specs.Prices.{View}
use Rattle.priority.specs.Priority.{Rule}
use Rattle.runs.specs.Lists.{foremost, at_place, sum_of}
use Rattle.runs.specs.Slices.{Slice, volume_of, slices, ahead}
use Rattle.runs.specs.Meetings.{Effect, shares, meeting}

-- What is left of the active order, the resting orders in their places, and the reports so far, the newest first.
pub record Progress : Type 0 where
  pub left : ℕ
  pub others : List RestingOrder
  pub log : List Report

-- A resting order of so much shown and reserve.
abbrev pub resting : Order → ℕ → ℕ → RestingOrder
resting o shown reserve = record { order = o; shown = shares shown; reserve = shares reserve }

-- The order with other volumes.
abbrev pub holding : ℕ → ℕ → RestingOrder → RestingOrder
holding shown reserve o = resting o.order shown reserve

-- The active order meets the slice.
unfoldable pub meet : View → Order → Progress → Slice → Progress
meet view a st s =
    let f : Effect = meeting view a st.left s in
    record { left = f.left; others = at_place s.place (holding f.shown f.reserve) st.others; log = f.reports ++ st.log }

-- The slice that it meets next, while it has volume: the foremost one of those that it may take.
unfoldable pub next_slice : Rule → View → Order → Progress → Option Slice
next_slice rule view a st = cond (st.left == 0) None (foremost (ahead rule view a) (slices view a st.others))

-- At most n meetings.
unfoldable pub meetings : Rule → View → Order → ℕ → Progress → Progress
meetings rule view a zero st = st
meetings rule view a (suc n) st = elim (next_slice rule view a st) [ None ↦ st | Some s ↦ meetings rule view a n (meet view a st s) ]

-- All volume in play; each meeting takes some of it off.
abbrev pub in_play : Progress → ℕ
in_play st = st.left + sum_of volume_of st.others

-- Meetings until there is no next slice: there are no more of them than there is volume in play.
unfoldable pub run : Rule → View → Order → Progress → Progress
run rule view a st = meetings rule view a (in_play st) st

-- What a run leaves.

-- An iceberg with nothing shown but reserve left.
abbrev pub spent : RestingOrder → Bool
spent o = is_iceberg o.order.entry.kind && (o.shown.shares == 0 && nat_lt 0 o.reserve.shares)

-- An order that keeps its place.
abbrev pub stays : RestingOrder → Bool
stays o = nat_lt 0 (volume_of o) && not (spent o)

-- With display size d, and t drawn from the reserve since the run began, it shows the smaller of d - t mod d and what is left.
abbrev pub refreshed : RestingOrder → RestingOrder → RestingOrder
refreshed before o =
    let d : ℕ = o.order.entry.display.shares in
    let t : ℕ = before.reserve.shares - o.reserve.shares in
    let v : ℕ = min (d - t % d) o.reserve.shares in
    resting o.order v (o.reserve.shares - v)

-- The spent ones among the orders as they are after a run, each with the order as it was before, refreshed.
abbrev pub refresh : List RestingOrder → List RestingOrder → List RestingOrder
refresh [] os = []
refresh (before ∷ bs) [] = []
refresh (before ∷ bs) (o ∷ os) = cond (spent o) (refreshed before o ∷ refresh bs os) (refresh bs os)

-- After a run used-up orders go, and refreshed icebergs go to the end of the list, their sequence kept.
unfoldable pub tidied : List RestingOrder → List RestingOrder → List RestingOrder
tidied before os = filter stays os ++ refresh before os

-- How an order with the volume v comes to rest.
abbrev pub laid_out : OrderKind → Order → ℕ → RestingOrder
laid_out Limit o v = resting o v 0
laid_out Iceberg o v = resting o (min o.entry.display.shares v) (v - min o.entry.display.shares v)
laid_out Peg o v = resting o 0 v
