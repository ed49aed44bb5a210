-- What leaves an order, and what stays of it.
use Rattle.std.specs.Prelude.{◌-◌, Bool, cond}
use Rattle.types.specs.declared.money.Volume.{Volume}
use Rattle.types.specs.declared.orders.OrderNumber.{OrderNumber}
use Rattle.types.specs.declared.orders.RestingOrder.{RestingOrder}
use Rattle.types.specs.Orders.{volume_of}
use Rattle.slips.specs.declared.Slip.{Slip}

-- So much has left the order of that number.
abbrev pub slip_of : OrderNumber → Volume → Slip
slip_of n v = record { order = n; volume = v }

-- A volume with some of it taken off.
abbrev pub less : Volume → Volume → Volume
less v by = record { shares = v.shares - by.shares }

-- No volume.
abbrev pub none : Volume
none = record { shares = 0 }

-- The order with volume taken from one slice.
abbrev pub drawn_from : RestingOrder → Bool → Volume → RestingOrder
drawn_from o hidden by = record { order = o.order; shown = cond hidden o.shown (less o.shown by); reserve = cond hidden (less o.reserve by) o.reserve }

-- The order with volume taken from the shown slice, and from the hidden one what the shown slice lacks.
abbrev pub drawn_shown_first : RestingOrder → Volume → RestingOrder
drawn_shown_first o by = record { order = o.order; shown = less o.shown by; reserve = less o.reserve (less by o.shown) }

-- The order with no volume.
abbrev pub emptied : RestingOrder → RestingOrder
emptied o = record { order = o.order; shown = none; reserve = none }

-- All that is left of the order.
abbrev pub all_of : RestingOrder → Volume
all_of o = record { shares = volume_of o }
