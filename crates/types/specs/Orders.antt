-- What is left of a resting order.
use Rattle.std.specs.Prelude.{ℕ, ◌+◌, Bool, cond}
use Rattle.types.specs.declared.orders.RestingOrder.{RestingOrder}

-- the volume of the shown slice or of the hidden one: a limit has all of its volume in the shown one, a peg in the hidden one, and an iceberg in both
abbrev pub volume_in : RestingOrder → Bool → ℕ
volume_in o hidden = cond hidden o.reserve.shares o.shown.shares

-- all that is left, reserve included
abbrev pub volume_of : RestingOrder → ℕ
volume_of o = o.shown.shares + o.reserve.shares
