-- How many records are earlier, counted by a test of each place.
use Rattle.std.proofs.Common.{◌≡◌, ℕ, ◌+◌, Bool, true, false, cond, ltb, [], ◌∷◌, length, filter, Some, None, Option, refl, arith}
use Rattle.table.specs.declared.records.OrderRecord.{OrderRecord}
use Rattle.table.specs.Sequence.{Orders, earlier}

-- an order rests at the place, and is earlier than t
abbrev pub is_earlier : ℕ → Option OrderRecord → Bool
is_earlier t None = false
is_earlier t (Some r) = ltb r.time t

pub counted : (os : Orders) (t : ℕ) → length (filter (is_earlier t) os) ≡ earlier os t
counted [] t = refl
counted (None ∷ os) t = counted os t
counted (Some r ∷ os) t =
    let rest = counted os t in
    elim (ltb r.time t) as (λ b. length (cond b (Some r ∷ filter (is_earlier t) os) (filter (is_earlier t) os)) ≡ cond b 1 0 + earlier os t)
    [ true ↦ omega arith | false ↦ omega arith ]
