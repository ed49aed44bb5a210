-- What a search for a key says.
use Rattle.std.specs.Prelude.{◌≡◌, ℕ, ◌<◌, Bool, List, length, Some, None, Ok, Err, Option, Result, ◌≢◌}
use Rattle.cells.specs.Cells.{Cell, lookup, taken, at, gap, home}

module _ {K V : Type 0} where
  -- the value of a cell
  abbrev pub held : Cell K V → Option V
  held None = None
  held (Some e) = Some e.1

  -- A key stands here; or it stands nowhere, and this is the first free place on its way; or it stands nowhere, and no place is free.
  abbrev pub Sought : (K → K → Bool) → (K → ℕ) → List (Cell K V) → K → Result ℕ (Option ℕ) → Type 0
  Sought equal number cells k (Ok i) = (i < length cells) × ((v : V) × (at cells i ≡ Some (k, v)) × (lookup equal cells k ≡ Some v))
  Sought equal number cells k (Err (Some i)) =
      (i < length cells) × (at cells i ≡ None) × (lookup equal cells k ≡ None)
      × ((j : ℕ) → j < length cells → gap (length cells) (home number (length cells) k) j < gap (length cells) (home number (length cells) k) i → at cells j ≢ None)
  Sought equal number cells k (Err None) = (taken cells ≡ length cells) × (lookup equal cells k ≡ None)
