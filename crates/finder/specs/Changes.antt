-- What the calls of a finder answer and leave.
use Rattle.std.specs.Prelude.{◌≡◌, ℕ, ◌+◌, ◌<◌, ◌≢◌, Bool, List, length, Some, None, Ok, Err, Option, Result}
use Rattle.std.specs.Map.{update}
use Rattle.cells.specs.Cells.{Cell, lookup, taken, at, gap, home}
use Rattle.finder.specs.declared.finder.Full.{Full}

-- 1 where a key found something
abbrev pub found : {V : Type 0} → Option V → ℕ
found None = 0
found (Some v) = 1

module _ {K V : Type 0} where
  -- What this key finds is changed, and no other; refused exactly where the key is new and no place is free.
  abbrev pub Inserted : (K → K → Bool) → List (Cell K V) → K → V → Result (Option V) Full → List (Cell K V) → Type 0
  Inserted equal cells k v (Ok old) after =
      (old ≡ lookup equal cells k) × ((q : K) → lookup equal after q ≡ update equal (lookup equal cells) k (Some v) q)
      × (taken after + found old ≡ taken cells + 1) × (old ≡ None → taken cells < length cells)
  Inserted equal cells k v (Err _) after = (taken cells ≡ length cells) × (lookup equal cells k ≡ None) × (after ≡ cells)

  -- The key finds nothing any more, and what each other finds is as it was.
  abbrev pub Removed : (K → K → Bool) → List (Cell K V) → K → Option V → List (Cell K V) → Type 0
  Removed equal cells k old after =
      (old ≡ lookup equal cells k) × ((q : K) → lookup equal after q ≡ update equal (lookup equal cells) k None q)
      × (taken after + found old ≡ taken cells)

-- The way of the key k, where it stands at p, leads over the hole.
abbrev pub LeadsOver : {K : Type 0} → (K → ℕ) → ℕ → ℕ → ℕ → K → Type 0
LeadsOver number n hole p k = gap n (home number n k) hole < gap n (home number n k) p

-- Behind the hole and before p every place is used.
abbrev pub InRow : {K V : Type 0} → ℕ → List (Cell K V) → ℕ → Type 0
InRow hole cells p = (x : ℕ) → x < length cells → x ≢ hole → gap (length cells) hole x < gap (length cells) hole p → at cells x ≢ None

-- A place in the hole's row whose key's way leads over the hole; or the row has none.
abbrev pub Follower : {K V : Type 0} → (K → ℕ) → ℕ → List (Cell K V) → Option ℕ → Type 0
Follower {K} {V} number hole cells (Some p) =
    (p < length cells) × InRow hole cells p × (k : K) × (v : V) × (at cells p ≡ Some (k, v)) × LeadsOver number (length cells) hole p k
Follower {K} {V} number hole cells None =
    (p : ℕ) (k : K) (v : V) → InRow hole cells p → at cells p ≡ Some (k, v) → LeadsOver number (length cells) hole p k → ⊥
