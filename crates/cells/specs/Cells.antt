-- Cells that hold keys with their values: what each key finds, and where a key may stand.
use Rattle.std.specs.Prelude.{◌≡◌, ℕ, ◌+◌, ◌-◌, ◌*◌, ◌/◌, ◌%◌, ◌<◌, Bool, cond, List, [], ◌∷◌, length, Some, None, Option, ◌==◌, ◌≢◌, nat_le, slice_index_or, count_by}
use Rattle.std.specs.Option.{is_some}

-- A number spread over 32 bits: the upper half of its product with 2 ^ 64 by the golden ratio.
abbrev pub scattered : ℕ → ℕ
scattered n = n * 11400714819323198485 % 18446744073709551616 / 4294967296

-- the way from a round to b, in a ring of n places
abbrev pub gap : ℕ → ℕ → ℕ → ℕ
gap n a b = cond (nat_le a b) (b - a) (n + b - a)

-- the place after p
abbrev pub after : ℕ → ℕ → ℕ
after n p = cond (p + 1 == n) 0 (p + 1)

-- where a key is looked for first
abbrev pub home : {K : Type 0} → (K → ℕ) → ℕ → K → ℕ
home number n k = number k % n

-- a free cell, or one used by a key and its value
abbrev pub Cell : Type 0 → Type 0 → Type 0
Cell K V = Option (K × V)

module _ {K V : Type 0} where
  -- what a key finds
  abbrev pub lookup : (K → K → Bool) → List (Cell K V) → K → Option V
  lookup equal [] k = None
  lookup equal (None ∷ cells) k = lookup equal cells k
  lookup equal (Some e ∷ cells) k = cond (equal e.0 k) (Some e.1) (lookup equal cells k)

  -- how many cells are used
  abbrev pub taken : List (Cell K V) → ℕ
  taken cells = count_by is_some cells

  -- the cell at a place; past the end every place is free
  abbrev pub at : List (Cell K V) → ℕ → Cell K V
  at cells i = slice_index_or cells i None

  -- each key stands once
  abbrev pub Once : (ℕ → Cell K V) → Type 0
  Once f = (i j : ℕ) (k : K) (v w : V) → f i ≡ Some (k, v) → f j ≡ Some (k, w) → i ≡ j

  -- On the way from its home to where a key stands no place is free, but for the places named.
  abbrev pub Reached : (K → ℕ) → ℕ → (ℕ → Type 0) → (ℕ → Cell K V) → Type 0
  Reached number n Named f =
      (i j : ℕ) (k : K) (v : V) → f i ≡ Some (k, v) → j < n → gap n (home number n k) j < gap n (home number n k) i → (Named j → ⊥) → f j ≢ None

  -- what a search relies on
  pub record Rules (number : K → ℕ) (n : ℕ) (Named : ℕ → Type 0) (f : ℕ → Cell K V) : Type 0 where
    pub once : Once f
    pub reached : Reached number n Named f

  -- Cells in which a search that starts at a key's home and ends at a free place finds every key.
  abbrev pub Sound : (K → ℕ) → List (Cell K V) → Type 0
  Sound number cells = Rules number (length cells) (λ _. ⊥) (at cells)

  -- the same but for one place, which was set free
  abbrev pub SoundBut : (K → ℕ) → ℕ → List (Cell K V) → Type 0
  SoundBut number hole cells = Rules number (length cells) (λ j. j ≡ hole) (at cells)
