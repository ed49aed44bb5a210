-- Words over lists.
use Rattle.std.specs.Prelude.{◌≡◌, ℕ, zero, suc, ◌+◌, Bool, true, not, ◌&&◌, ◌⊎◌, List, [], ◌∷◌, Option, find}

-- x is on the list
abbrev pub In : {X : Type 0} → X → List X → Type 0
In x [] = ⊥
In x (y ∷ ys) = (x ≡ y) ⊎ In x ys

-- x stands at the place k
abbrev pub At : {X : Type 0} → List X → ℕ → X → Type 0
At [] k x = ⊥
At (y ∷ ys) zero x = y ≡ x
At (y ∷ ys) (suc k) x = At ys k x

-- no element passes the test
abbrev pub no_one : {X : Type 0} → (X → Bool) → List X → Bool
no_one p [] = true
no_one p (x ∷ xs) = not (p x) && no_one p xs

-- the first element that no other beats
abbrev pub foremost : {X : Type 0} → (X → X → Bool) → List X → Option X
foremost beats xs = find (λ x. no_one (λ y. beats y x) xs) xs

-- the list with the element at the place k changed
abbrev pub at_place : {X : Type 0} → ℕ → (X → X) → List X → List X
at_place k f [] = []
at_place zero f (x ∷ xs) = f x ∷ xs
at_place (suc k) f (x ∷ xs) = x ∷ at_place k f xs

-- the sum of the elements' weights
abbrev pub sum_of : {X : Type 0} → (X → ℕ) → List X → ℕ
sum_of f [] = 0
sum_of f (x ∷ xs) = f x + sum_of f xs
