-- Those of a list that pass a test, where one element is changed or removed. Assumes nothing.
use Rattle.std.proofs.Common.{◌≡◌, ℕ, zero, suc, ◌<◌, Bool, true, false, cond, List, [], ◌∷◌, length, get_or, set, filter, sym, refl, ap, ◌∙◌, arith}
use Rattle.std.specs.List.{remove}

module _ {X : Type 0} where
  more : (p : X → Bool) (x : X) (xs ys : List X) → filter p xs ≡ filter p ys → filter p (x ∷ xs) ≡ filter p (x ∷ ys)
  more p x xs ys e = ap (λ (zs : List X). cond (p x) (x ∷ zs) zs) e

  dropped : (p : X → Bool) (x : X) (xs : List X) → p x ≡ false → filter p (x ∷ xs) ≡ filter p xs
  dropped p x xs e = ap (λ (b : Bool). cond b (x ∷ filter p xs) (filter p xs)) e

  passed : (p : X → Bool) (x : X) (xs : List X) → p x ≡ true → filter p (x ∷ xs) ≡ x ∷ filter p xs
  passed p x xs e = ap (λ (b : Bool). cond b (x ∷ filter p xs) (filter p xs)) e

  pub kept_removed : (p : X → Bool) (xs : List X) (k : ℕ) (d : X) → k < length xs → p (get_or xs k d) ≡ false → filter p (remove xs k) ≡ filter p xs
  kept_removed p [] k d h e = absurd (omega arith)
  kept_removed p (x ∷ xs) zero d h e = sym (dropped p x xs e)
  kept_removed p (x ∷ xs) (suc k) d h e = more p x (remove xs k) xs (kept_removed p xs k d (omega arith) e)

  pub kept_set : (p : X → Bool) (xs : List X) (k : ℕ) (d y : X) → k < length xs → p (get_or xs k d) ≡ false → p y ≡ false → filter p (set xs k y) ≡ filter p xs
  kept_set p [] k d y h e f = refl
  kept_set p (x ∷ xs) zero d y h e f = dropped p y xs f ∙ sym (dropped p x xs e)
  kept_set p (x ∷ xs) (suc k) d y h e f = more p x (set xs k y) xs (kept_set p xs k d y (omega arith) e f)

  pub kept_first : (p : X → Bool) (xs : List X) (k : ℕ) (d : X) → k < length xs → p (get_or xs k d) ≡ true → ((m : ℕ) → m < k → p (get_or xs m d) ≡ false)
      → filter p xs ≡ get_or xs k d ∷ filter p (remove xs k)
  kept_first p [] k d h e f = absurd (omega arith)
  kept_first p (x ∷ xs) zero d h e f = passed p x xs e
  kept_first p (x ∷ xs) (suc k) d h e f =
      dropped p x xs (f 0 (omega arith))
      ∙ kept_first p xs k d (omega arith) e (λ m l. f (suc m) (omega arith))
      ∙ ap (λ (zs : List X). get_or xs k d ∷ zs) (sym (dropped p x (remove xs k) (f 0 (omega arith))))

  pub kept_all : (p : X → Bool) (xs : List X) (d : X) → ((k : ℕ) → k < length xs → p (get_or xs k d) ≡ true) → filter p xs ≡ xs
  kept_all p [] d f = refl
  kept_all p (x ∷ xs) d f = passed p x xs (f 0 (omega arith)) ∙ ap (λ (zs : List X). x ∷ zs) (kept_all p xs d (λ k h. f (suc k) (omega arith)))

  pub kept_none : (p : X → Bool) (xs : List X) (d : X) → ((k : ℕ) → k < length xs → p (get_or xs k d) ≡ false) → filter p xs ≡ []
  kept_none p [] d f = refl
  kept_none p (x ∷ xs) d f = dropped p x xs (f 0 (omega arith)) ∙ kept_none p xs d (λ k h. f (suc k) (omega arith))
