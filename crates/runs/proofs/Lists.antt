-- Membership, places, sums and the foremost element. Assumes nothing.
use Rattle.std.proofs.Common.{◌≡◌, ℕ, zero, suc, ◌+◌, ◌<◌, ◌≤◌, Bool, true, false, cond, not, ◌⊎◌, List, [], ◌∷◌, ◌++◌, map, Some, None, filter, sym, refl, ap, ◌∙◌, inl, inr, arith}
use Rattle.std.proofs.lemmas.Bool.{and_parts, not-true, both_ways}
use Rattle.std.specs.List.{find}
use Rattle.runs.specs.Lists.{In, At, no_one, foremost, at_place, sum_of}

pub in_append : {X : Type 0} (x : X) (xs ys : List X) → In x (xs ++ ys) → In x xs ⊎ In x ys
in_append x [] ys h = inr h
in_append x (y ∷ xs) ys (inl e) = inl (inl e)
in_append x (y ∷ xs) ys (inr h) = elim (in_append x xs ys h) [ inl k ↦ inl (inr k) | inr k ↦ inr k ]

pub in_left : {X : Type 0} (x : X) (xs ys : List X) → In x xs → In x (xs ++ ys)
in_left x [] ys h = absurd h
in_left x (y ∷ xs) ys (inl e) = inl e
in_left x (y ∷ xs) ys (inr h) = inr (in_left x xs ys h)

pub in_right : {X : Type 0} (x : X) (xs ys : List X) → In x ys → In x (xs ++ ys)
in_right x [] ys h = h
in_right x (y ∷ xs) ys h = inr (in_right x xs ys h)

pub in_map : {X Y : Type 0} (f : X → Y) (y : Y) (xs : List X) → In y (map f xs) → (x : X) × In x xs × (y ≡ f x)
in_map f y [] h = absurd h
in_map f y (x ∷ xs) (inl e) = (x, inl refl, e)
in_map f y (x ∷ xs) (inr h) = let (z, k, e) = in_map f y xs h in (z, inr k, e)

pub map_in : {X Y : Type 0} (f : X → Y) (x : X) (xs : List X) → In x xs → In (f x) (map f xs)
map_in f x [] h = absurd h
map_in f x (y ∷ xs) (inl e) = inl (ap f e)
map_in f x (y ∷ xs) (inr h) = inr (map_in f x xs h)

pub in_kept : {X : Type 0} (p : X → Bool) (x : X) (xs : List X) → In x (filter p xs) → In x xs × (p x ≡ true)
in_kept p x [] h = absurd h
in_kept {X} p x (y ∷ xs) h = go (in_kept p x xs) (p y) refl h
  where
    go : (In x (filter p xs) → In x xs × (p x ≡ true)) → (b : Bool) → p y ≡ b → In x (cond b (y ∷ filter p xs) (filter p xs)) → ((x ≡ y) ⊎ In x xs) × (p x ≡ true)
    go ih true e (inl k) = (inl k, ap p k ∙ e)
    go ih true e (inr k) = let r = ih k in (inr r.0, r.1)
    go ih false e k = let r = ih k in (inr r.0, r.1)

pub find_some : {X : Type 0} (p : X → Bool) (x : X) (xs : List X) → find p xs ≡ Some x → In x xs × (p x ≡ true)
find_some p x [] h = cc
find_some {X} p x (y ∷ xs) h = go (find_some p x xs) (p y) refl h
  where
    go : (find p xs ≡ Some x → In x xs × (p x ≡ true)) → (b : Bool) → p y ≡ b → cond b (Some y) (find p xs) ≡ Some x → ((x ≡ y) ⊎ In x xs) × (p x ≡ true)
    go ih true e k = let i : x ≡ y = cc in (inl i, ap p i ∙ e)
    go ih false e k = let r = ih k in (inr r.0, r.1)

pub find_none : {X : Type 0} (p : X → Bool) (x : X) (xs : List X) → find p xs ≡ None → In x xs → p x ≡ false
find_none p x [] h i = absurd i
find_none {X} p x (y ∷ xs) h i = go (find_none p x xs) (p y) refl h i
  where
    go : (find p xs ≡ None → In x xs → p x ≡ false) → (b : Bool) → p y ≡ b → cond b (Some y) (find p xs) ≡ None → (x ≡ y) ⊎ In x xs → p x ≡ false
    go ih true e k i = cc
    go ih false e k (inl i) = ap p i ∙ e
    go ih false e k (inr i) = ih k i

pub no_one_in : {X : Type 0} (p : X → Bool) (x : X) (xs : List X) → no_one p xs ≡ true → In x xs → p x ≡ false
no_one_in p x [] h i = absurd i
no_one_in p x (y ∷ xs) h (inl i) = ap p i ∙ not-true (p y) (and_parts (not (p y)) (no_one p xs) h).0
no_one_in p x (y ∷ xs) h (inr i) = no_one_in p x xs (and_parts (not (p y)) (no_one p xs) h).1 i

pub in_no_one : {X : Type 0} (p : X → Bool) (xs : List X) → ((x : X) → In x xs → p x ≡ false) → no_one p xs ≡ true
in_no_one p [] h = refl
in_no_one p (y ∷ xs) h = rw (h y (inl refl)) (in_no_one p xs (λ x i. h x (inr i)))

pub sum_append : {X : Type 0} (f : X → ℕ) (xs ys : List X) → sum_of f (xs ++ ys) ≡ sum_of f xs + sum_of f ys
sum_append f [] ys = omega arith
sum_append f (x ∷ xs) ys = omega (arith, sum_append f xs ys)

pub sum_at_place : {X : Type 0} (f : X → ℕ) (g : X → X) (k : ℕ) (x : X) (xs : List X) → At xs k x → sum_of f (at_place k g xs) + f x ≡ sum_of f xs + f (g x)
sum_at_place f g k x [] h = absurd h
sum_at_place f g zero x (y ∷ xs) h = rw h (omega arith)
sum_at_place f g (suc k) x (y ∷ xs) h = omega (arith, sum_at_place f g k x xs h)

pub map_at_place : {X Y : Type 0} (h : X → Y) (g : X → X) (k : ℕ) (xs : List X) → ((x : X) → h (g x) ≡ h x) → map h (at_place k g xs) ≡ map h xs
map_at_place h g k [] e = refl
map_at_place h g zero (x ∷ xs) e = ap (λ y. y ∷ map h xs) (e x)
map_at_place h g (suc k) (x ∷ xs) e = ap (λ ys. h x ∷ ys) (map_at_place h g k xs e)

pub at_in : {X : Type 0} (xs : List X) (k : ℕ) (x : X) → At xs k x → In x xs
at_in [] k x h = absurd h
at_in (y ∷ xs) zero x h = inl (sym h)
at_in (y ∷ xs) (suc k) x h = inr (at_in xs k x h)

pub in_sum : {X : Type 0} (f : X → ℕ) (xs : List X) → 0 < sum_of f xs → (x : X) × In x xs × (0 < f x)
in_sum f [] h = absurd (omega arith)
in_sum {X} f (y ∷ xs) h = go (in_sum f xs) (f y) refl
  where
    go : (0 < sum_of f xs → (x : X) × In x xs × (0 < f x)) → (n : ℕ) → f y ≡ n → (x : X) × ((x ≡ y) ⊎ In x xs) × (0 < f x)
    go ih zero e = let r = ih (omega arith) in (r.0, inr r.1, r.2)
    go ih (suc n) e = (y, inl refl, omega arith)

pub kept_in : {X : Type 0} (p : X → Bool) (x : X) (xs : List X) → In x xs → p x ≡ true → In x (filter p xs)
kept_in p x [] i t = absurd i
kept_in {X} p x (y ∷ xs) i t = go (kept_in p x xs) (p y) refl i
  where
    go : (In x xs → p x ≡ true → In x (filter p xs)) → (b : Bool) → p y ≡ b → (x ≡ y) ⊎ In x xs → In x (cond b (y ∷ filter p xs) (filter p xs))
    go ih true e (inl k) = inl k
    go ih true e (inr k) = inr (ih k t)
    go ih false e (inl k) = absurd (both_ways (p y) e (ap p (sym k) ∙ t))
    go ih false e (inr k) = ih k t

pub sum_kept : {X : Type 0} (f : X → ℕ) (p : X → Bool) (xs : List X) → sum_of f (filter p xs) ≤ sum_of f xs
sum_kept f p [] = omega arith
sum_kept {X} f p (y ∷ xs) = go (p y) (sum_kept f p xs)
  where
    go : (b : Bool) → sum_of f (filter p xs) ≤ sum_of f xs → sum_of f (cond b (y ∷ filter p xs) (filter p xs)) ≤ f y + sum_of f xs
    go true h = omega arith
    go false h = omega arith

pub sum_map : {X Y : Type 0} (f : Y → ℕ) (g : X → Y) (xs : List X) → sum_of f (map g xs) ≡ sum_of (λ x. f (g x)) xs
sum_map f g [] = refl
sum_map f g (x ∷ xs) = omega (arith, sum_map f g xs)

-- those that fail a test, and then those that pass it
pub sum_parted : {X : Type 0} (f : X → ℕ) (p : X → Bool) (xs : List X) → sum_of f (filter (λ x. not (p x)) xs ++ filter p xs) ≡ sum_of f xs
sum_parted f p xs = sum_append f (filter (λ x. not (p x)) xs) (filter p xs) ∙ both xs
  where
    both : (xs : List _) → sum_of f (filter (λ x. not (p x)) xs) + sum_of f (filter p xs) ≡ sum_of f xs
    both [] = refl
    both (y ∷ ys) = go (p y) (both ys)
      where
        go : (b : Bool) → sum_of f (filter (λ x. not (p x)) ys) + sum_of f (filter p ys) ≡ sum_of f ys
            → sum_of f (cond (not b) (y ∷ filter (λ x. not (p x)) ys) (filter (λ x. not (p x)) ys)) + sum_of f (cond b (y ∷ filter p ys) (filter p ys)) ≡ f y + sum_of f ys
        go true h = omega arith
        go false h = omega arith

pub in_sum_le : {X : Type 0} (f : X → ℕ) (x : X) (xs : List X) → In x xs → f x ≤ sum_of f xs
in_sum_le f x [] i = absurd i
in_sum_le f x (y ∷ xs) (inl e) = omega (arith, ap f e)
in_sum_le f x (y ∷ xs) (inr i) = omega (arith, in_sum_le f x xs i)

-- at most one element has the weight 1
pub only_one : {X : Type 0} (f : X → ℕ) (x y : X) (k : ℕ) (xs : List X) → In x xs → At xs k y → 1 ≤ f x → 1 ≤ f y → sum_of f xs ≤ 1 → x ≡ y
only_one f x y k [] i a h g s = absurd i
only_one f x y zero (z ∷ xs) (inl e) a h g s = e ∙ a
only_one f x y zero (z ∷ xs) (inr i) a h g s = absurd (omega (arith, ap f a, in_sum_le f x xs i))
only_one f x y (suc k) (z ∷ xs) (inl e) a h g s = absurd (omega (arith, ap f e, in_sum_le f y xs (at_in xs k y a)))
only_one f x y (suc k) (z ∷ xs) (inr i) a h g s = only_one f x y k xs i a h g (omega arith)

pub in_at_place : {X : Type 0} (k : ℕ) (f : X → X) (x : X) (xs : List X) → In x (at_place k f xs) → In x xs ⊎ ((y : X) × In y xs × (x ≡ f y))
in_at_place k f x [] i = absurd i
in_at_place zero f x (y ∷ xs) (inl e) = inr (y, inl refl, e)
in_at_place zero f x (y ∷ xs) (inr i) = inl (inr i)
in_at_place (suc k) f x (y ∷ xs) (inl e) = inl (inl e)
in_at_place (suc k) f x (y ∷ xs) (inr i) = elim (in_at_place k f x xs i) [ inl j ↦ inl (inr j) | inr (z, j, e) ↦ inr (z, inr j, e) ]

pub at_same : {X : Type 0} (k : ℕ) (f : X → X) (x : X) (xs : List X) → At xs k x → At (at_place k f xs) k (f x)
at_same k f x [] a = absurd a
at_same zero f x (y ∷ xs) a = ap f a
at_same (suc k) f x (y ∷ xs) a = at_same k f x xs a

-- an element at one place and one that is changed, at the same place or another
pub at_either : {X : Type 0} (j k : ℕ) (f : X → X) (x y : X) (xs : List X) → At xs j y → At xs k x → (x ≡ y) ⊎ At (at_place j f xs) k x
at_either j k f x y [] a b = absurd a
at_either zero zero f x y (z ∷ xs) a b = inl (sym b ∙ a)
at_either zero (suc k) f x y (z ∷ xs) a b = inr b
at_either (suc j) zero f x y (z ∷ xs) a b = inr b
at_either (suc j) (suc k) f x y (z ∷ xs) a b = at_either j k f x y xs a b

pub at_map : {X Y : Type 0} (f : X → Y) (k : ℕ) (x : X) (xs : List X) → At xs k x → At (map f xs) k (f x)
at_map f k x [] a = absurd a
at_map f zero x (y ∷ xs) a = ap f a
at_map f (suc k) x (y ∷ xs) a = at_map f k x xs a

pub at_one : {X : Type 0} (k : ℕ) (x y : X) (xs : List X) → At xs k x → At xs k y → x ≡ y
at_one k x y [] a b = absurd a
at_one zero x y (z ∷ xs) a b = sym a ∙ b
at_one (suc k) x y (z ∷ xs) a b = at_one k x y xs a b

pub map_at : {X Y : Type 0} (h : X → Y) (g : X → X) (k : ℕ) (x : X) (xs : List X) → At xs k x → h (g x) ≡ h x → map h (at_place k g xs) ≡ map h xs
map_at h g k x [] a e = absurd a
map_at h g zero x (y ∷ xs) a e = ap (λ z. z ∷ map h xs) (ap (λ z. h (g z)) a ∙ e ∙ ap h (sym a))
map_at h g (suc k) x (y ∷ xs) a e = ap (λ ys. h y ∷ ys) (map_at h g k x xs a e)

-- two filters that share out the sum
pub sum_split : {X : Type 0} (f : X → ℕ) (p p' : X → Bool) (g g' : X → X) → ((x : X) → cond (p x) (f (g x)) 0 + cond (p' x) (f (g' x)) 0 ≡ f x) → (xs : List X) → sum_of f (map g (filter p xs) ++ map g' (filter p' xs)) ≡ sum_of f xs
sum_split f p p' g g' h [] = refl
sum_split {X} f p p' g g' h (y ∷ xs) =
    sum_append f (map g (filter p (y ∷ xs))) (map g' (filter p' (y ∷ xs)))
    ∙ go (p y) (p' y) (h y) (sym (sum_append f (map g (filter p xs)) (map g' (filter p' xs))) ∙ sum_split f p p' g g' h xs)
  where
    go : (b b' : Bool) → cond b (f (g y)) 0 + cond b' (f (g' y)) 0 ≡ f y → sum_of f (map g (filter p xs)) + sum_of f (map g' (filter p' xs)) ≡ sum_of f xs
        → sum_of f (map g (cond b (y ∷ filter p xs) (filter p xs))) + sum_of f (map g' (cond b' (y ∷ filter p' xs) (filter p' xs))) ≡ f y + sum_of f xs
    go true true e k = omega arith
    go true false e k = omega arith
    go false true e k = omega arith
    go false false e k = omega arith

-- A test that is total, and such that no one beats whoever beats an unbeaten one.
module _ {X : Type 0} (beats : X → X → Bool) (self : (x : X) → beats x x ≡ false) (top : (x y z : X) → beats x y ≡ true → beats y z ≡ true → beats x z ≡ true) where
  unbeaten : (x : X) (xs : List X) → (y : X) × In y (x ∷ xs) × ((z : X) → In z (x ∷ xs) → beats z y ≡ false)
  unbeaten x [] = (x, inl refl, λ z i. elim i [ inl e ↦ ap (λ w. beats w x) e ∙ self x | inr n ↦ absurd n ])
  unbeaten x (w ∷ xs) = go (unbeaten w xs)
    where
      go : (y : X) × In y (w ∷ xs) × ((z : X) → In z (w ∷ xs) → beats z y ≡ false) → (y : X) × In y (x ∷ w ∷ xs) × ((z : X) → In z (x ∷ w ∷ xs) → beats z y ≡ false)
      go (y, i, h) = choose (beats x y) refl
        where
          above : beats x y ≡ true → (z : X) → (b : Bool) → beats z x ≡ b → beats z y ≡ false → beats z x ≡ false
          above e z true k n = absurd (both_ways (beats z y) n (top z x y k e))
          above e z false k n = k

          choose : (b : Bool) → beats x y ≡ b → (y : X) × In y (x ∷ w ∷ xs) × ((z : X) → In z (x ∷ w ∷ xs) → beats z y ≡ false)
          choose true e = (x, inl refl, λ z j. elim j [ inl k ↦ ap (λ v. beats v x) k ∙ self x | inr k ↦ above e z (beats z x) refl (h z k) ])
          choose false e = (y, inr i, λ z j. elim j [ inl k ↦ ap (λ v. beats v y) k ∙ e | inr k ↦ h z k ])

  pub foremost_none : (xs : List X) → foremost beats xs ≡ None → (x : X) → In x xs → ⊥
  foremost_none [] e x i = i
  foremost_none (w ∷ xs) e x i =
      let (y, j, h) = unbeaten w xs in
      both_ways (no_one (λ z. beats z y) (w ∷ xs)) (find_none (λ x. no_one (λ y. beats y x) (w ∷ xs)) y (w ∷ xs) e j) (in_no_one (λ z. beats z y) (w ∷ xs) h)

pub foremost_some : {X : Type 0} (beats : X → X → Bool) (x : X) (xs : List X) → foremost beats xs ≡ Some x → In x xs × ((y : X) → In y xs → beats y x ≡ false)
foremost_some beats x xs e =
    let r = find_some (λ x. no_one (λ y. beats y x) xs) x xs e in
    (r.0, λ y i. no_one_in (λ z. beats z x) y xs r.1 i)
