-- One pass over the slices that keeps the best so far finds the foremost. Assumes nothing.
use Rattle.std.proofs.Common.{◌≡◌, Bool, true, false, cond, List, [], ◌∷◌, ◌++◌, Some, None, Option, sym, refl, ap, ◌∙◌, inl, inr, append_assoc, append-nil}
use Rattle.std.proofs.lemmas.Bool.{both_ways}
use Rattle.std.specs.List.{find}
use Rattle.runs.specs.Lists.{In, no_one, foremost}
use Rattle.runs.proofs.Lists.{in_append, in_left, in_right, no_one_in, in_no_one, foremost_some}

-- the better of the best so far and one more
abbrev pub keep : {X : Type 0} → (X → X → Bool) → Option X → X → Option X
keep beats None x = Some x
keep beats (Some b) x = Some (cond (beats x b) x b)

abbrev pub scan : {X : Type 0} → (X → X → Bool) → X → List X → X
scan beats b [] = b
scan beats b (x ∷ xs) = scan beats (cond (beats x b) x b) xs

find_weaker : {X : Type 0} (p p' : X → Bool) (b : X) (xs : List X) → find p xs ≡ Some b → ((x : X) → In x xs → p x ≡ false → p' x ≡ false) → p' b ≡ true → find p' xs ≡ Some b
find_weaker p p' b [] e f t = e
find_weaker {X} p p' b (x ∷ xs) e f t = go (p x) refl e (find_weaker p p' b xs)
  where
    go : (c : Bool) → p x ≡ c → cond c (Some x) (find p xs) ≡ Some b → (find p xs ≡ Some b → ((x : X) → In x xs → p x ≡ false → p' x ≡ false) → p' b ≡ true → find p' xs ≡ Some b) → cond (p' x) (Some x) (find p' xs) ≡ Some b
    go true h e ih = let i : x ≡ b = cc in rw (ap p' i ∙ t) e
    go false h e ih = rw (f x (inl refl) h) (ih e (λ y j. f y (inr j)) t)

find_front : {X : Type 0} (p : X → Bool) (b : X) (xs ys : List X) → find p xs ≡ Some b → find p (xs ++ ys) ≡ Some b
find_front p b [] ys e = cc
find_front {X} p b (x ∷ xs) ys e = go (p x) e (find_front p b xs ys)
  where
    go : (c : Bool) → cond c (Some x) (find p xs) ≡ Some b → (find p xs ≡ Some b → find p (xs ++ ys) ≡ Some b) → cond c (Some x) (find p (xs ++ ys)) ≡ Some b
    go true e ih = e
    go false e ih = ih e

find_behind : {X : Type 0} (p : X → Bool) (xs ys : List X) → ((x : X) → In x xs → p x ≡ false) → find p (xs ++ ys) ≡ find p ys
find_behind p [] ys f = refl
find_behind p (x ∷ xs) ys f = rw (f x (inl refl)) (find_behind p xs ys (λ y i. f y (inr i)))

-- `beats` is the strict part of a total preorder
module _ {X : Type 0} (beats : X → X → Bool) (self : (x : X) → beats x x ≡ false) (trans : (x y z : X) → beats x y ≡ true → beats y z ≡ true → beats x z ≡ true)
    (over : (x y z : X) → beats x y ≡ true → beats z y ≡ false → beats x z ≡ true) where
  abbrev best_of : List X → X → Bool
  best_of ys x = no_one (λ y. beats y x) ys

  not_best : (ys : List X) (x y : X) → In y ys → beats y x ≡ true → best_of ys x ≡ false
  not_best ys x y i t = go (best_of ys x) refl
    where
      go : (c : Bool) → best_of ys x ≡ c → best_of ys x ≡ false
      go true e = absurd (both_ways (beats y x) (no_one_in (λ z. beats z x) y ys e i) t)
      go false e = e

  beaten_more : (ys : List X) (x y : X) → best_of ys y ≡ false → best_of (ys ++ (x ∷ [])) y ≡ false
  beaten_more ys x y h = go (best_of (ys ++ (x ∷ [])) y) refl
    where
      go : (c : Bool) → best_of (ys ++ (x ∷ [])) y ≡ c → best_of (ys ++ (x ∷ [])) y ≡ false
      go true e = absurd (both_ways (best_of ys y) h (in_no_one (λ z. beats z y) ys (λ z i. no_one_in (λ z. beats z y) z (ys ++ (x ∷ [])) e (in_left z ys (x ∷ []) i))))
      go false e = e

  pub step : (ys : List X) (b x : X) → foremost beats ys ≡ Some b → foremost beats (ys ++ (x ∷ [])) ≡ Some (cond (beats x b) x b)
  step ys b x e = go (beats x b) refl
    where
      zs : List X
      zs = ys ++ (x ∷ [])

      unbeaten : (y : X) → In y ys → beats y b ≡ false
      unbeaten = (foremost_some beats b ys e).1

      best_x : beats x b ≡ true → best_of zs x ≡ true
      best_x t = in_no_one (λ z. beats z x) zs (λ z i. elim (in_append z ys (x ∷ []) i) [
        | inl j ↦ no z j (beats z x) refl
        | inr j ↦ elim j [ inl k ↦ ap (λ w. beats w x) k ∙ self x | inr k ↦ absurd k ]
      ])
        where
          no : (z : X) → In z ys → (c : Bool) → beats z x ≡ c → beats z x ≡ false
          no z j true k = absurd (both_ways (beats z b) (unbeaten z j) (trans z x b k t))
          no z j false k = k

      go : (c : Bool) → beats x b ≡ c → foremost beats zs ≡ Some (cond c x b)
      go true t =
          find_behind (best_of zs) ys (x ∷ []) (λ y i. not_best zs y x (in_right x ys (x ∷ []) (inl refl)) (over x b y t (unbeaten y i)))
          ∙ ap (λ (c : Bool). cond c (Some x) None) (best_x t)
      go false t =
          find_front (best_of zs) b ys (x ∷ [])
          (find_weaker (best_of ys) (best_of zs) b ys e (λ y i h. beaten_more ys x y h)
          (in_no_one (λ z. beats z b) zs (λ z i. elim (in_append z ys (x ∷ []) i) [ inl j ↦ unbeaten z j | inr j ↦ elim j [ inl k ↦ ap (λ w. beats w b) k ∙ t | inr k ↦ absurd k ] ])))

  scan_on : (ys : List X) (b : X) (xs : List X) → foremost beats ys ≡ Some b → foremost beats (ys ++ xs) ≡ Some (scan beats b xs)
  scan_on ys b [] e = ap (foremost beats) (append-nil ys) ∙ e
  scan_on ys b (x ∷ xs) e = ap (foremost beats) (sym (append_assoc ys (x ∷ []) xs)) ∙ scan_on (ys ++ (x ∷ [])) (cond (beats x b) x b) xs (step ys b x e)

  pub scan_finds : (b : X) (xs : List X) → foremost beats (b ∷ xs) ≡ Some (scan beats b xs)
  scan_finds b xs = scan_on (b ∷ []) b xs (rw (self b) refl)
