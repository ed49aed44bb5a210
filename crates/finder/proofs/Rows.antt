-- A walk along the row of keys behind a hole.
use Rattle.std.proofs.Common.{◌≡◌, ◌≢◌, ℕ, ◌+◌, ◌<◌, List, length, get_or, Some, None, sym, ap, ◌∙◌, inl, inr, arith}
use Rattle.std.proofs.lemmas.List.{get_or_read}
use Rattle.std.proofs.lemmas.Bool.{cases_eq, cases_lt}
use Rattle.cells.specs.Cells.{Cell, at, gap, after, home}
use Rattle.finder.specs.Changes.{LeadsOver, Follower}
use Rattle.cells.proofs.Rings.{gap_below, gap_once, next_below, gap_nearer, gap_whole, gap_sooner}
use Rattle.cells.proofs.Lookups.{one_key, used_below}

-- a cell in the row whose key stays
abbrev pub Stays : {K V : Type 0} → (K → ℕ) → ℕ → ℕ → ℕ → Cell K V → Type 0
Stays {K} {V} number n hole p c = (c ≢ None) × ((k : K) (v : V) → c ≡ Some (k, v) → LeadsOver number n hole p k → ⊥)

-- the keys at the first i places behind the hole stay
abbrev pub Stayed : {K V : Type 0} → (K → ℕ) → ℕ → List (Cell K V) → ℕ → Type 0
Stayed number hole cs i = (x : ℕ) → x < length cs → gap (length cs) (after (length cs) hole) x < i → Stays number (length cs) hole x (at cs x)

module _ {K V : Type 0} (number : K → ℕ) (hole : ℕ) (cs : List (Cell K V)) (low : hole < length cs) where
  next : after (length cs) hole < length cs
  next = next_below (length cs) hole low

  -- what is read at the next place
  module _ (i p : ℕ) (stayed : Stayed number hole cs i) (within : p < length cs) (far : gap (length cs) (after (length cs) hole) p ≡ i) (c : Cell K V) (is : c ≡ get_or cs p c) where
    there : at cs p ≡ c
    there = sym (get_or_read cs p c within is None)

    module _ (q : K) (v : V) (used : c ≡ Some (q, v)) where
      pub stayed_on : (LeadsOver number (length cs) hole p q → ⊥) → Stayed number hole cs (i + 1)
      stayed_on not x l g =
          elim (cases_lt (gap (length cs) (after (length cs) hole) x) i) [
            | inl b ↦ stayed x l b
            | inr b ↦ (
                let same : x ≡ p = gap_once (length cs) (after (length cs) hole) x p next l within (omega arith) in
                let stays : Stays number (length cs) hole p c = (λ free. cc, λ k w h over. not (rw (one_key q k v w (sym used ∙ h)) over)) in
                rw (same, there) stays)
          ]

      pub follows : LeadsOver number (length cs) hole p q → Follower number hole cs (Some p)
      follows over = (
        within,
        λ x l ne g. (stayed x l (omega (arith, gap_sooner (length cs) hole x p low l within ne g))).0,
        q,
        v,
        there ∙ used,
        over,
      )

    -- a free place ends the row
    pub row_ends : c ≡ None → Follower number hole cs None
    row_ends free a k v row h over =
        let l = used_below cs a k v h in
        let ne : a ≢ hole = λ z. omega (arith, ap (gap (length cs) (home number (length cs) k)) z) in
        elim (cases_lt (gap (length cs) (after (length cs) hole) a) i) [
          | inl b ↦ (stayed a l b).1 k v h over
          | inr b ↦ elim (cases_eq a p) [
            | inl x ↦ cc there
            | inr x ↦ (
                let farther : gap (length cs) (after (length cs) hole) p ≢ gap (length cs) (after (length cs) hole) a = λ z. x (sym (gap_once (length cs) (after (length cs) hole) p a next within l z)) in
                let apart : p ≢ hole = λ z. omega (arith, gap_whole (length cs) hole low, ap (gap (length cs) (after (length cs) hole)) z, gap_below (length cs) (after (length cs) hole) a next l) in
                row p within apart (omega (arith, gap_nearer (length cs) hole p low within (λ z. apart (sym z)), gap_nearer (length cs) hole a low l (λ z. ne (sym z)))) (there ∙ free))
          ]
        ]

  -- the walk has come round to the hole
  pub row_round : Stayed number hole cs (length cs) → Follower number hole cs None
  row_round stayed a k v row h over =
      let l = used_below cs a k v h in
      (stayed a l (gap_below (length cs) (after (length cs) hole) a next l)).1 k v h over
