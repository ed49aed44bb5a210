-- A walk along the places of a key, from its home on.
use Rattle.std.proofs.Common.{◌≡◌, ℕ, ◌+◌, ◌<◌, ◌≢◌, Bool, List, length, Some, None, Ok, Err, get_or, false, true, Decides, sym, ap, ◌∙◌, subst, inl, inr, arith}
use Rattle.std.proofs.lemmas.Nat.{mod_below}
use Rattle.std.proofs.lemmas.List.{get_or_read}
use Rattle.std.proofs.lemmas.Bool.{cases_order, cases_lt}
use Rattle.cells.specs.Cells.{Cell, lookup, at, gap, home, Sound}
use Rattle.cells.specs.Searching.{Sought}
use Rattle.cells.proofs.Rings.{gap_below, gap_once}
use Rattle.cells.proofs.Lookups.{free_not_used, one_key, used_below, lookup_none, lookup_some}
use Rattle.cells.proofs.Counts.{taken_all}

-- a cell that is used by another key
abbrev pub Other : {K V : Type 0} → K → Cell K V → Type 0
Other {K} {V} k c = (c ≢ None) × ((v : V) → c ≢ Some (k, v))

-- the first i places on a key's way are other keys'
abbrev pub Passed : {K V : Type 0} → (K → ℕ) → List (Cell K V) → K → ℕ → Type 0
Passed number cs k i = (j : ℕ) → j < length cs → gap (length cs) (home number (length cs) k) j < i → Other k (at cs j)

module _ {K V : Type 0} (e : K → K → Bool) (dec : (x y : K) → Decides (e x y) (x ≡ y)) (number : K → ℕ) (cs : List (Cell K V)) (k : K) where
  home_below : 0 < length cs → home number (length cs) k < length cs
  home_below h = mod_below (number k) (length cs) h

  -- what is read at a place on the way
  module _ (i p : ℕ) (passed : Passed number cs k i) (low : p < length cs) (far : gap (length cs) (home number (length cs) k) p ≡ i) (c : Cell K V) (is : c ≡ get_or cs p c) where
    there : at cs p ≡ c
    there = sym (get_or_read cs p c low is None)

    -- it is another key's
    pub passed_on : (q : K) (v : V) → c ≡ Some (q, v) → e q k ≡ false → Passed number cs k (i + 1)
    passed_on q v used ne j l g =
        elim (cases_lt (gap (length cs) (home number (length cs) k) j) i) [
          | inl b ↦ passed j l b
          | inr b ↦ (
              let same : j ≡ p = gap_once (length cs) (home number (length cs) k) j p (home_below (omega arith)) l low (omega arith) in
              let other : Other k c = (λ free. cc, λ w h. let t = (dec q k).1 (one_key q k v w (sym used ∙ h)) in cc) in
              subst (Other k) (sym (ap (at cs) same ∙ there)) other)
        ]

    -- it is free, which ends the search
    absent : Sound number cs → at cs p ≡ None → (x : ℕ) (v : V) → at cs x ≢ Some (k, v)
    absent sound free x v u =
        let l = used_below cs x k v u in
        elim (cases_order (gap (length cs) (home number (length cs) k) x) i) [
          | inl b ↦ (let same = gap_once (length cs) (home number (length cs) k) x p (home_below (omega arith)) l low (omega arith) in cc)
          | inr b ↦ elim b [
            | inl d ↦ (passed x l d).1 v u
            | inr d ↦ sound.reached x p k v u low (omega arith) (λ x. x) free
          ]
        ]

    pub sought_open : Sound number cs → c ≡ None → Sought e number cs k (Err (Some p))
    sought_open sound is_free =
        let free : at cs p ≡ None = there ∙ is_free in
        (low, free, lookup_none e dec cs k (absent sound free), λ j l g. (passed j l (omega arith)).0)

    -- it is the key's
    pub sought_here : Sound number cs → (q : K) (v : V) → c ≡ Some (q, v) → e q k ≡ true → Sought e number cs k (Ok p)
    sought_here sound q v used eq =
        let mine = (dec q k).0 eq in
        let here : at cs p ≡ Some (k, v) = cc there in
        (low, (v, here, lookup_some e dec cs p k v sound.once here))

  -- a walk that has come round
  pub sought_full : Passed number cs k (length cs) → Sought e number cs k (Err None)
  sought_full passed =
      let near : (j : ℕ) → j < length cs → gap (length cs) (home number (length cs) k) j < length cs = λ j l. gap_below (length cs) (home number (length cs) k) j (home_below (omega arith)) l in
      (taken_all cs (λ j l. (passed j l (near j l)).0), lookup_none e dec cs k (λ x v u. let l = used_below cs x k v u in (passed x l (near x l)).1 v u))

-- cells with nothing in them
module _ {K V : Type 0} (e : K → K → Bool) (dec : (x y : K) → Decides (e x y) (x ≡ y)) (number : K → ℕ) (cs : List (Cell K V)) (free : (j : ℕ) → j < length cs → at cs j ≡ None) where
  unused : (j : ℕ) (k : K) (v : V) → at cs j ≡ Some (k, v) → ⊥
  unused j k v h = free_not_used (at cs j) k v (free j (used_below cs j k v h)) h

  pub free_sound : Sound number cs
  free_sound = record { once = λ i j k v w g h. absurd (unused i k v g); reached = λ i j k v g l s p h. unused i k v g }

  pub free_none : (q : K) → lookup e cs q ≡ None
  free_none q = lookup_none e dec cs q (λ i v. unused i q v)
