-- What a key finds, by the places.
use Rattle.std.proofs.Common.{◌≡◌, ℕ, zero, suc, ◌<◌, ◌≢◌, Bool, true, false, cond, List, [], ◌∷◌, length, set, Some, None, Decides, sym, refl, ap, ◌∙◌, inl, inr, arith}
use Rattle.std.proofs.lemmas.Bool.{cond-true, cond-false, cases_lt}
use Rattle.std.proofs.lemmas.List.{get_or_past}
use Rattle.cells.specs.Cells.{Cell, lookup, at, Once}

-- cells that are one have one key
pub one_key : {K V : Type 0} (q k : K) (v w : V) → ◌≡◌ {A = Cell K V} (Some (q, v)) (Some (k, w)) → q ≡ k
one_key {K} {V} q k v w h = let p : ◌≡◌ {A = K × V} (q, v) (k, w) = cc in ap (λ x. x.0) p

pub free_not_used : {K V : Type 0} (c : Cell K V) (k : K) (v : V) → c ≡ None → c ≢ Some (k, v)
free_not_used c k v f u = cc f

-- what is used stands within the cells
pub used_below : {K V : Type 0} (cs : List (Cell K V)) (i : ℕ) (k : K) (v : V) → at cs i ≡ Some (k, v) → i < length cs
used_below cs i k v h = elim (cases_lt i (length cs)) [ inl l ↦ l | inr l ↦ absurd (free_not_used (at cs i) k v (get_or_past cs i None l) h) ]

module _ {K V : Type 0} (e : K → K → Bool) (dec : (x y : K) → Decides (e x y) (x ≡ y)) where
  -- a cell that is not the key's is passed over
  skip : (c : Cell K V) (cs : List (Cell K V)) (k : K) → ((v : V) → c ≢ Some (k, v)) → lookup e (c ∷ cs) k ≡ lookup e cs k
  skip None cs k f = refl
  skip (Some x) cs k f = go (e x.0 k) refl
    where
      go : (b : Bool) → e x.0 k ≡ b → cond (e x.0 k) (Some x.1) (lookup e cs k) ≡ lookup e cs k
      go true h = absurd (f x.1 (ap (λ q. Some (q, x.1)) ((dec x.0 k).0 h)))
      go false h = cond-false (e x.0 k) (Some x.1) (lookup e cs k) h

  mine : (c : Cell K V) (cs : List (Cell K V)) (k : K) (v : V) → c ≡ Some (k, v) → lookup e (c ∷ cs) k ≡ Some v
  mine c cs k v h = ap (λ d. lookup e (d ∷ cs) k) h ∙ cond-true (e k k) (Some v) (lookup e cs k) ((dec k k).1 refl)

  pub lookup_none : (cs : List (Cell K V)) (k : K) → ((i : ℕ) (v : V) → at cs i ≢ Some (k, v)) → lookup e cs k ≡ None
  lookup_none [] k f = refl
  lookup_none (c ∷ cs) k f = skip c cs k (f 0) ∙ lookup_none cs k (λ i v. f (suc i) v)

  lookup_first : (cs : List (Cell K V)) (i : ℕ) (k : K) (v : V) → at cs i ≡ Some (k, v) → ((j : ℕ) (w : V) → j < i → at cs j ≢ Some (k, w)) → lookup e cs k ≡ Some v
  lookup_first [] i k v h f = absurd (cc)
  lookup_first (c ∷ cs) zero k v h f = mine c cs k v h
  lookup_first (c ∷ cs) (suc i) k v h f = skip c cs k (λ w. f 0 w (omega arith)) ∙ lookup_first cs i k v h (λ j w l. f (suc j) w (omega arith))

  -- a key that stands once finds what stands there
  pub lookup_some : (cs : List (Cell K V)) (i : ℕ) (k : K) (v : V) → Once (at cs) → at cs i ≡ Some (k, v) → lookup e cs k ≡ Some v
  lookup_some cs i k v once h = lookup_first cs i k v h (λ j w l g. let s = once j i k w v g h in omega (arith, s))

  -- a write over a cell that is not the key's, of one that is not, changes nothing for it
  pub lookup_set : (cs : List (Cell K V)) (i : ℕ) (c : Cell K V) (q : K) → ((v : V) → at cs i ≢ Some (q, v)) → ((v : V) → c ≢ Some (q, v)) → lookup e (set cs i c) q ≡ lookup e cs q
  lookup_set [] i c q f g = refl
  lookup_set (d ∷ cs) zero c q f g = skip c cs q g ∙ sym (skip d cs q f)
  lookup_set (None ∷ cs) (suc i) c q f g = lookup_set cs i c q f g
  lookup_set (Some x ∷ cs) (suc i) c q f g = ap (cond (e x.0 q) (Some x.1)) (lookup_set cs i c q f g)
