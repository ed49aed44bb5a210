-- Sums over the cells: how many are used, and how far the keys stand from their homes.
use Rattle.std.proofs.Common.{◌≡◌, ◌≢◌, ℕ, zero, suc, ◌+◌, ◌<◌, ◌≤◌, List, [], ◌∷◌, length, set, Some, None, refl, ap, ◌∙◌, arith, length-set}
use Rattle.std.specs.Option.{is_some}
use Rattle.std.proofs.lemmas.List.{get_or-set_other}
use Rattle.std.proofs.lemmas.List.Sums.{sum_by-cons, count_by-le-length}
use Rattle.cells.specs.Cells.{Cell, taken, at, gap, home}

module _ {K V : Type 0} where
  -- the sum of what each cell weighs at its place
  abbrev pub weigh : (ℕ → Cell K V → ℕ) → List (Cell K V) → ℕ
  weigh f [] = 0
  weigh f (c ∷ cs) = f 0 c + weigh (λ i. f (suc i)) cs

  pub weigh_set : (f : ℕ → Cell K V → ℕ) (cs : List (Cell K V)) (i : ℕ) (c : Cell K V) → i < length cs → weigh f (set cs i c) + f i (at cs i) ≡ weigh f cs + f i c
  weigh_set f [] i c l = absurd (omega arith)
  weigh_set f (d ∷ cs) zero c l = omega arith
  weigh_set f (d ∷ cs) (suc i) c l = omega (arith, weigh_set (λ j. f (suc j)) cs i c (omega arith))

  -- a cell that goes over to a free place weighs what it weighs there
  pub weigh_moved : (f : ℕ → Cell K V → ℕ) (cs : List (Cell K V)) (i j : ℕ) (c : Cell K V) → i < length cs → j < length cs → i ≢ j → at cs i ≡ None → at cs j ≡ c
      → weigh f (set (set cs j None) i c) + f i None + f j c ≡ weigh f cs + f i c + f j None
  weigh_moved f cs i j c l m p h g =
      let a = weigh_set f cs j None m in
      let b = weigh_set f (set cs j None) i c (omega (arith, length-set cs j None)) in
      let x : f j (at cs j) ≡ f j c = ap (f j) g in
      let y : f i (at (set cs j None) i) ≡ f i None = ap (f i) (get_or-set_other cs j i None None p ∙ h) in
      omega (arith, a, b, x, y)

  -- 1 for a cell that is used
  abbrev pub one : Cell K V → ℕ
  one None = 0
  one (Some e) = 1

  taken_weigh : (cs : List (Cell K V)) → taken cs ≡ weigh (λ _. one) cs
  taken_weigh [] = refl
  taken_weigh (None ∷ cs) = omega (arith, sum_by-cons {X = Cell K V}, taken_weigh cs)
  taken_weigh (Some e ∷ cs) = omega (arith, sum_by-cons {X = Cell K V}, taken_weigh cs)

  pub taken_set : (cs : List (Cell K V)) (i : ℕ) (c : Cell K V) → i < length cs → taken (set cs i c) + one (at cs i) ≡ taken cs + one c
  taken_set cs i c l = omega (arith, weigh_set (λ _. one) cs i c l, taken_weigh cs, taken_weigh (set cs i c))

  pub taken_moved : (cs : List (Cell K V)) (i j : ℕ) (c : Cell K V) → i < length cs → j < length cs → i ≢ j → at cs i ≡ None → at cs j ≡ c
      → taken (set (set cs j None) i c) ≡ taken cs
  taken_moved cs i j c l m p h g =
      omega (arith, weigh_moved (λ _. one) cs i j c l m p h g, taken_weigh cs, taken_weigh (set (set cs j None) i c))

  pub taken_most : (cs : List (Cell K V)) → taken cs ≤ length cs
  taken_most cs = count_by-le-length is_some cs

  pub taken_all : (cs : List (Cell K V)) → ((i : ℕ) → i < length cs → at cs i ≢ None) → taken cs ≡ length cs
  taken_all [] f = refl
  taken_all (None ∷ cs) f = absurd (f 0 (omega arith) refl)
  taken_all (Some e ∷ cs) f = omega (arith, sum_by-cons {X = Cell K V}, taken_all cs (λ i l. f (suc i) (omega arith)))

  pub taken_none : (cs : List (Cell K V)) → ((i : ℕ) → i < length cs → at cs i ≡ None) → taken cs ≡ 0
  taken_none [] f = refl
  taken_none (None ∷ cs) f = omega (arith, sum_by-cons {X = Cell K V}, taken_none cs (λ i l. f (suc i) (omega arith)))
  taken_none (Some e ∷ cs) f = let h = f 0 (omega arith) in absurd (cc)

  -- how far a key stands from its home
  abbrev pub off : (K → ℕ) → ℕ → ℕ → Cell K V → ℕ
  off number n i None = 0
  off number n i (Some e) = gap n (home number n e.0) i

  -- how far the keys stand from their homes, in all
  abbrev pub away : (K → ℕ) → ℕ → List (Cell K V) → ℕ
  away number n cs = weigh (off number n) cs
