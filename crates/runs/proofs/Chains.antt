-- The run is the one chain of meetings with foremost slices. Assumes nothing.
use Rattle.std.proofs.Common.{◌≡◌, ℕ, zero, suc, ◌<◌, ◌≤◌, Bool, true, false, cond, eqb, ltb, ◌⊎◌, List, [], ◌∷◌, ◌++◌, map, Some, None, Option, sym, refl, ap, ◌∙◌, subst, inl, inr, arith}
use Rattle.std.specs.List.{find}
use Rattle.std.proofs.lemmas.Bool.{both_ways, eqb-true}
use Rattle.std.proofs.lemmas.Cmp.{alike_right}
use Rattle.types.specs.declared.orders.Order.{Order}
use Rattle.types.specs.declared.orders.RestingOrder.{RestingOrder}
use Rattle.prices.specs.Prices.{View}
use Rattle.std.specs.declared.cmp.Ordering.{Ordering}
use Rattle.std.specs.declared.cmp.Ordering.TheVariants.{Less, Equal, Greater}
use Rattle.std.specs.Ordering.{is_lt, ordering_reverse}
use Rattle.priority.specs.Priority.{Rule, Lawful}
use Rattle.priority.proofs.Orders.{lawful_order}
use Rattle.runs.specs.Lists.{In, At, no_one, foremost}
use Rattle.runs.specs.Slices.{Slice, takes, slice_of, later, slices, taker, facts, offered, ahead}
use Rattle.runs.specs.Runs.{Progress, meet, next_slice, in_play, run}
use Rattle.runs.specs.Chains.{OpenTo, Foremost, Over, Chain, RunsHold}
use Rattle.runs.specs.Chains.Chain.{ends, meets}
use Rattle.runs.proofs.Lists.{in_append, in_map, in_no_one, at_one, foremost_none, foremost_some}
use Rattle.runs.proofs.Slices.{slice_is, slice_ok, open_in, ahead_self, ahead_trans}
use Rattle.runs.proofs.Runs.{chosen, falls, run_stop, run_next}

-- One element before another.

abbrev Before : {X : Type 0} → X → X → List X → Type 0
Before x y [] = ⊥
Before x y (z ∷ zs) = ((x ≡ z) × In y zs) ⊎ Before x y zs

find_first : {X : Type 0} (p : X → Bool) (s t : X) (xs : List X) → find p xs ≡ Some s → In t xs → p t ≡ true → (t ≡ s) ⊎ Before s t xs
find_first p s t [] e i h = absurd i
find_first {X} p s t (x ∷ xs) e i h = go (find_first p s t xs) (p x) refl e i
  where
    go : (find p xs ≡ Some s → In t xs → p t ≡ true → (t ≡ s) ⊎ Before s t xs) → (b : Bool) → p x ≡ b → cond b (Some x) (find p xs) ≡ Some s → (t ≡ x) ⊎ In t xs
        → (t ≡ s) ⊎ (((s ≡ x) × In t xs) ⊎ Before s t xs)
    go ih true f e (inl i) = let k : x ≡ s = cc in inl (i ∙ k)
    go ih true f e (inr i) = let k : s ≡ x = cc in inr (inl (k, i))
    go ih false f e (inl i) = absurd (both_ways (p x) f (ap p (sym i) ∙ h))
    go ih false f e (inr i) = elim (ih e i h) [ inl k ↦ inl k | inr k ↦ inr (inr k) ]

before_append : {X : Type 0} (x y : X) (xs ys : List X) → Before x y (xs ++ ys) → Before x y xs ⊎ ((In x xs × In y ys) ⊎ Before x y ys)
before_append x y [] ys b = inr (inr b)
before_append x y (z ∷ xs) ys (inl (e, i)) = elim (in_append y xs ys i) [ inl k ↦ inl (inl (e, k)) | inr k ↦ inr (inl (inl e, k)) ]
before_append x y (z ∷ xs) ys (inr b) = elim (before_append x y xs ys b) [
  | inl k ↦ inl (inr k)
  | inr (inl (i, j)) ↦ inr (inl (inr i, j))
  | inr (inr k) ↦ inr (inr k)
]

before_map : {X Y : Type 0} (f : X → Y) (x y : Y) (xs : List X) → Before x y (map f xs) → (u : X) × (v : X) × Before u v xs × (x ≡ f u) × (y ≡ f v)
before_map f x y [] b = absurd b
before_map f x y (z ∷ xs) (inl (e, i)) = let (v, j, g) = in_map f y xs i in (z, v, inl (refl, j), e, g)
before_map f x y (z ∷ xs) (inr b) = let (u, v, c, e, g) = before_map f x y xs b in (u, v, inr c, e, g)

-- The slices stand in the sequence of the list, an order's shown one before its hidden one.

abbrev Earlier : Slice → Slice → Type 0
Earlier s t = (s.place < t.place) ⊎ ((s.place ≡ t.place) × (s.hidden ≡ false) × (t.hidden ≡ true))

not_two : (o : RestingOrder) (h : Bool) (s t : Slice) → Before s t (slice_of o h) → ⊥
not_two o h s t b = go (ltb 0 (cond h o.reserve.shares o.shown.shares)) b
  where
    go : (b : Bool) → Before s t (cond b (record { place = 0; resting = o; hidden = h } ∷ []) []) → ⊥
    go true (inl (e, i)) = i
    go true (inr b) = b
    go false b = b

in_sequence : (q : View) (a : Order) (os : List RestingOrder) (s t : Slice) → Before s t (slices q a os) → Earlier s t
unfolding slices
in_sequence q a [] s t b = absurd b
in_sequence q a (o ∷ os) s t b = elim (before_append s t (cond (takes q a o.order) (slice_of o false ++ slice_of o true) []) (map later (slices q a os)) b) [
  | inl k ↦ own (takes q a o.order) k
  | inr (inl (i, j)) ↦
      let (u, k, e) = in_map later t (slices q a os) j in
      inl (omega (arith, own_place s (takes q a o.order) i, ap (λ (z : Slice). z.place) e))
  | inr (inr k) ↦
      let (u, v, c, e, f) = before_map later s t (slices q a os) k in
      next u v e f (in_sequence q a os u v c)
]
  where
    own_place : (s : Slice) (b : Bool) → In s (cond b (slice_of o false ++ slice_of o true) []) → s.place ≡ 0
    own_place s true i = elim (in_append s (slice_of o false) (slice_of o true) i) [
      | inl k ↦ ap (λ (z : Slice). z.place) (slice_is o false s k).0
      | inr k ↦ ap (λ (z : Slice). z.place) (slice_is o true s k).0
    ]
    own_place s false i = absurd i

    own : (b : Bool) → Before s t (cond b (slice_of o false ++ slice_of o true) []) → Earlier s t
    own true b = elim (before_append s t (slice_of o false) (slice_of o true) b) [
      | inl k ↦ absurd (not_two o false s t k)
      | inr (inl (i, j)) ↦
          let x = (slice_is o false s i).0 in
          let y = (slice_is o true t j).0 in
          inr (ap (λ (z : Slice). z.place) x ∙ sym (ap (λ (z : Slice). z.place) y), ap (λ (z : Slice). z.hidden) x, ap (λ (z : Slice). z.hidden) y)
      | inr (inr k) ↦ absurd (not_two o true s t k)
    ]
    own false b = absurd b

    next : (u v : Slice) → s ≡ later u → t ≡ later v → Earlier u v → Earlier s t
    next u v e f (inl k) = inl (omega (arith, ap (λ (z : Slice). z.place) e, ap (λ (z : Slice). z.place) f))
    next u v e f (inr (k, h, g)) =
        inr (ap (λ (z : Slice). z.place) e ∙ ap suc k ∙ sym (ap (λ (z : Slice). z.place) f), ap (λ (z : Slice). z.hidden) e ∙ h, ap (λ (z : Slice). z.hidden) f ∙ g)

module _ (rule : Rule) (law : Lawful rule) (q : View) (a : Order) where
  answer : Slice → Slice → Ordering
  answer s t = rule (taker a) (facts q s) (facts q t)

  -- the foremost slice of the definition is the foremost one of the relation
  pub is_foremost : (st : Progress) (s : Slice) → foremost (ahead rule q a) (slices q a st.others) ≡ Some s → Foremost rule q a st s
  unfolding answer ahead
  is_foremost st s e = record { here = slice_ok q a st.others s top.0; first = λ t o. side t o (answer s t) refl }
    where
      ss : List Slice
      ss = slices q a st.others

      top : In s ss × ((t : Slice) → In t ss → ahead rule q a t s ≡ false)
      top = foremost_some (ahead rule q a) s (slices q a st.others) e

      here : OpenTo q a st.others s
      here = slice_ok q a st.others s top.0

      unbeaten : (t : Slice) → answer s t ≡ Equal → (y : Slice) → In y ss → ahead rule q a y t ≡ false
      unbeaten t l y i = ap is_lt (sym (alike_right (lawful_order rule law (taker a)) (facts q s) (facts q t) (facts q y) l)) ∙ top.1 y i

      same_place : (t : Slice) → OpenTo q a st.others t → answer s t ≡ Equal → (t ≡ s) ⊎ Before s t ss → (t ≡ s) ⊎ (s.place < t.place)
      same_place t o l (inl k) = inl k
      same_place t o l (inr b) = elim (in_sequence q a st.others s t b) [
        | inl k ↦ inr k
        | inr (k, h, g) ↦
            let r : s.resting ≡ t.resting = at_one t.place s.resting t.resting st.others (subst (λ n. At st.others n s.resting) k here.at) o.at in
            let e = law.by_shown (taker a) (facts q s) (facts q t) (ap (offered q) r) h g in cc
      ]

      side : (t : Slice) → OpenTo q a st.others t → (x : Ordering) → answer s t ≡ x → (t ≡ s) ⊎ ((answer s t ≡ Less) ⊎ ((answer s t ≡ Equal) × (s.place < t.place)))
      side t o Less x = inr (inl x)
      side t o Greater x = absurd (both_ways true (sym (ap is_lt (law.swap (taker a) (facts q s) (facts q t) ∙ ap ordering_reverse x)) ∙ top.1 t (open_in q a st.others t o)) refl)
      side t o Equal x =
          let i = open_in q a st.others t o in
          elim (same_place t o x (find_first (λ x. no_one (λ y. ahead rule q a y x) ss) s t ss e i (in_no_one (λ y. ahead rule q a y t) ss (unbeaten t x)))) [
            | inl k ↦ inl k
            | inr k ↦ inr (inr (x, k))
          ]

  pub only_one_foremost : (st : Progress) (s t : Slice) → Foremost rule q a st s → Foremost rule q a st t → s ≡ t
  unfolding answer
  only_one_foremost st s t f g = elim (f.first t g.here) [
    | inl e ↦ sym e
    | inr (inl e) ↦ elim (g.first s f.here) [
      | inl k ↦ k
      | inr (inl k) ↦ let turned = back Less e in cc
      | inr (inr (k, l)) ↦ let turned = back Less e in cc
    ]
    | inr (inr (e, l)) ↦ elim (g.first s f.here) [
      | inl k ↦ k
      | inr (inl k) ↦ let turned = back Equal e in cc
      | inr (inr (k, m)) ↦ absurd (omega arith)
    ]
  ]
    where
      back : (x : Ordering) → answer s t ≡ x → answer t s ≡ ordering_reverse x
      back x e = law.swap (taker a) (facts q s) (facts q t) ∙ ap ordering_reverse e

  is_next : (st : Progress) (s : Slice) → next_slice rule q a st ≡ Some s → Foremost rule q a st s
  unfolding next_slice
  is_next st s e = go (eqb st.left 0) e
    where
      go : (b : Bool) → cond b None (foremost (ahead rule q a) (slices q a st.others)) ≡ Some s → Foremost rule q a st s
      go true e = cc
      go false e = is_foremost st s e

  is_over : (st : Progress) → next_slice rule q a st ≡ None → Over q a st
  unfolding next_slice
  is_over st e = go (eqb st.left 0) refl e
    where
      go : (b : Bool) → eqb st.left 0 ≡ b → cond b None (foremost (ahead rule q a) (slices q a st.others)) ≡ None → Over q a st
      go true x e = inl (eqb-true _ _ x)
      go false x e =
          inr (λ s o. foremost_none (ahead rule q a) (ahead_self rule law q a) (ahead_trans rule law q a) (slices q a st.others) e s (open_in q a st.others s o))

  -- the run is a chain
  chain_of : (n : ℕ) (st : Progress) → in_play st ≤ n → (met : List Slice) × Chain rule q a st met (run rule q a st)
  chain_of zero st h = go (next_slice rule q a st) refl
    where
      go : (x : Option Slice) → next_slice rule q a st ≡ x → (met : List Slice) × Chain rule q a st met (run rule q a st)
      go None e = ([], subst (λ (z : Progress). Chain rule q a st [] z) (sym (run_stop rule q a st e)) (ends st (is_over st e)))
      go (Some s) e = absurd (omega (arith, (chosen rule q a st s e).0))
  chain_of (suc n) st h = go (next_slice rule q a st) refl (chain_of n)
    where
      go : (x : Option Slice) → next_slice rule q a st ≡ x → ((st : Progress) → in_play st ≤ n → (met : List Slice) × Chain rule q a st met (run rule q a st))
          → (met : List Slice) × Chain rule q a st met (run rule q a st)
      go None e ih = ([], subst (λ (z : Progress). Chain rule q a st [] z) (sym (run_stop rule q a st e)) (ends st (is_over st e)))
      go (Some s) e ih =
          let (h', top) = chosen rule q a st s e in
          let (met, c) = ih (meet q a st s) (omega (arith, falls rule q a st h' s top)) in
          (s ∷ met, subst (λ (z : Progress). Chain rule q a st (s ∷ met) z) (sym (run_next rule q a st s e)) (meets st (run rule q a (meet q a st s)) s met h' (is_next st s e) c))

  -- and the only one
  same_chain : {st : Progress} {m m' : List Slice} {e e' : Progress} → Chain rule q a st m e → Chain rule q a st m' e' → (m' ≡ m) × (e' ≡ e)
  same_chain (ends st o) (ends _ o') = (refl, refl)
  same_chain (ends st o) (meets _ end s met h f c) = absurd (not_over st o s h f)
    where
      not_over : (st : Progress) → Over q a st → (s : Slice) → 0 < st.left → Foremost rule q a st s → ⊥
      not_over st (inl z) s h f = omega arith
      not_over st (inr n) s h f = n s f.here
  same_chain (meets st end s met h f c) (ends _ o) = absurd (not_over o)
    where
      not_over : Over q a st → ⊥
      not_over (inl z) = omega arith
      not_over (inr n) = n s f.here
  same_chain (meets st end s met h f c) (meets _ end' s' met' h' f' c') =
      let k : s' ≡ s = only_one_foremost st s' s f' f in
      let (x, y) = same_chain c (subst (λ (z : Slice). Chain rule q a (meet q a st z) met' end') k c') in
      (ap (λ z. z ∷ met') k ∙ ap (λ zs. s ∷ zs) x, y)

pub runs_hold : RunsHold
runs_hold rule law q a st =
    let (met, chain) = chain_of rule law q a (in_play st) st (omega arith) in
    record { met = met; links = chain; only = λ others end c. same_chain rule law q a chain c }
