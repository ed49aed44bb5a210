-- What a run leaves keeps volumes and orders. Assumes nothing.
use Rattle.std.proofs.Common.{◌≡◌, ℕ, ◌+◌, ◌<◌, ◌≤◌, Bool, true, false, cond, not, ◌&&◌, eqb, ltb, ◌⊎◌, List, [], ◌∷◌, map, length, filter, sym, refl, ap, ◌∙◌, inl, inr, arith}
use Rattle.std.proofs.lemmas.Bool.{ltb-true, ltb-false, eqb-true, and_parts}
use Rattle.std.proofs.lemmas.List.{length-map}
use Rattle.types.specs.declared.orders.Order.{Order}
use Rattle.types.specs.declared.orders.OrderKind.{OrderKind}
use Rattle.types.specs.declared.orders.OrderKind.TheVariants.{Limit, Iceberg, Peg}
use Rattle.types.specs.declared.orders.RestingOrder.{RestingOrder}
use Rattle.checks.specs.Values.{is_iceberg}
use Rattle.runs.specs.Lists.{In, sum_of}
use Rattle.runs.specs.Slices.{volume_of}
use Rattle.runs.specs.Runs.{spent, stays, refreshed, refresh, tidied, laid_out}
use Rattle.runs.proofs.Lists.{in_append, in_kept, sum_append}
use Rattle.rules.specs.Accounts.{on, rests}

abbrev pub rows_of : List RestingOrder → List Order
rows_of os = map (λ (o : RestingOrder). o.order) os

spent_parts : (o : RestingOrder) → spent o ≡ true → (o.shown.shares ≡ 0) × (0 < o.reserve.shares)
spent_parts o h =
    let r = and_parts (is_iceberg o.order.entry.kind) (eqb o.shown.shares 0 && ltb 0 o.reserve.shares) h in
    let t = and_parts (eqb o.shown.shares 0) (ltb 0 o.reserve.shares) r.1 in
    (eqb-true _ _ t.0, ltb-true _ _ t.1)

-- refreshing keeps an order's volume
refreshed_volume : (b o : RestingOrder) → spent o ≡ true → volume_of (refreshed b o) ≡ volume_of o
refreshed_volume b o h =
    let p = spent_parts o h in
    omega arith

rows_length : (xs ys : List RestingOrder) → rows_of xs ≡ rows_of ys → length xs ≡ length ys
rows_length xs ys e = sym (length-map xs (λ (o : RestingOrder). o.order)) ∙ ap length e ∙ length-map ys (λ (o : RestingOrder). o.order)

weight : ℕ → RestingOrder → ℕ
weight n o = on n o.order.number.number (volume_of o)

shared_rests : (n : ℕ) (bs os : List RestingOrder) → length bs ≡ length os → sum_of (weight n) (filter stays os) + sum_of (weight n) (refresh bs os) ≡ sum_of (weight n) os
shared_rests n [] [] l = refl
shared_rests n [] (o ∷ os) l = absurd (omega arith)
shared_rests n (b ∷ bs) [] l = absurd (omega arith)
shared_rests n (b ∷ bs) (o ∷ os) l = go (spent o) refl (ltb 0 (volume_of o)) refl (shared_rests n bs os (omega arith))
  where
    w : ℕ
    w = weight n o

    same : spent o ≡ true → weight n (refreshed b o) ≡ weight n o
    same h = unfold weight in ap (on n o.order.number.number) (refreshed_volume b o h)

    none : ltb 0 (volume_of o) ≡ false → weight n o ≡ 0
    none h = unfold weight in pick (eqb n o.order.number.number)
      where
        pick : (d : Bool) → cond d (volume_of o) 0 ≡ 0
        pick true = omega (arith, ltb-false _ _ h)
        pick false = refl

    go : (x : Bool) → spent o ≡ x → (c : Bool) → ltb 0 (volume_of o) ≡ c → sum_of (weight n) (filter stays os) + sum_of (weight n) (refresh bs os) ≡ sum_of (weight n) os
        → sum_of (weight n) (cond (c && not x) (o ∷ filter stays os) (filter stays os)) + sum_of (weight n) (cond x (refreshed b o ∷ refresh bs os) (refresh bs os)) ≡ weight n o + sum_of (weight n) os
    go true e true f h = omega (arith, same e)
    go true e false f h = omega (arith, same e)
    go false e true f h = omega arith
    go false e false f h = omega (arith, none f)

pub tidied_rests : (n : ℕ) (bs os : List RestingOrder) → rows_of bs ≡ rows_of os → rests n (tidied bs os) ≡ rests n os
unfolding rests tidied
tidied_rests n bs os e = sum_append (λ (o : RestingOrder). on n o.order.number.number (volume_of o)) (filter stays os) (refresh bs os) ∙ shared
  where
    shared : sum_of (λ (o : RestingOrder). on n o.order.number.number (volume_of o)) (filter stays os) + sum_of (λ (o : RestingOrder). on n o.order.number.number (volume_of o)) (refresh bs os)
        ≡ sum_of (λ (o : RestingOrder). on n o.order.number.number (volume_of o)) os
    shared = unfold weight in shared_rests n bs os (rows_length bs os e)

-- how many orders of the list have the number n
abbrev pub counted : ℕ → RestingOrder → ℕ
counted n o = on n o.order.number.number 1

unfoldable pub count : ℕ → List RestingOrder → ℕ
count n os = sum_of (counted n) os

pub count_tidied : (n : ℕ) (bs os : List RestingOrder) → count n (tidied bs os) ≤ count n os
unfolding count tidied
count_tidied n bs os = omega (arith, sum_append (counted n) (filter stays os) (refresh bs os), shared bs os)
  where
    fewer : (os : List RestingOrder) → sum_of (counted n) (filter stays os) ≤ sum_of (counted n) os
    fewer [] = omega arith
    fewer (o ∷ os) = go (stays o) (fewer os)
      where
        go : (b : Bool) → sum_of (counted n) (filter stays os) ≤ sum_of (counted n) os → sum_of (counted n) (cond b (o ∷ filter stays os) (filter stays os)) ≤ counted n o + sum_of (counted n) os
        go true h = omega arith
        go false h = omega arith

    shared : (bs os : List RestingOrder) → sum_of (counted n) (filter stays os) + sum_of (counted n) (refresh bs os) ≤ sum_of (counted n) os
    shared [] os = omega (arith, fewer os)
    shared (b ∷ bs) [] = omega arith
    shared (b ∷ bs) (o ∷ os) = go (spent o) (ltb 0 (volume_of o)) (shared bs os)
      where
        go : (x c : Bool) → sum_of (counted n) (filter stays os) + sum_of (counted n) (refresh bs os) ≤ sum_of (counted n) os
            → sum_of (counted n) (cond (c && not x) (o ∷ filter stays os) (filter stays os)) + sum_of (counted n) (cond x (refreshed b o ∷ refresh bs os) (refresh bs os)) ≤ counted n o + sum_of (counted n) os
        go true true h = omega arith
        go true false h = omega arith
        go false true h = omega arith
        go false false h = omega arith

in_refresh : (o : RestingOrder) (bs os : List RestingOrder) → In o (refresh bs os) → (b : RestingOrder) × (x : RestingOrder) × In x os × (spent x ≡ true) × (o ≡ refreshed b x)
in_refresh o [] os i = absurd i
in_refresh o (b ∷ bs) [] i = absurd i
in_refresh o (b ∷ bs) (x ∷ os) i = go (in_refresh o bs os) (spent x) refl i
  where
    go : (In o (refresh bs os) → (b : RestingOrder) × (x : RestingOrder) × In x os × (spent x ≡ true) × (o ≡ refreshed b x)) → (t : Bool) → spent x ≡ t
        → In o (cond t (refreshed b x ∷ refresh bs os) (refresh bs os)) → (b : RestingOrder) × (y : RestingOrder) × ((y ≡ x) ⊎ In y os) × (spent y ≡ true) × (o ≡ refreshed b y)
    go ih true e (inl k) = (b, x, inl refl, e, k)
    go ih true e (inr k) = let (c, y, j, s, f) = ih k in (c, y, inr j, s, f)
    go ih false e k = let (c, y, j, s, f) = ih k in (c, y, inr j, s, f)

-- each order of the tidied list is one on the list before, with the same volume
pub tidied_in : (o : RestingOrder) (bs os : List RestingOrder) → In o (tidied bs os) → (x : RestingOrder) × In x os × (x.order ≡ o.order) × (0 < volume_of x) × (volume_of o ≡ volume_of x)
unfolding tidied
tidied_in o bs os i =
    elim (in_append o (filter stays os) (refresh bs os) i) [
      | inl k ↦
          let (h, t) = in_kept stays o os k in
          (o, h, refl, ltb-true _ _ (and_parts (ltb 0 (volume_of o)) (not (spent o)) t).0, refl)
      | inr k ↦
          let (b, x, j, t, e) = in_refresh o bs os k in
          let p = spent_parts x t in
          (x, j, sym (ap (λ (z : RestingOrder). z.order) e), omega arith, ap volume_of e ∙ refreshed_volume b x t)
    ]

pub laid_volume : (k : OrderKind) (o : Order) (v : ℕ) → volume_of (laid_out k o v) ≡ v
laid_volume Limit o v = omega arith
laid_volume Iceberg o v = omega arith
laid_volume Peg o v = omega arith

pub laid_order : (k : OrderKind) (o : Order) (v : ℕ) → (laid_out k o v).order ≡ o
laid_order Limit o v = refl
laid_order Iceberg o v = refl
laid_order Peg o v = refl
