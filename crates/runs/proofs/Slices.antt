-- The slices that an order may meet, and their order. Assumes nothing.
use Rattle.std.proofs.Common.{◌≡◌, ℕ, zero, suc, ◌<◌, Bool, true, false, cond, ltb, List, [], ◌∷◌, ◌++◌, map, sym, refl, ap, subst, inl, inr, arith}
use Rattle.std.specs.Ordering.{is_lt}
use Rattle.std.proofs.lemmas.Bool.{ltb-true, ltb-false, lt-ltb}
use Rattle.types.specs.declared.orders.Order.{Order}
use Rattle.types.specs.declared.orders.RestingOrder.{RestingOrder}
use Rattle.prices.specs.Prices.{View}
use Rattle.priority.specs.Priority.{Rule, Lawful, better}
use Rattle.priority.proofs.Orders.{lawful_order, is_less}
use Rattle.runs.specs.Lists.{In, At}
use Rattle.runs.specs.Slices.{Slice, volume_of, volume_in, amount, takes, slice_of, later, slices, taker, facts, ahead}
use Rattle.runs.specs.Chains.{OpenTo}
use Rattle.runs.proofs.Lists.{in_append, in_left, in_right, in_map, map_in}

pub slice_is : (o : RestingOrder) (h : Bool) (s : Slice) → In s (slice_of o h) → (s ≡ record { place = 0; resting = o; hidden = h }) × (0 < amount s)
slice_is o h s i = go (ltb 0 (cond h o.reserve.shares o.shown.shares)) refl i
  where
    go : (b : Bool) → ltb 0 (cond h o.reserve.shares o.shown.shares) ≡ b → In s (cond b (record { place = 0; resting = o; hidden = h } ∷ []) []) → (s ≡ record { place = 0; resting = o; hidden = h }) × (0 < amount s)
    go true e (inl k) = (k, subst (λ z. 0 < amount z) (sym k) (ltb-true _ _ e))
    go true e (inr k) = absurd k
    go false e k = absurd k

pub slice_ok : (q : View) (a : Order) (os : List RestingOrder) (s : Slice) → In s (slices q a os) → OpenTo q a os s
unfolding slices
slice_ok q a [] s i = absurd i
slice_ok q a (o ∷ os) s i =
    elim (in_append s (cond (takes q a o.order) (slice_of o false ++ slice_of o true) []) (map later (slices q a os)) i) [
      | inl k ↦ first (takes q a o.order) refl k
      | inr k ↦ let (t, j, e) = in_map later s (slices q a os) k in behind t (slice_ok q a os t j) e
    ]
  where
    from : (h : Bool) → takes q a o.order ≡ true → In s (slice_of o h) → OpenTo q a (o ∷ os) s
    from h e k =
        let (i, m) = slice_is o h s k in
        subst (OpenTo q a (o ∷ os)) (sym i) (record { at = refl; taken = e; some = subst (λ z. 0 < amount z) i m })

    first : (b : Bool) → takes q a o.order ≡ b → In s (cond b (slice_of o false ++ slice_of o true) []) → OpenTo q a (o ∷ os) s
    first true e k = elim (in_append s (slice_of o false) (slice_of o true) k) [ inl j ↦ from false e j | inr j ↦ from true e j ]
    first false e k = absurd k

    behind : (t : Slice) → OpenTo q a os t → s ≡ later t → OpenTo q a (o ∷ os) s
    behind t r e = subst (OpenTo q a (o ∷ os)) (sym e) (record { at = r.at; taken = r.taken; some = r.some })

slice_has : (o : RestingOrder) → 0 < volume_of o → (s : Slice) × In s (slice_of o false ++ slice_of o true) × (s.resting ≡ o)
slice_has o h = go (ltb 0 o.shown.shares) refl (ltb 0 o.reserve.shares) refl
  where
    go : (b : Bool) → ltb 0 o.shown.shares ≡ b → (c : Bool) → ltb 0 o.reserve.shares ≡ c
        → (s : Slice) × In s (cond b (record { place = 0; resting = o; hidden = false } ∷ []) [] ++ cond c (record { place = 0; resting = o; hidden = true } ∷ []) []) × (s.resting ≡ o)
    go true e c f = (record { place = 0; resting = o; hidden = false }, inl refl, refl)
    go false e true f = (record { place = 0; resting = o; hidden = true }, inl refl, refl)
    go false e false f = absurd (omega (arith, ltb-false _ _ e, ltb-false _ _ f))

-- an order with volume that a may take has a slice
pub has_slice : (q : View) (a : Order) (os : List RestingOrder) (o : RestingOrder) → In o os → takes q a o.order ≡ true → 0 < volume_of o → (s : Slice) × In s (slices q a os) × (s.resting ≡ o)
unfolding slices
has_slice q a [] o i t h = absurd i
has_slice q a (x ∷ os) o (inl e) t h =
    let (s, j, k) = slice_has o h in (
      s,
      subst (λ x. In s (cond (takes q a x.order) (slice_of x false ++ slice_of x true) [] ++ map later (slices q a os))) e
          (rw t (in_left s (slice_of o false ++ slice_of o true) (map later (slices q a os)) j)),
      k,
    )
has_slice q a (x ∷ os) o (inr i) t h =
    let (s, j, k) = has_slice q a os o i t h in
    (later s, in_right (later s) (cond (takes q a x.order) (slice_of x false ++ slice_of x true) []) (map later (slices q a os)) (map_in later s (slices q a os) j), k)

-- every such slice is among them
slice_in : (o : RestingOrder) (h : Bool) → 0 < volume_in o h → In (record { place = 0; resting = o; hidden = h }) (slice_of o h)
slice_in o h p = rw (lt-ltb 0 (volume_in o h) p) (inl refl)

either_in : (o : RestingOrder) (h : Bool) → 0 < volume_in o h → In (record { place = 0; resting = o; hidden = h }) (slice_of o false ++ slice_of o true)
either_in o false p = in_left (record { place = 0; resting = o; hidden = false }) (slice_of o false) (slice_of o true) (slice_in o false p)
either_in o true p = in_right (record { place = 0; resting = o; hidden = true }) (slice_of o false) (slice_of o true) (slice_in o true p)

open_at : (q : View) (a : Order) (os : List RestingOrder) (k : ℕ) (o : RestingOrder) (h : Bool) → At os k o → takes q a o.order ≡ true → 0 < volume_in o h
    → In (record { place = k; resting = o; hidden = h }) (slices q a os)
unfolding slices
open_at q a [] k o h at t p = absurd at
open_at q a (x ∷ os) zero o h at t p =
    subst (λ (x : RestingOrder). In (record { place = 0; resting = o; hidden = h }) (cond (takes q a x.order) (slice_of x false ++ slice_of x true) [] ++ map later (slices q a os))) (sym at)
    (rw t (in_left (record { place = 0; resting = o; hidden = h }) (slice_of o false ++ slice_of o true) (map later (slices q a os)) (either_in o h p)))
open_at q a (x ∷ os) (suc k) o h at t p =
    in_right (record { place = suc k; resting = o; hidden = h }) (cond (takes q a x.order) (slice_of x false ++ slice_of x true) []) (map later (slices q a os))
    (map_in later (record { place = k; resting = o; hidden = h }) (slices q a os) (open_at q a os k o h at t p))

pub open_in : (q : View) (a : Order) (os : List RestingOrder) (s : Slice) → OpenTo q a os s → In s (slices q a os)
open_in q a os s ok = open_at q a os s.place s.resting s.hidden ok.at ok.taken ok.some

-- The order of the slices.

module _ (rule : Rule) (law : Lawful rule) (q : View) (a : Order) where
  pub ahead_self : (s : Slice) → ahead rule q a s s ≡ false
  unfolding ahead
  ahead_self s = ap is_lt (law.same (taker a) (facts q s))

  pub ahead_trans : (s t u : Slice) → ahead rule q a s t ≡ true → ahead rule q a t u ≡ true → ahead rule q a s u ≡ true
  unfolding ahead
  ahead_trans s t u x y = ap is_lt ((lawful_order rule law (taker a)).trans (facts q s) (facts q t) (facts q u) (is_less _ x) (is_less _ y))

  pub ahead_price : (s t : Slice) → better a.entry.side (facts q s).price (facts q t).price ≡ true → ahead rule q a s t ≡ true
  unfolding ahead
  ahead_price s t h = ap is_lt (law.by_price (taker a) (facts q s) (facts q t) h)
