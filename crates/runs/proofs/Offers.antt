-- One pass over the orders finds the foremost slice. Assumes nothing.
use Rattle.std.proofs.Common.{◌≡◌, ℕ, suc, Bool, true, false, cond, not, ◌&&◌, ltb, List, [], ◌∷◌, ◌++◌, map, length, Some, None, Option, sym, refl, ap, ◌∙◌, inl, append_assoc, append-nil}
use Rattle.std.specs.Ordering.{is_lt}
use Rattle.std.proofs.lemmas.List.{map-append}
use Rattle.types.specs.declared.orders.Order.{Order}
use Rattle.types.specs.declared.orders.RestingOrder.{RestingOrder}
use Rattle.prices.specs.Prices.{View}
use Rattle.priority.specs.Priority.{Rule, Lawful}
use Rattle.priority.proofs.Orders.{lawful_order, before_upto, is_less, not_less}
use Rattle.runs.specs.Lists.{foremost}
use Rattle.runs.specs.Slices.{Slice, takes, slice_of, later, slices, taker, facts, ahead}
use Rattle.runs.proofs.Lists.{foremost_none}
use Rattle.runs.proofs.Slices.{ahead_self, ahead_trans}
use Rattle.runs.proofs.Scans.{keep, step}

abbrev pub slice_at : ℕ → RestingOrder → Bool → List Slice
slice_at k o h = cond (ltb 0 (cond h o.reserve.shares o.shown.shares)) (record { place = k; resting = o; hidden = h } ∷ []) []

-- the slices of the order at the place k
abbrev pub slices_at : View → Order → ℕ → RestingOrder → List Slice
slices_at q a k o = cond (takes q a o.order) (slice_at k o false ++ slice_at k o true) []

later_both : (q : View) (a : Order) (k : ℕ) (o : RestingOrder) → map later (slices_at q a k o) ≡ slices_at q a (suc k) o
later_both q a k o = go (takes q a o.order) (ltb 0 o.shown.shares) (ltb 0 o.reserve.shares)
  where
    go : (b c d : Bool) → map later (cond b (cond c (record { place = k; resting = o; hidden = false } ∷ []) [] ++ cond d (record { place = k; resting = o; hidden = true } ∷ []) []) [])
        ≡ cond b (cond c (record { place = suc k; resting = o; hidden = false } ∷ []) [] ++ cond d (record { place = suc k; resting = o; hidden = true } ∷ []) []) []
    go true true true = refl
    go true true false = refl
    go true false true = refl
    go true false false = refl
    go false c d = refl

-- the slices of a list with one more order at its end
pub slices_snoc : (q : View) (a : Order) (xs : List RestingOrder) (o : RestingOrder) → slices q a (xs ++ (o ∷ [])) ≡ slices q a xs ++ slices_at q a (length xs) o
unfolding slices
slices_snoc q a [] o = append-nil _
slices_snoc q a (x ∷ xs) o =
    ap (λ z. cond (takes q a x.order) (slice_of x false ++ slice_of x true) [] ++ map later z) (slices_snoc q a xs o)
    ∙ ap (λ z. cond (takes q a x.order) (slice_of x false ++ slice_of x true) [] ++ z)
    (map-append later (slices q a xs) (slices_at q a (length xs) o) ∙ ap (λ z. map later (slices q a xs) ++ z) (later_both q a (length xs) o))
    ∙ sym (append_assoc (cond (takes q a x.order) (slice_of x false ++ slice_of x true) []) (map later (slices q a xs)) (slices_at q a (suc (length xs)) o))

module _ (rule : Rule) (law : Lawful rule) (q : View) (a : Order) where
  pub ahead_over : (x y z : Slice) → ahead rule q a x y ≡ true → ahead rule q a z y ≡ false → ahead rule q a x z ≡ true
  unfolding ahead
  ahead_over x y z t u =
      let o = lawful_order rule law (taker a) in
      ap is_lt (before_upto o (facts q x) (facts q y) (facts q z) (is_less _ t) (not_less o (facts q z) (facts q y) u))

  -- one more slice at the end
  pub keep_step : (best : Option Slice) (ys : List Slice) (s : Slice) → best ≡ foremost (ahead rule q a) ys → keep (ahead rule q a) best s ≡ foremost (ahead rule q a) (ys ++ (s ∷ []))
  keep_step None ys s e = none ys e
    where
      none : (ys : List Slice) → None ≡ foremost (ahead rule q a) ys → Some s ≡ foremost (ahead rule q a) (ys ++ (s ∷ []))
      none [] e = sym (ap (λ (b : Bool). cond (not b && true) (Some s) None) (ahead_self rule law q a s))
      none (y ∷ ys) e = absurd (foremost_none (ahead rule q a) (ahead_self rule law q a) (ahead_trans rule law q a) (y ∷ ys) (sym e) y (inl refl))
  keep_step (Some b) ys s e = sym (step (ahead rule q a) (ahead_self rule law q a) (ahead_trans rule law q a) ahead_over ys b s (sym e))
