-- Without an emptied iceberg nothing is refreshed. Assumes nothing.
use Rattle.std.proofs.Common.{◌≡◌, Bool, true, false, cond, not, ◌&&◌, ltb, List, [], ◌∷◌, ◌++◌, filter, refl, ap, ◌∙◌, append-nil}
use Rattle.std.proofs.lemmas.Bool.{and_parts, not-true}
use Rattle.types.specs.declared.orders.RestingOrder.{RestingOrder}
use Rattle.runs.specs.Lists.{no_one}
use Rattle.runs.specs.Slices.{volume_of}
use Rattle.runs.specs.Runs.{spent, stays, refreshed, refresh, tidied}

pub refresh_none : (bs os : List RestingOrder) → no_one spent os ≡ true → refresh bs os ≡ []
refresh_none [] os h = refl
refresh_none (b ∷ bs) [] h = refl
refresh_none (b ∷ bs) (o ∷ os) h =
    let r = and_parts (not (spent o)) (no_one spent os) h in
    ap (λ (t : Bool). cond t (refreshed b o ∷ refresh bs os) (refresh bs os)) (not-true (spent o) r.0) ∙ refresh_none bs os r.1

stays_all : (os : List RestingOrder) → no_one spent os ≡ true → filter stays os ≡ filter (λ (o : RestingOrder). ltb 0 (volume_of o)) os
stays_all [] h = refl
stays_all (o ∷ os) h = go (spent o) (not-true (spent o) r.0) (ltb 0 (volume_of o)) (stays_all os r.1)
  where
    r : (not (spent o) ≡ true) × (no_one spent os ≡ true)
    r = and_parts (not (spent o)) (no_one spent os) h

    go : (x : Bool) → x ≡ false → (c : Bool) → filter stays os ≡ filter (λ (o : RestingOrder). ltb 0 (volume_of o)) os
        → cond (c && not x) (o ∷ filter stays os) (filter stays os) ≡ cond c (o ∷ filter (λ (o : RestingOrder). ltb 0 (volume_of o)) os) (filter (λ (o : RestingOrder). ltb 0 (volume_of o)) os)
    go x e true k = ap (λ (t : Bool). cond (not t) (o ∷ filter stays os) (filter stays os)) e ∙ ap (λ z. o ∷ z) k
    go x e false k = k

-- then only used-up orders go
pub tidied_plain : (bs os : List RestingOrder) → no_one spent os ≡ true → tidied bs os ≡ filter (λ (o : RestingOrder). ltb 0 (volume_of o)) os
unfolding tidied
tidied_plain bs os h = ap (λ z. filter stays os ++ z) (refresh_none bs os h) ∙ append-nil (filter stays os) ∙ stays_all os h
