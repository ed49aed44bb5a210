-- Laws of `patched`.
use Rattle.std.proofs.Common.{◌≡◌, ℕ, ◌+◌, ◌<◌, List, [], ◌∷◌, ◌++◌, length, get_or, None, Option, take, set, sym, refl, ap, ◌∙◌, subst, ⊎_elim, get_or-set_other, get_or-set_same, set-set}
use Rattle.std.proofs.lemmas.List.{set_comm, set-get_or}
use Rattle.std.proofs.lemmas.Bool.{cases_eq}
use Rattle.std.proofs.lemmas.List.{take_more}
use Rattle.table.specs.declared.records.OrderRecord.{OrderRecord}
use Rattle.table.specs.Sequence.{Orders, place_at}
use Rattle.table.specs.Noting.{patched}

pub patched_push : (a c : Orders) (js : List ℕ) (j : ℕ) → patched a c (js ++ (j ∷ [])) ≡ set (patched a c js) j (place_at c j)
patched_push a c [] j = refl
patched_push a c (k ∷ js) j = patched_push (set a k (place_at c k)) c js j

-- one step of a loop over the places
pub patched_more : (a c : Orders) (ps : List ℕ) (i : ℕ) → i < length ps
    → patched a c (take (i + 1) ps) ≡ set (patched a c (take i ps)) (get_or ps i 0) (place_at c (get_or ps i 0))
patched_more a c ps i h = ap (patched a c) (take_more ps i 0 h) ∙ patched_push a c (take i ps) (get_or ps i 0)

-- lists that differ at i at most, written to at k
swapped : (a b : Orders) (i k : ℕ) (v w : Option OrderRecord) → set a i v ≡ set b i v → set (set a k w) i v ≡ set (set b k w) i v
swapped a b i k v w e =
    ⊎_elim
    (λ s. subst (λ m. set (set a m w) i v ≡ set (set b m w) i v) (sym s) (set-set a i w v ∙ e ∙ sym (set-set b i w v)))
    (λ d. set_comm a k i w v d ∙ ap (λ l. set l k w) e ∙ sym (set_comm b k i w v d))
    (cases_eq k i)

-- patched alike, they differ at i at most
alike : (a b c : Orders) (js : List ℕ) (i : ℕ) (v : Option OrderRecord) → set a i v ≡ set b i v
    → set (patched a c js) i v ≡ set (patched b c js) i v
alike a b c [] i v e = e
alike a b c (k ∷ js) i v e = alike (set a k (place_at c k)) (set b k (place_at c k)) c js i v (swapped a b i k v (place_at c k) e)

-- and so where the list that they are patched from is written to at i
from_other : (a c : Orders) (js : List ℕ) (i : ℕ) (v : Option OrderRecord) → i < length c
    → set (patched a (set c i v) js) i v ≡ set (patched a c js) i v
from_other a c [] i v h = refl
from_other a c (k ∷ js) i v h =
    from_other (set a k (place_at (set c i v) k)) c js i v h
    ∙ alike (set a k (place_at (set c i v) k)) (set a k (place_at c k)) c js i v
    (⊎_elim
    (λ s. subst (λ m. set (set a m (place_at (set c i v) m)) i v ≡ set (set a m (place_at c m)) i v) (sym s)
    (set-set a i (place_at (set c i v) i) v ∙ sym (set-set a i (place_at c i) v)))
    (λ d. ap (λ x. set (set a k x) i v) (get_or-set_other c i k v None d))
    (cases_eq k i))

-- A write to the table at i that is noted: the spare patched is the table, ..
pub noted_ahead : (s t : Orders) (js : List ℕ) (i : ℕ) (v : Option OrderRecord) → i < length t
    → patched s t js ≡ t → patched s (set t i v) (js ++ (i ∷ [])) ≡ set t i v
noted_ahead s t js i v h e =
    patched_push s (set t i v) js i
    ∙ ap (set (patched s (set t i v) js) i) (get_or-set_same t i v None h)
    ∙ from_other s t js i v h
    ∙ ap (λ l. set l i v) e

-- .. and the table patched is the spare.
pub noted_back : (s t : Orders) (js : List ℕ) (i : ℕ) (v : Option OrderRecord)
    → patched t s js ≡ s → patched (set t i v) s (js ++ (i ∷ [])) ≡ s
noted_back s t js i v e =
    patched_push (set t i v) s js i
    ∙ alike (set t i v) t s js i (place_at s i) (set-set t i v (place_at s i))
    ∙ ap (λ l. set l i (place_at s i)) e
    ∙ set-get_or s i None
