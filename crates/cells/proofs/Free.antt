-- Cells with nothing in them.
use Rattle.std.proofs.Common.{◌≡◌, ℕ, zero, suc, Bool, None, refl}
use Rattle.std.specs.Prelude.{replicate}
use Rattle.cells.specs.Cells.{lookup, taken, at, Sound}

module _ (K V : Type 0) where
  pub free_at : (n i : ℕ) → at {K = K} {V = V} (replicate n None) i ≡ None
  free_at zero i = refl
  free_at (suc n) zero = refl
  free_at (suc n) (suc i) = free_at n i

  pub free_sound : (number : K → ℕ) (n : ℕ) → Sound {K = K} {V = V} number (replicate n None)
  free_sound number n = record {
    once = λ i j q v w g h. let f = free_at n i in absurd (cc);
    reached = λ i j q v g l s p h. let f = free_at n i in cc;
  }

  pub free_lookup : (e : K → K → Bool) (n : ℕ) (q : K) → lookup {K = K} {V = V} e (replicate n None) q ≡ None
  free_lookup e zero q = refl
  free_lookup e (suc n) q = free_lookup e n q

  pub free_taken : (n : ℕ) → taken {K = K} {V = V} (replicate n None) ≡ 0
  free_taken zero = refl
  free_taken (suc n) = free_taken n
