-- Six letters, one by one and as a list.
use Rattle.std.proofs.Common.{◌≡◌, Bool, true, false, ◌&&◌, ℕ, List, [], ◌∷◌, length, arith, refl, ap}
use Rattle.std.specs.List.{list_all}
use Rattle.checks.specs.Values.{is_letter, are_letters}

and-true : (b : Bool) → (b && true) ≡ b
and-true true = refl
and-true false = refl

pub are_letters-all : (cs : List ℕ) → length cs ≡ 6 → list_all is_letter cs ≡ are_letters cs
are_letters-all (a ∷ b ∷ c ∷ d ∷ e ∷ f ∷ []) h =
    ap (λ x. is_letter a && (is_letter b && (is_letter c && (is_letter d && (is_letter e && x))))) (and-true (is_letter f))
are_letters-all [] h = absurd (omega (arith, h))
are_letters-all (a ∷ []) h = absurd (omega (arith, h))
are_letters-all (a ∷ b ∷ []) h = absurd (omega (arith, h))
are_letters-all (a ∷ b ∷ c ∷ []) h = absurd (omega (arith, h))
are_letters-all (a ∷ b ∷ c ∷ d ∷ []) h = absurd (omega (arith, h))
are_letters-all (a ∷ b ∷ c ∷ d ∷ e ∷ []) h = absurd (omega (arith, h))
are_letters-all (a ∷ b ∷ c ∷ d ∷ e ∷ f ∷ g ∷ xs) h = absurd (omega (arith, h))
