-- A loop over the places from h on, round the end of n.
use Rattle.std.proofs.Common.{◌≡◌, ℕ, ◌-◌, ◌<◌, false, List, ◌++◌, length, Option, Some, None, get_or, refl, arith, length-append}
use Rattle.std.specs.List.{range_with_len}
use Rattle.std.specs.Iterator.{Yields}
use Rattle.std.specs.Iterator.Adapters.{chain_steps}
use Rattle.std.proofs.iter.Yields.{nat_range_steps}
use Rattle.std.specs.declared.iter.Chain.{Chain}
use Rattle.std.specs.declared.ops.Range.{Range}
use Rattle.std.proofs.lemmas.Bool.Decides.{nat_tests}
use Rattle.std.proofs.lemmas.Iterator.{YieldsList, YieldsList-from_range}
use Rattle.std.proofs.lemmas.Iterator.Consumers.{YieldsList-from_chain, YieldsList-turn, YieldsList-end}
use Rattle.std.proofs.lemmas.List.{get_or_append_left, get_or-append_right}
use Rattle.std.proofs.lemmas.List.FromFn.{get_or-range_with_len, length-range_with_len}
use Rattle.cells.specs.Cells.{gap}

ring : ℕ → ℕ → List ℕ
ring n h = range_with_len h (n - h) ++ range_with_len 0 h

module _ (n h : ℕ) (low : h < n) where
  length_ring : length (ring n h) ≡ n
  unfolding ring
  length_ring = simp (length-append, length-range_with_len) (omega arith)

  ring_at : (i p : ℕ) → i < n → p ≡ get_or (ring n h) i p → (p < n) × (gap n h p ≡ i)
  unfolding ring
  ring_at i p l is = grind (arith, nat_tests, get_or_append_left, get_or-append_right, get_or-range_with_len, length-range_with_len)

  module _ (s : Chain (Range ℕ) (Range ℕ)) (a : s.a ≡ record { start = h; end = n }) (b : s.b ≡ record { start = 0; end = h }) (on : s.a_done ≡ false) (also : s.b_done ≡ false)
      (xs : List ℕ) (t : Chain (Range ℕ) (Range ℕ)) (y : Yields (chain_steps nat_range_steps nat_range_steps) s xs t) (r : Option ℕ) (u : Chain (Range ℕ) (Range ℕ)) (step : chain_steps nat_range_steps nat_range_steps t r u) where
    road : YieldsList (chain_steps nat_range_steps nat_range_steps) (λ x. x) s (ring n h)
    unfolding ring
    road = YieldsList-from_chain (YieldsList-from_range h n (n - h) a refl) (YieldsList-from_range 0 h h b (omega arith)) on also

    -- the next place is as far from h as places came before it
    pub ring_turn : (p : ℕ) → r ≡ Some p → (p < n) × (gap n h p ≡ length xs)
    ring_turn p is =
        let turn = YieldsList-turn road xs t y r u p is step in
        ring_at (length xs) p (omega (arith, length_ring, turn.0)) turn.1

    -- at the end every place came
    pub ring_end : r ≡ None → length xs ≡ n
    ring_end is = omega (arith, length_ring, (YieldsList-end road xs t y r u is step).1)
