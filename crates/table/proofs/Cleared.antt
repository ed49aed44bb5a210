-- A table with every place free.
use Rattle.std.proofs.Common.{◌≡◌, ℕ, zero, suc, ◌+◌, ◌<◌, ◌≤◌, false, [], map, None, replicate, refl, ap, arith}
use Rattle.std.proofs.lemmas.Bool.{both_ways}
use Rattle.std.proofs.lemmas.List.{length-replicate}
use Rattle.table.specs.declared.records.OrderRecord.{OrderRecord}
use Rattle.table.specs.Sequence.{Orders, rests_at, in_sequence, resting_of}
use Rattle.table.specs.Places.{Sound}

-- The places of an empty table.
abbrev pub empty : ℕ → Orders
empty n = replicate n None

pub none_rests : (n k : ℕ) → rests_at (empty n) k ≡ false
none_rests zero k = refl
none_rests (suc n) zero = refl
none_rests (suc n) (suc k) = none_rests n k

none_in_sequence : (n : ℕ) → in_sequence (empty n) ≡ []
unfolding in_sequence
none_in_sequence zero = refl
none_in_sequence (suc n) = none_in_sequence n

pub cleared_list : (n : ℕ) → resting_of (empty n) ≡ []
unfolding resting_of
cleared_list n = ap (map (λ (r : OrderRecord). r.resting)) (none_in_sequence n)

pub cleared_sound : (n : ℕ) → n ≤ 65536 → Sound (empty n) (record { low = 0; high = 0; next = 0 })
cleared_sound n small =
    record {
      small = simp length-replicate small;
      order = omega arith;
      inside = omega arith;
      below = λ k h. absurd (never k h);
      above = λ k _. none_rests n k;
      tight = λ k h. absurd (nor k h);
      sequenced = record {
        distinct = λ j k lj lk uj uk e. absurd (both_ways (rests_at (empty n) j) (none_rests n j) uj);
        older = λ k lk uk. absurd (both_ways (rests_at (empty n) k) (none_rests n k) uk);
      };
    }
  where
    never : (k : ℕ) → k < 0 → ⊥
    never k h = omega arith

    nor : (k : ℕ) → k + 1 ≡ 0 → ⊥
    nor k h = omega arith
