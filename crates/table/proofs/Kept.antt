-- A write at one place keeps the timestamps apart and below the next one.
use Rattle.std.proofs.Common.{◌≡◌, ℕ, zero, suc, ◌+◌, ◌<◌, ◌≤◌, true, ◌⊎◌, [], ◌∷◌, length, set, is_some, Some, None, Option, sym, refl, ap, ◌∙◌, subst, inl, inr, ⊎_elim, arith}
use Rattle.std.proofs.lemmas.List.{get_or-set_same, get_or-set_other, length-set}
use Rattle.std.proofs.lemmas.Bool.{cases_eq}
use Rattle.table.specs.declared.records.OrderRecord.{OrderRecord}
use Rattle.table.specs.Sequence.{Orders, place_at, rests_at, held, record_at, rank, earlier, Sequenced}
use Rattle.table.proofs.Ranks.{earlier_same}

-- An order rests only at a place of the table.
pub rests_within : (os : Orders) (i : ℕ) → rests_at os i ≡ true → i < length os
rests_within [] i on = cc
rests_within (x ∷ os) zero on = omega arith
rests_within (x ∷ os) (suc i) on = let rest = rests_within os i on in omega arith

module _ (os : Orders) (i : ℕ) (o : Option OrderRecord) (within : i < length os) where
  -- a fact of each place, from what is written and what was there
  pub places : (P : ℕ → Option OrderRecord → Type 0) → P i o → ((k : ℕ) → (k ≡ i → ⊥) → P k (place_at os k)) → (k : ℕ) → P k (place_at (set os i o) k)
  places P new old k =
      ⊎_elim
      (λ e. subst (λ m. P m (place_at (set os i o) m)) (sym e) (subst (P i) (sym (get_or-set_same os i o None within)) new))
      (λ ne. subst (P k) (sym (get_or-set_other os i k o None ne)) (old k ne))
      (cases_eq k i)

-- Set free: the rest is as it was.
pub sequenced_gone : (os : Orders) (i : ℕ) → i < length os → (next : ℕ) → Sequenced next os → Sequenced next (set os i None)
sequenced_gone os i within next s =
    record {
      distinct = λ j k lj lk uj uk e. s.distinct j k (long j lj) (long k lk) (was j uj) (was k uk) (sym (time j uj) ∙ e ∙ time k uk);
      older = λ k lk uk. omega (arith, s.older k (long k lk) (was k uk), time k uk);
    }
  where
    long : (k : ℕ) → k < length (set os i None) → k < length os
    long k h = omega (arith, length-set os i None, h)

    was : (k : ℕ) → rests_at (set os i None) k ≡ true → rests_at os k ≡ true
    was = places os i None within (λ k x. is_some x ≡ true → rests_at os k ≡ true) (λ u. absurd cc) (λ k _ h. h)

    time : (k : ℕ) → rests_at (set os i None) k ≡ true → (record_at (set os i None) k).time ≡ (record_at os k).time
    time = places os i None within (λ k x. is_some x ≡ true → (held x).time ≡ (record_at os k).time) (λ u. absurd cc) (λ k _ _. refl)

module _ (os : Orders) (i : ℕ) (o : OrderRecord) (within : i < length os) where
  long : (k : ℕ) → k < length (set os i (Some o)) → k < length os
  long k h = omega (arith, length-set os i (Some o), h)

  -- Changed in place: the timestamps and the ranks stay.
  module _ (on : rests_at os i ≡ true) (same : o.time ≡ (record_at os i).time) where
    pub time_before : (k : ℕ) → (record_at (set os i (Some o)) k).time ≡ (record_at os k).time
    time_before = places os i (Some o) within (λ k x. (held x).time ≡ (record_at os k).time) same (λ k _. refl)

    pub sequenced_same : (next : ℕ) → Sequenced next os → Sequenced next (set os i (Some o))
    sequenced_same next s =
        record {
          distinct = λ j k lj lk uj uk e. s.distinct j k (long j lj) (long k lk) (was j uj) (was k uk) (sym (time_before j) ∙ e ∙ time_before k);
          older = λ k lk uk. omega (arith, s.older k (long k lk) (was k uk), time_before k);
        }
      where
        was : (k : ℕ) → rests_at (set os i (Some o)) k ≡ true → rests_at os k ≡ true
        was = places os i (Some o) within (λ k x. is_some x ≡ true → rests_at os k ≡ true) (λ _. on) (λ k _ h. h)

    pub rank_same : (k : ℕ) → rank (set os i (Some o)) k ≡ rank os k
    rank_same k = earlier_same os i o (record_at (set os i (Some o)) k).time on same ∙ ap (earlier os) (time_before k)

  -- Entered, or moved to the end, with the next timestamp.
  module _ (next : ℕ) (last : o.time ≡ next) (s : Sequenced next os) where
    -- each place holds the new record, or an older one
    which : (k : ℕ) → k < length os → rests_at (set os i (Some o)) k ≡ true → ((k ≡ i) × ((record_at (set os i (Some o)) k).time ≡ next)) ⊎ ((k ≡ i → ⊥) × ((record_at (set os i (Some o)) k).time < next))
    which = places os i (Some o) within (λ k x. k < length os → is_some x ≡ true → ((k ≡ i) × ((held x).time ≡ next)) ⊎ ((k ≡ i → ⊥) × ((held x).time < next))) (λ lt u. inl (refl, last)) (λ k ne lt u. inr (ne, s.older k lt u))

    same_as : (k : ℕ) → (k ≡ i → ⊥) → place_at (set os i (Some o)) k ≡ place_at os k
    same_as k ne = get_or-set_other os i k (Some o) None ne

    pub sequenced_new : Sequenced (next + 1) (set os i (Some o))
    sequenced_new =
        record {
          older = λ k lk uk. ⊎_elim (λ p. omega (arith, p.1)) (λ p. omega (arith, p.1)) (which k (long k lk) uk);
          distinct = λ j k lj lk uj uk e.
              ⊎_elim
              (λ p. ⊎_elim (λ q. p.0 ∙ sym q.0) (λ q. absurd (omega (arith, p.1, q.1, e))) (which k (long k lk) uk))
              (λ p. ⊎_elim
              (λ q. absurd (omega (arith, q.1, p.1, e)))
              (λ q. s.distinct j k (long j lj) (long k lk) (subst (λ x. is_some x ≡ true) (same_as j p.0) uj) (subst (λ x. is_some x ≡ true) (same_as k q.0) uk) (sym (ap (λ x. (held x).time) (same_as j p.0)) ∙ e ∙ ap (λ x. (held x).time) (same_as k q.0)))
              (which k (long k lk) uk))
              (which j (long j lj) uj);
        }

-- A later next timestamp does as well.
pub sequenced_later : (os : Orders) (next more : ℕ) → next ≤ more → Sequenced next os → Sequenced more os
sequenced_later os next more le s = record { distinct = s.distinct; older = λ k lk uk. omega (arith, s.older k lk uk) }
