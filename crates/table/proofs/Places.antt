-- The ends of a table after a place is taken or set free.
use Rattle.std.proofs.Common.{◌≡◌, ℕ, zero, suc, ◌+◌, ◌-◌, ◌<◌, ◌≤◌, true, false, ltb, ◌⊎◌, List, [], ◌∷◌, length, take, drop, set, is_some, Some, None, Option, sym, refl, ap, ◌∙◌, subst, inl, inr, ⊎_elim, arith, get_or-drop, length-drop, length-set}
use Rattle.std.proofs.lemmas.Bool.{lt-ltb, le-ltb, cases_lt, both_ways, cond_both}
use Rattle.std.proofs.lemmas.List.{take_all}
use Rattle.table.specs.declared.records.OrderRecord.{OrderRecord}
use Rattle.table.specs.declared.ends.Ends.{Ends}
use Rattle.table.specs.Sequence.{Orders, place_at, rests_at, record_at, in_turn, in_sequence, resting_of, Sequenced}
use Rattle.table.specs.Places.{Sound, First, Found}
use Rattle.table.proofs.Kept.{places, sequenced_same, sequenced_gone, sequenced_new}
use Rattle.table.proofs.Resting.{resting_length}

-- As many orders rest as places are in use.

length_turn : (r : OrderRecord) (l : List OrderRecord) → length (in_turn r l) ≡ suc (length l)
length_turn r [] = refl
length_turn r (x ∷ l) = cond_both (ltb r.time x.time) (r ∷ x ∷ l) (x ∷ in_turn r l) (λ m. length m ≡ suc (suc (length l))) (λ e. refl) (λ e. ap suc (length_turn r l))

pub length_le : (os : Orders) → length (in_sequence os) ≤ length os
unfolding in_sequence
length_le [] = omega arith
length_le (None ∷ os) = let rest = length_le os in omega arith
length_le (Some o ∷ os) = let rest = length_le os in rw (length_turn o (in_sequence os)) (omega arith)

length_full : (os : Orders) → ((k : ℕ) → k < length os → rests_at os k ≡ true) → length os ≤ length (in_sequence os)
unfolding in_sequence
length_full [] h = omega arith
length_full (None ∷ os) h = let here = h 0 (omega arith) in cc
length_full (Some o ∷ os) h =
    let rest = length_full os (λ k lt. h (suc k) (omega arith)) in
    rw (length_turn o (in_sequence os)) (omega arith)

length_free : (os : Orders) (i : ℕ) → i < length os → rests_at os i ≡ false → length (in_sequence os) < length os
unfolding in_sequence
length_free [] i lt free = absurd (omega arith)
length_free (None ∷ os) zero lt free = let rest = length_le os in omega arith
length_free (Some o ∷ os) zero lt free = cc
length_free (None ∷ os) (suc i) lt free = let rest = length_le os in omega arith
length_free (Some o ∷ os) (suc i) lt free =
    let rest = length_free os i (omega arith) free in
    rw (length_turn o (in_sequence os)) (omega arith)

-- A free place is found exactly where fewer orders rest than there are places.
pub room : (os : Orders) (r : Option ℕ) → Found os r → is_some r ≡ ltb (length (resting_of os)) (length os)
room os (Some i) f = sym (lt-ltb _ _ (rw (resting_length os) (length_free os i f.within f.free)))
room os None f = sym (le-ltb _ _ (rw (resting_length os) (length_full os f)))

-- The places from low on, where all below are in use.
module _ (os : Orders) (low : ℕ) (below : (k : ℕ) → k < low → rests_at os k ≡ true) where
  abbrev upper : Orders
  upper = take (length os - low) (drop low os)

  upper_is : upper ≡ drop low os
  upper_is = take_all (length os - low) (drop low os) (simp length-drop (omega arith))

  upper_at : (k : ℕ) → place_at upper k ≡ place_at os (low + k)
  upper_at k = ap (λ l. place_at l k) upper_is ∙ get_or-drop low os k None

  -- .. are in use up to n, as those below are.
  upto : (n : ℕ) → ((k : ℕ) → k < n → rests_at upper k ≡ true) → (k : ℕ) → k < low + n → rests_at os k ≡ true
  upto n used k lt =
      ⊎_elim (below k)
      (λ ge.
      let there : low + (k - low) ≡ k = omega arith in
      subst (λ m. rests_at os m ≡ true) there (ap is_some (sym (upper_at (k - low))) ∙ used (k - low) (omega arith)))
      (cases_lt k low)

  pub found_some : (i : ℕ) → (i < length upper) × (rests_at upper i ≡ false) → ((k : ℕ) → k < i → rests_at upper k ≡ true) → First os (low + i)
  found_some i free before =
      record {
        within = omega (arith, free.0, ap length upper_is, length-drop low os);
        free = ap is_some (sym (upper_at i)) ∙ free.1;
        before = upto i before;
      }

  pub found_none : ((k : ℕ) → k < length upper → rests_at upper k ≡ true) → Found os None
  found_none used k within = upto (length os - low) (λ m lt. used m (omega (arith, ap length upper_is, length-drop low os))) k (omega arith)

module _ (os : Orders) (e : Ends) (s : Sound os e) (i : ℕ) where
  -- An order entered at the first free place.
  pub sound_entered : (o : OrderRecord) (r : ℕ) → First os i → o.time ≡ e.next
      → e.high ≤ r → i + 1 ≤ r → ((n : ℕ) → e.high ≤ n → i + 1 ≤ n → r ≤ n)
      → Sound (set os i (Some o)) (record { low = i + 1; high = r; next = e.next + 1 })
  sound_entered o r f last le lt least =
      let here = f.within in
      let there = places os i (Some o) here in
      record {
        small = rw (length-set os i (Some o)) s.small;
        order = lt;
        inside = rw (length-set os i (Some o)) (least (length os) s.inside (omega arith));
        below = λ k h. there (λ m x. m < i + 1 → is_some x ≡ true) (λ _. refl) (λ m ne less. f.before m (omega (arith, ne))) k h;
        above = λ k h. there (λ m x. r ≤ m → is_some x ≡ false) (λ far. absurd (never far)) (λ m ne far. s.above m (omega arith)) k h;
        tight = λ k h. there (λ m x. m + 1 ≡ r → is_some x ≡ true) (λ _. refl) (λ m ne last. s.tight m (top m ne last)) k h;
        sequenced = sequenced_new os i o here e.next last s.sequenced;
      }
    where
      top : (m : ℕ) → (m ≡ i → ⊥) → m + 1 ≡ r → m + 1 ≡ e.high
      top m ne last = ⊎_elim (λ same. last ∙ same) (λ same. absurd (ne (omega (arith, same)))) which
        where
          which : (r ≡ e.high) ⊎ (r ≡ i + 1)
          which = ⊎_elim (λ lt'. inr (omega (arith, lt', least (i + 1) (omega arith) (omega arith)))) (λ ge. inl (omega (arith, least e.high (omega arith) ge))) (cases_lt e.high (i + 1))

      never : r ≤ i → ⊥
      never far = omega arith

  module _ (within : i < length os) where
    -- An order that leaves its place.
    pub above_gone : (k : ℕ) → e.high ≤ k → rests_at (set os i None) k ≡ false
    above_gone k h = places os i None within (λ m x. e.high ≤ m → is_some x ≡ false) (λ _. refl) (λ m ne far. s.above m far) k h

    pub sound_gone : (r h : ℕ) → r ≤ e.low → r ≤ i → h ≤ e.high
        → ((k : ℕ) → h ≤ k → rests_at (set os i None) k ≡ false) → ((k : ℕ) → k + 1 ≡ h → rests_at (set os i None) k ≡ true)
        → Sound (set os i None) (record { low = r; high = h; next = e.next })
    sound_gone r h le lt less above tight =
        let upto = s.inside in
        record {
          small = rw (length-set os i None) s.small;
          order = ⊎_elim (λ under. absurd (both_ways (rests_at (set os i None) h) (above h (omega arith)) (below h under))) (λ at. at) (cases_lt h r);
          inside = rw (length-set os i None) (omega arith);
          below = below;
          above = above;
          tight = tight;
          sequenced = sequenced_gone os i within e.next s.sequenced;
        }
      where
        never : i < r → ⊥
        never less = omega arith

        below : (k : ℕ) → k < r → rests_at (set os i None) k ≡ true
        below k h = places os i None within (λ m x. m < r → is_some x ≡ true) (λ less. absurd (never less)) (λ m ne less. s.below m (omega arith)) k h

    -- An order in its own place, with some sequence of timestamps.
    sound_there : (o : OrderRecord) (next : ℕ) → rests_at os i ≡ true → Sequenced next (set os i (Some o)) → Sound (set os i (Some o)) (record { low = e.low; high = e.high; next = next })
    sound_there o next on q =
        record {
          small = rw (length-set os i (Some o)) s.small;
          order = s.order;
          inside = rw (length-set os i (Some o)) s.inside;
          below = λ k h. places os i (Some o) within (λ m x. m < e.low → is_some x ≡ true) (λ _. refl) (λ m ne less. s.below m less) k h;
          above = λ k h. places os i (Some o) within (λ m x. e.high ≤ m → is_some x ≡ false) (λ far. absurd (both_ways (rests_at os i) (s.above i far) on)) (λ m ne far. s.above m far) k h;
          tight = λ k h. places os i (Some o) within (λ m x. m + 1 ≡ e.high → is_some x ≡ true) (λ _. refl) (λ m ne top. s.tight m top) k h;
          sequenced = q;
        }

    -- An order changed in place.
    pub sound_changed : (o : OrderRecord) → rests_at os i ≡ true → o.time ≡ (record_at os i).time → Sound (set os i (Some o)) e
    sound_changed o on same = sound_there o e.next on (sequenced_same os i o within on same e.next s.sequenced)

    -- An order with the next timestamp.
    pub sound_moved : (o : OrderRecord) → rests_at os i ≡ true → o.time ≡ e.next → Sound (set os i (Some o)) (record { low = e.low; high = e.high; next = e.next + 1 })
    sound_moved o on last = sound_there o (e.next + 1) on (sequenced_new os i o within e.next last s.sequenced)
