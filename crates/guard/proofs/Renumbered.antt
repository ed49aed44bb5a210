-- Ranks keep the sequence of the timestamps, so the time list is the same.
use Rattle.std.proofs.Common.{◌≡◌, ℕ, zero, suc, ◌<◌, true, false, cond, ltb, List, [], ◌∷◌, map, length, Some, None, sym, refl, ap, ◌∙◌, ⊎_elim, arith}
use Rattle.std.specs.Option.{option_map}
use Rattle.std.proofs.lemmas.List.{length-map}
use Rattle.std.proofs.lemmas.Bool.{lt-ltb, le-ltb, cases_lt}
use Rattle.table.specs.declared.records.OrderRecord.{OrderRecord}
use Rattle.table.specs.declared.ends.Ends.{Ends}
use Rattle.table.specs.Sequence.{Orders, rests_at, record_at, in_turn, in_sequence, resting_of, earlier, rank, Sequenced}
use Rattle.table.specs.Places.{Sound}
use Rattle.table.proofs.Turns.{Live, live_from}
use Rattle.table.proofs.Ranks.{earlier_mono, earlier_strict, at_rank}
use Rattle.table.proofs.Places.{length_le}
use Rattle.guard.specs.Renumbering.{ranked, renumbered}

-- a record has a rank below all later timestamps'
abbrev Ahead : Orders → OrderRecord → Type 0
Ahead all o = (t : ℕ) → o.time < t → earlier all o.time < earlier all t

-- the test of two timestamps is the test of their ranks
test_same : (all : Orders) (o x : OrderRecord) → Ahead all o
    → ltb (earlier all o.time) (earlier all x.time) ≡ ltb o.time x.time
test_same all o x a =
    ⊎_elim
    (λ h. lt-ltb _ _ (a x.time h) ∙ sym (lt-ltb _ _ h))
    (λ h. le-ltb _ _ (earlier_mono all x.time o.time h) ∙ sym (le-ltb _ _ h))
    (cases_lt o.time x.time)

turn_map : (all : Orders) (o : OrderRecord) → Ahead all o → (l : List OrderRecord)
    → in_turn (ranked all o) (map (ranked all) l) ≡ map (ranked all) (in_turn o l)
turn_map all o a [] = refl
turn_map all o a (x ∷ xs) =
    let g = ranked all in
    let rest = turn_map all o a xs in
    ap (λ t. cond t (g o ∷ g x ∷ map g xs) (g x ∷ in_turn (g o) (map g xs))) (test_same all o x a)
    ∙ elim (ltb o.time x.time) as (λ t. cond t (g o ∷ g x ∷ map g xs) (g x ∷ in_turn (g o) (map g xs)) ≡ map g (cond t (o ∷ x ∷ xs) (x ∷ in_turn o xs)))
    [ true ↦ refl | false ↦ ap (λ m. g x ∷ m) rest ]

sequence_map : (all os : Orders) → Live (Ahead all) os → in_sequence (map (option_map (ranked all)) os) ≡ map (ranked all) (in_sequence os)
unfolding in_sequence
sequence_map all [] h = refl
sequence_map all (None ∷ os) h = sequence_map all os h
sequence_map all (Some o ∷ os) h = ap (in_turn (ranked all o)) (sequence_map all os h.1) ∙ turn_map all o h.0 (in_sequence os)

same_orders : (all : Orders) (l : List OrderRecord) → map (λ (r : OrderRecord). r.resting) (map (ranked all) l) ≡ map (λ (r : OrderRecord). r.resting) l
same_orders all [] = refl
same_orders all (x ∷ l) = ap (λ m. x.resting ∷ m) (same_orders all l)

module _ (os : Orders) where
  ahead : Live (Ahead os) os
  ahead = live_from (Ahead os) os (λ k within on t lt. earlier_strict os k t within on lt)

  -- The time list is as it was.
  pub same_list : resting_of (renumbered os) ≡ resting_of os
  unfolding resting_of
  same_list = ap (map (λ (r : OrderRecord). r.resting)) (sequence_map os os ahead) ∙ same_orders os (in_sequence os)

  -- At each place rests what rested, but for the timestamp.
  rests_map : (l : Orders) (k : ℕ) → rests_at (map (option_map (ranked os)) l) k ≡ rests_at l k
  rests_map [] k = refl
  rests_map (None ∷ l) zero = refl
  rests_map (Some x ∷ l) zero = refl
  rests_map (x ∷ l) (suc k) = rests_map l k

  time_map : (l : Orders) (k : ℕ) → rests_at l k ≡ true → (record_at (map (option_map (ranked os)) l) k).time ≡ earlier os (record_at l k).time
  time_map [] k on = cc
  time_map (None ∷ l) zero on = cc
  time_map (Some x ∷ l) zero on = refl
  time_map (x ∷ l) (suc k) on = time_map l k on

  -- The timestamps are those below the number of places, and stay apart.
  pub sequenced : (next : ℕ) → Sequenced next os → Sequenced (length os) (renumbered os)
  sequenced next s =
      record {
        distinct = λ j k lj lk uj uk e. same j k (long j lj) (long k lk) (sym (rests_map os j) ∙ uj) (sym (rests_map os k) ∙ uk) (sym (time_map os j (sym (rests_map os j) ∙ uj)) ∙ e ∙ time_map os k (sym (rests_map os k) ∙ uk));
        older = λ k lk uk. let r = at_rank os s.distinct k (long k lk) (sym (rests_map os k) ∙ uk) in omega (arith, r.0, length_le os, time_map os k (sym (rests_map os k) ∙ uk));
      }
    where
      long : (k : ℕ) → k < length (renumbered os) → k < length os
      long k h = omega (arith, h, length-map os (option_map (ranked os)))

      same : (j k : ℕ) → j < length os → k < length os → rests_at os j ≡ true → rests_at os k ≡ true → rank os j ≡ rank os k → j ≡ k
      same j k lj lk uj uk e =
          let t = (record_at os j).time in
          let u = (record_at os k).time in
          let no : t < u → ⊥ = λ lt. apart (earlier_strict os j u lj uj lt) e in
          let nor : u < t → ⊥ = λ lt. apart (earlier_strict os k t lk uk lt) (sym e) in
          s.distinct j k lj lk uj uk (⊎_elim (λ lt. absurd (no lt)) (λ ge. ⊎_elim (λ lt. absurd (nor lt)) (λ le. omega (arith, ge, le)) (cases_lt u t)) (cases_lt t u))
        where
          apart : {a b : ℕ} → a < b → a ≡ b → ⊥
          apart lt e = omega arith

  pub sound : (e : Ends) → Sound os e → Sound (renumbered os) (record { low = e.low; high = e.high; next = length os })
  sound e s =
      let long = length-map os (option_map (ranked os)) in
      record {
        small = omega (arith, s.small);
        order = s.order;
        inside = omega (arith, s.inside);
        below = λ k h. rests_map os k ∙ s.below k h;
        above = λ k h. rests_map os k ∙ s.above k h;
        tight = λ k h. rests_map os k ∙ s.tight k h;
        sequenced = sequenced e.next s.sequenced;
      }
