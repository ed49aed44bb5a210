-- The least timestamp from a given one on is that of the first order from there on the time list.
use Rattle.std.proofs.Common.{◌≡◌, ℕ, ◌<◌, ◌≤◌, true, List, [], ◌∷◌, length, Some, None, IfSome, IfNone, Option, MatchOption, IsSomeAnd, sym, refl, ◌∙◌, subst, ⊎_elim, arith}
use Rattle.std.proofs.lemmas.Bool.{cases_lt, both_ways}
use Rattle.table.specs.declared.records.OrderRecord.{OrderRecord}
use Rattle.table.specs.declared.ends.Ends.{Ends}
use Rattle.table.specs.Sequence.{Orders, rests_at, record_at, in_sequence, earlier}
use Rattle.table.specs.Places.{Sound}
use Rattle.table.specs.Walking.{Leads, FirstFrom}
use Rattle.table.proofs.Turns.{Each, Live, before, one, one_yes, one_no, each_live, live_from, earlier_sequence}
use Rattle.table.proofs.Resting.{resting_length}

-- Of the records at the places below n, the one at a place, with its timestamp, is the earliest from t on; none only where all are earlier.
pub record Least (os : Orders) (t n : ℕ) (first : Option (ℕ × ℕ)) : Type 0 where
  pub found : IfSome first (λ p. (p.0 < length os) × (rests_at os p.0 ≡ true) × ((record_at os p.0).time ≡ p.1) × (t ≤ p.1))
  pub least : IfSome first (λ p. (k : ℕ) → k < n → rests_at os k ≡ true → t ≤ (record_at os k).time → p.1 ≤ (record_at os k).time)
  pub none : IfNone first ((k : ℕ) → k < n → rests_at os k ≡ true → (record_at os k).time < t)

-- Between t and u there is no record.
earlier_gap : (os : Orders) (t u : ℕ) → t ≤ u → Live (λ x. t ≤ x.time → u ≤ x.time) os → earlier os t ≡ earlier os u
earlier_gap [] t u le h = refl
earlier_gap (None ∷ os) t u le h = earlier_gap os t u le h
earlier_gap (Some r ∷ os) t u le h =
    let rest = earlier_gap os t u le h.1 in
    let same : one r t ≡ one r u =
    ⊎_elim (λ lt. one_yes r t lt ∙ sym (one_yes r u (omega (arith, lt)))) (λ ge. one_no r t ge ∙ sym (one_no r u (h.0 ge))) (cases_lt r.time t) in
    omega arith

earlier_all : (l : List OrderRecord) (t : ℕ) → Each (λ x. x.time < t) l → before l t ≡ length l
earlier_all [] t h = refl
earlier_all (x ∷ l) t h = let a = one_yes x t h.0 in let b = earlier_all l t h.1 in omega arith

-- The least one found below the high end is the first from t on.
module _ (os : Orders) (e : Ends) (t : ℕ) (s : Sound os e) where
  below_high : (k : ℕ) → rests_at os k ≡ true → k < e.high
  below_high k on = ⊎_elim (λ lt. lt) (λ ge. absurd (both_ways (rests_at os k) (s.above k ge) on)) (cases_lt k e.high)

  pub first_found : (first : Option (ℕ × ℕ)) (result : Option ℕ) → MatchOption first (result ≡ None) (λ p. IsSomeAnd result (λ i. i ≡ p.0)) → Least os t e.high first → FirstFrom os t result
  first_found None r is h =
      subst (FirstFrom os t) (sym is)
      (sym (earlier_sequence os t)
      ∙ earlier_all (in_sequence os) t (each_live (λ x. x.time < t) os (live_from (λ x. x.time < t) os (λ k within on. h.none k (below_high k on) on)))
      ∙ sym (resting_length os))
  first_found (Some p) None is h = absurd is
  first_found (Some p) (Some i) is h =
      let held : Leads os t p.0
      = record {
        within = h.found.0;
        rests = h.found.1;
        first = sym (earlier_gap os t (record_at os p.0).time (omega (arith, h.found)) (live_from (λ x. t ≤ x.time → (record_at os p.0).time ≤ x.time) os (λ k within on le. omega (arith, h.found, h.least k (below_high k on) on le))));
      } in
      subst (Leads os t) (sym is) held
