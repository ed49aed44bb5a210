-- Where a record stands in the time sequence.
use Rattle.std.proofs.Common.{◌≡◌, ℕ, zero, suc, ◌+◌, ◌<◌, ◌≤◌, true, cond, ltb, List, [], ◌∷◌, length, get_or, set, Some, None, sym, refl, ap, ◌∙◌, subst, inl, inr, arith}
use Rattle.std.proofs.lemmas.Bool.Decides.{nat_tests}
use Rattle.table.specs.declared.records.OrderRecord.{OrderRecord}
use Rattle.table.specs.Sequence.{Orders, blank_record, rests_at, record_at, in_sequence, earlier, rank, Distinct}
use Rattle.table.proofs.Turns.{Each, Climbs, On, one, one_yes, before, earlier_none, each_weaker, climbs, earlier_sequence, each_live, live_from, on_sequence, at_first, at_later}

pub one_le : (r : OrderRecord) (t : ℕ) → one r t ≤ 1
one_le r t = grind (arith, nat_tests)

one_mono : (r : OrderRecord) (t u : ℕ) → t ≤ u → one r t ≤ one r u
one_mono r t u h = grind (arith, nat_tests)

one_self : (r : OrderRecord) (u : ℕ) → r.time < u → one r r.time < one r u
one_self r u h = grind (arith, nat_tests)

pub earlier_le : (os : Orders) (t : ℕ) → earlier os t ≤ length os
earlier_le [] t = omega arith
earlier_le (None ∷ os) t = let b = earlier_le os t in omega arith
earlier_le (Some r ∷ os) t = let a = one_le r t in let b = earlier_le os t in omega arith

pub earlier_mono : (os : Orders) (t u : ℕ) → t ≤ u → earlier os t ≤ earlier os u
earlier_mono [] t u h = omega arith
earlier_mono (None ∷ os) t u h = earlier_mono os t u h
earlier_mono (Some r ∷ os) t u h = let a = one_mono r t u h in let b = earlier_mono os t u h in omega arith

-- a record is earlier than every later timestamp, and not than its own
pub earlier_strict : (os : Orders) (i u : ℕ) → i < length os → rests_at os i ≡ true → (record_at os i).time < u → rank os i < earlier os u
earlier_strict [] i u within on lt = absurd (omega arith)
earlier_strict (None ∷ os) zero u within on lt = cc
earlier_strict (Some r ∷ os) zero u within on lt = let a = one_self r u lt in let b = earlier_mono os r.time u (omega arith) in omega arith
earlier_strict (None ∷ os) (suc i) u within on lt = earlier_strict os i u (omega arith) on lt
earlier_strict (Some r ∷ os) (suc i) u within on lt =
    let a = one_mono r (record_at os i).time u (omega arith) in
    let b = earlier_strict os i u (omega arith) on lt in
    omega arith

-- Of two records the one with the lesser timestamp stands first.
pub rank_later : (os : Orders) (i j : ℕ) → (record_at os i).time ≤ (record_at os j).time → rank os i ≤ rank os j
rank_later os i j = earlier_mono os (record_at os i).time (record_at os j).time

pub rank_first : (os : Orders) (i j : ℕ) → i < length os → rests_at os i ≡ true → (record_at os i).time < (record_at os j).time → rank os i < rank os j
rank_first os i j = earlier_strict os i (record_at os j).time

-- the record that stands at the place k of a list
abbrev pub standing : List OrderRecord → ℕ → OrderRecord
standing l k = get_or l k blank_record

each_at : (P : OrderRecord → Type 0) (l : List OrderRecord) (k : ℕ) → Each P l → k < length l → P (standing l k)
each_at P [] k h lt = absurd (omega arith)
each_at P (x ∷ l) zero h lt = h.0
each_at P (x ∷ l) (suc k) h lt = each_at P l k h.1 (omega arith)

-- The place of a record of a climbing list is the count of the earlier ones, ..
at_count : (l : List OrderRecord) (k : ℕ) → Climbs l → k < length l → before l (standing l k).time ≡ k
at_count [] k up lt = absurd (omega arith)
at_count (x ∷ l) zero up lt = at_first x l x.time refl up.0
at_count (x ∷ l) (suc k) up lt = at_later x l (standing l k).time (each_at (λ y. x.time < y.time) l k up.0 (omega arith)) ∙ ap suc (at_count l k up.1 (omega arith))

-- .. and right behind it there is one more.
count_next : (l : List OrderRecord) (k : ℕ) → Climbs l → k < length l → before l ((standing l k).time + 1) ≡ k + 1
count_next [] k up lt = absurd (omega arith)
count_next (x ∷ l) zero up lt =
    let a = one_yes x (x.time + 1) (omega arith) in
    let b = earlier_none l (x.time + 1) (each_weaker (λ y. x.time < y.time) (λ y. x.time + 1 ≤ y.time) (λ y h. omega arith) l up.0) in
    omega arith
count_next (x ∷ l) (suc k) up lt =
    let a = each_at (λ y. x.time < y.time) l k up.0 (omega arith) in
    let b = one_yes x ((standing l k).time + 1) (omega arith) in
    let c = count_next l k up.1 (omega arith) in
    omega arith

on_place : (l : List OrderRecord) (y : OrderRecord) → On y l → (k : ℕ) × (k < length l) × (standing l k ≡ y)
on_place [] y m = absurd m
on_place (x ∷ l) y (inl e) = (0, omega arith, sym e)
on_place (x ∷ l) y (inr n) = let p = on_place l y n in (suc p.0, omega (arith, p.1), p.2)

module _ (os : Orders) (apart : Distinct os) where
  -- The record at the place i stands at its rank in the sequence.
  pub at_rank : (i : ℕ) → i < length os → rests_at os i ≡ true → (rank os i < length (in_sequence os)) × (standing (in_sequence os) (rank os i) ≡ record_at os i)
  at_rank i within on =
      let s = in_sequence os in
      let p = on_place s (record_at os i) (on_sequence os i within on) in
      let is : p.0 ≡ rank os i = sym (at_count s p.0 (climbs os apart) p.1) ∙ earlier_sequence os (standing s p.0).time ∙ ap (λ (x : OrderRecord). earlier os x.time) p.2 in
      (subst (λ k. k < length s) is p.1, subst (λ k. standing s k ≡ record_at os i) is p.2)

  -- Right behind a record the count of the earlier ones is one more.
  pub earlier_next : (i : ℕ) → i < length os → rests_at os i ≡ true → earlier os ((record_at os i).time + 1) ≡ rank os i + 1
  earlier_next i within on =
      let s = in_sequence os in
      let p = at_rank i within on in
      sym (earlier_sequence os ((record_at os i).time + 1))
      ∙ ap (λ (x : OrderRecord). before s (x.time + 1)) (sym p.1)
      ∙ count_next s (rank os i) (climbs os apart) p.0

  -- x is the record at some place
  abbrev Held : OrderRecord → Type 0
  Held x = (i : ℕ) × (i < length os) × (rests_at os i ≡ true) × (record_at os i ≡ x)

  -- Every record of the sequence is one of the table, at whose rank it stands.
  pub from_rank : (k : ℕ) → k < length (in_sequence os) → (i : ℕ) × (i < length os) × (rests_at os i ≡ true) × (record_at os i ≡ standing (in_sequence os) k) × (rank os i ≡ k)
  from_rank k lt =
      let s = in_sequence os in
      let all = each_live Held os (live_from Held os (λ i within on. (i, within, on, refl))) in
      let p = each_at Held s k all lt in
      (p.0, p.1, p.2, p.3, ap (λ (x : OrderRecord). earlier os x.time) p.3 ∙ sym (earlier_sequence os (standing s k).time) ∙ at_count s k (climbs os apart) lt)

  -- One rank is one place.
  pub same_rank : (i j : ℕ) → i < length os → j < length os → rests_at os i ≡ true → rests_at os j ≡ true → rank os i ≡ rank os j → i ≡ j
  same_rank i j wi wj oi oj e =
      let s = in_sequence os in
      let a = at_rank i wi oi in
      let b = at_rank j wj oj in
      apart i j wi wj oi oj (ap (λ (x : OrderRecord). x.time) (sym a.1 ∙ ap (standing s) e ∙ b.1))

-- A record changed in place, with its timestamp, leaves every count as it was.
pub earlier_same : (os : Orders) (i : ℕ) (o : OrderRecord) (t : ℕ) → rests_at os i ≡ true → o.time ≡ (record_at os i).time → earlier (set os i (Some o)) t ≡ earlier os t
earlier_same [] i o t on same = refl
earlier_same (None ∷ os) zero o t on same = cc
earlier_same (Some r ∷ os) zero o t on same = ap (λ u. cond (ltb u t) 1 0 + earlier os t) same
earlier_same (None ∷ os) (suc i) o t on same = earlier_same os i o t on same
earlier_same (Some r ∷ os) (suc i) o t on same = ap (λ k. one r t + k) (earlier_same os i o t on same)
