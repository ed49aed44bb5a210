-- Orders leave the table one after the other, each with its report.
use Rattle.std.proofs.Common.{◌≡◌, ℕ, zero, suc, ◌+◌, ◌<◌, Bool, true, false, not, eqb, List, [], ◌∷◌, ◌++◌, map, length, get_or, take, set, filter, None, sym, refl, ap, ◌∙◌, subst, add-zero, zero-add, arith}
use Rattle.std.specs.List.{remove}
use Rattle.std.proofs.lemmas.List.{take_more, map-append}
use Rattle.std.proofs.lemmas.Simd.{map-map}
use Rattle.std.proofs.lemmas.Bool.{eq-eqb, ne_eqb, cond-true, cond-false}
use Rattle.types.specs.declared.orders.RestingOrder.{RestingOrder}
use Rattle.types.specs.declared.reports.Report.{Report}
use Rattle.runs.specs.Slices.{volume_of}
use Rattle.rules.specs.Accounts.{rests}
use Rattle.rules.specs.Calls.{has_number, cancelled_at_close}
use Rattle.table.specs.declared.records.OrderRecord.{OrderRecord}
use Rattle.table.specs.Sequence.{Orders, blank_record, rests_at, record_at, in_sequence, resting_of, rank, Distinct}
use Rattle.table.proofs.Turns.{On, before, climbs, Climbs, at_first, earlier_sequence, on_sequence, gone}
use Rattle.table.proofs.Kept.{rests_within}
use Rattle.table.proofs.Resting as resting
use Rattle.turns.specs.Turns.{records_at, Turns, AllFreed, Numbered}
use Rattle.turns.proofs.Sorting.{order_of}

-- Every order passes.
abbrev pub every : RestingOrder → Bool
every o = true

pub every_kept : {X : Type 0} (l : List X) → filter (λ _. true) l ≡ l
every_kept [] = refl
every_kept (x ∷ l) = ap (λ m. x ∷ m) (every_kept l)

-- The records at the places are those still in sequence.
abbrev pub Left : Orders → Orders → List ℕ → Type 0
Left start os ps = records_at start ps ≡ in_sequence os

pub one_left : (start os : Orders) (p : ℕ) (ps : List ℕ) → Left start os (p ∷ ps) → rests_at os p ≡ true → Distinct os
    → record_at os p ≡ record_at start p → Left start (set os p None) ps
one_left start os p ps left on apart same = sym (gone os p (rests_within os p on) on apart ∙ (λ j. remove (sym left j) (first j)))
  where
    up : Climbs (records_at start (p ∷ ps))
    up = subst Climbs (sym left) (climbs os apart)

    first : rank os p ≡ 0
    first = sym (earlier_sequence os (record_at os p).time) ∙ ap (λ l. before l (record_at os p).time) (sym left) ∙ at_first (record_at start p) (records_at start ps) (record_at os p).time (ap (λ (r : OrderRecord). r.time) (sym same)) up.0

pub no_orders : (os : Orders) → [] ≡ in_sequence os → resting_of os ≡ []
unfolding resting_of
no_orders os e = ap (map order_of) (sym e)

pub all_freed : (os : Orders) → [] ≡ in_sequence os → AllFreed os
all_freed os e k = go (rests_at os k) refl
  where
    go : (b : Bool) → rests_at os k ≡ b → rests_at os k ≡ false
    go true on = absurd (subst (On (record_at os k)) (sym e) (on_sequence os k (rests_within os k on) on))
    go false out = out

-- The report of the order at a place.
abbrev pub close_report : Orders → ℕ → Report
close_report os p = cancelled_at_close (record_at os p).resting

pub one_report : (os : Orders) (ps : List ℕ) (k : ℕ) → k < length ps → map (close_report os) (take k ps) ++ (close_report os (get_or ps k 0) ∷ []) ≡ map (close_report os) (take (k + 1) ps)
one_report os ps k lt = sym (ap (map (close_report os)) (take_more ps k 0 lt) ∙ map-append (close_report os) (take k ps) (get_or ps k 0 ∷ []))

pub all_reports : (os : Orders) (ps : List ℕ) → Turns every os ps → map (close_report os) ps ≡ map cancelled_at_close (resting_of os)
all_reports os ps t = sym (map-map cancelled_at_close (λ p. (record_at os p).resting) ps) ∙ ap (map cancelled_at_close) (t.orders ∙ every_kept (resting_of os))

-- The one order of a number.

abbrev number_at : List RestingOrder → ℕ → RestingOrder → ℕ
number_at l k d = (get_or l k d).order.number.number

module _ (n : ℕ) (d : RestingOrder) where
  none_of : (l : List RestingOrder) → ((j : ℕ) → j < length l → n ≡ number_at l j d → ⊥) → (l ≡ filter (λ o. not (has_number n o)) l) × (rests n l ≡ 0)
  unfolding rests
  none_of [] h = (refl, refl)
  none_of (x ∷ l) h =
      let rest = none_of l (λ j lt. h (suc j) (omega arith)) in
      let out : eqb n x.order.number.number ≡ false = ne_eqb n x.order.number.number (h 0 (omega arith)) in (
        ap (λ m. x ∷ m) rest.0 ∙ sym (cond-true _ _ _ (ap not out)),
        (λ j. cond-false _ (volume_of x) 0 out j + rest.1 j),
      )

  pub one_of : (l : List RestingOrder) (k : ℕ) → k < length l → n ≡ number_at l k d → ((j : ℕ) → j < length l → (j ≡ k → ⊥) → n ≡ number_at l j d → ⊥)
      → (remove l k ≡ filter (λ o. not (has_number n o)) l) × (rests n l ≡ volume_of (get_or l k d))
  unfolding rests
  one_of [] k lt e h = absurd (omega arith)
  one_of (x ∷ l) zero lt e h =
      let rest = none_of l (λ j less. h (suc j) (omega arith) (λ z. omega arith)) in
      let is : eqb n x.order.number.number ≡ true = eq-eqb n x.order.number.number e in (
        rest.0 ∙ sym (cond-false _ _ _ (ap not is)),
        (λ j. cond-true _ (volume_of x) 0 is j + rest.1 j) ∙ add-zero (volume_of x),
      )
  one_of (x ∷ l) (suc k) lt e h =
      let rest = one_of l k (omega arith) e (λ j less ne. h (suc j) (omega arith) (λ z. ne (omega arith))) in
      let out : eqb n x.order.number.number ≡ false = ne_eqb n x.order.number.number (h 0 (omega arith) (λ z. omega arith)) in (
        ap (λ m. x ∷ m) rest.0 ∙ sym (cond-true _ _ _ (ap not out)),
        (λ j. cond-false _ (volume_of x) 0 out j + rest.1 j) ∙ zero-add _,
      )

module _ (os : Orders) (p : ℕ) (was : rests_at os p ≡ true) (apart : Distinct os) (numbers : Numbered os) where
  -- The order at a place is the one of its number.
  pub by_number : (remove (resting_of os) (rank os p) ≡ filter (λ o. not (has_number (record_at os p).resting.order.number.number o)) (resting_of os))
      × (rests (record_at os p).resting.order.number.number (resting_of os) ≡ volume_of (record_at os p).resting)
  by_number =
      let l = resting_of os in
      let d = blank_record.resting in
      let at = resting.at_rank os p (rests_within os p was) was apart d in
      let n = (record_at os p).resting.order.number.number in
      let both = one_of n d l (rank os p) at.0 (ap (λ (o : RestingOrder). o.order.number.number) (sym at.1))
      (λ j lt ne e.
      let f = resting.from_rank os apart d j lt in
      ne (sym f.4 ∙ ap (rank os) (sym (numbers p f.0 was f.2 (e ∙ ap (λ (o : RestingOrder). o.order.number.number) (sym f.3)))))) in
      (both.0, both.1 ∙ ap volume_of at.1)
