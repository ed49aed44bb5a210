-- One pass over the table finds the slice that leads, and that is the foremost one of the time list. Assumes nothing.
use Rattle.std.proofs.Common.{◌≡◌, ℕ, zero, suc, ◌+◌, ◌<◌, Bool, true, false, cond, ◌&&◌, ltb, ◌⊎◌, List, [], ◌∷◌, length, get_or, is_some, Some, None, Option, sym, refl, ap, ◌∙◌, subst, inl, inr, arith}
use Rattle.std.specs.Cmp.{IsTotalOrder}
use Rattle.std.specs.declared.cmp.Ordering.{Ordering}
use Rattle.std.specs.declared.cmp.Ordering.TheVariants.{Less, Equal, Greater}
use Rattle.std.specs.Ordering.{is_lt, nat_cmp, ordering_then, ordering_reverse}
use Rattle.std.proofs.lemmas.Bool.{both_ways, and_parts, ltb-true, lt-ltb, cases_lt}
use Rattle.std.proofs.lemmas.Cmp.{ranked, nat_cmp_total, on_total, then_total}
use Rattle.types.specs.declared.orders.Order.{Order}
use Rattle.prices.specs.Prices.{View}
use Rattle.priority.specs.declared.SliceFacts.{SliceFacts}
use Rattle.priority.specs.Priority.{Rule, Lawful}
use Rattle.priority.proofs.Orders.{lawful_order, is_less}
use Rattle.runs.specs.Lists.{At, foremost}
use Rattle.runs.specs.Slices.{Slice, volume_in, takes, taker, facts, slices, ahead, offered}
use Rattle.runs.specs.Runs.{Progress}
use Rattle.runs.specs.Chains.{OpenTo, Foremost}
use Rattle.runs.proofs.Lists.{foremost_none, foremost_some}
use Rattle.runs.proofs.Slices.{slice_ok, open_in, ahead_self, ahead_trans}
use Rattle.runs.proofs.Chains.{is_foremost, only_one_foremost}
use Rattle.table.specs.declared.records.OrderRecord.{OrderRecord}
use Rattle.table.specs.Sequence.{Orders, blank_record, place_at, rests_at, held, record_at, rank, resting_of, Distinct}
use Rattle.table.proofs.Kept.{rests_within}
use Rattle.table.proofs.Ranks.{rank_first}
use Rattle.table.proofs.Resting.{at_rank, from_rank}
use Rattle.scan.specs.declared.Candidate.{Candidate}
use Rattle.scan.specs.Leading.{slice_on, candidate, within_reach, may_meet, compared, goes_before, better_of, considered, visited, Leads, Leading, below, NoneFrom, slice_of}

no_two : {A : Type 0} (b : Bool) → b ≡ false → b ≡ true → A
no_two b f t = absurd (both_ways b f t)

-- What a may meet rests at its place, is one that a may take, and is not empty.
pub open_parts : (view : View) (a : Order) (place : Option OrderRecord) (h : Bool) → may_meet view a place h ≡ true
    → (is_some place ≡ true) × (takes view a (held place).resting.order ≡ true) × (0 < volume_in (held place).resting h)
open_parts view a place h o =
    let (reach, some) = and_parts (within_reach view a place) (ltb 0 (volume_in (held place).resting h)) o in
    let (rests, taken) = and_parts (is_some place) (takes view a (held place).resting.order) reach in
    (rests, taken, ltb-true 0 (volume_in (held place).resting h) some)

-- What leads rests on the table.
pub leads_rests : (rule : Rule) (view : View) (a : Order) (os : Orders) (asked : ℕ → Bool → Type 0) (b : Candidate) → Leads rule view a os asked b → rests_at os b.place ≡ true
leads_rests rule view a os asked b l = (open_parts view a (place_at os b.place) b.facts.hidden l.is_open).0

both_level : (x y : Ordering) → ordering_then x y ≡ Equal → (x ≡ Equal) × (y ≡ Equal)
both_level Less y e = absurd cc
both_level Equal y e = (refl, e)
both_level Greater y e = absurd cc

level_same : (m n : ℕ) → nat_cmp m n ≡ Equal → m ≡ n
level_same m n e = ranked m n Equal (sym e)

module _ (rule : Rule) (law : Lawful rule) (view : View) (a : Order) (os : Orders) (distinct : Distinct os) where
  abbrev cand : ℕ → Bool → Candidate
  cand k h = candidate view (record_at os k) k h

  abbrev gb : Candidate → Candidate → Bool
  gb x y = goes_before rule (taker a) x y

  abbrev meets : ℕ → Bool → Bool
  meets k h = may_meet view a (place_at os k) h

  -- the facts that the rule is told of a slice
  abbrev told : ℕ → Bool → SliceFacts
  told k h = facts view (slice_on os k h)

  total : IsTotalOrder (compared rule (taker a))
  total = then_total (on_total (λ (x : Candidate). x.facts) (lawful_order rule law (taker a))) (on_total (λ (x : Candidate). x.time) nat_cmp_total)

  gb_trans : (x y z : Candidate) → gb x y ≡ true → gb y z ≡ true → gb x z ≡ true
  gb_trans x y z s t = ap is_lt (total.trans x y z (is_less _ s) (is_less _ t))

  rests : (k : ℕ) (h : Bool) → meets k h ≡ true → rests_at os k ≡ true
  rests k h o = (open_parts view a (place_at os k) h o).0

  -- slices that are level are one
  one : (i k : ℕ) (h g : Bool) → meets i h ≡ true → meets k g ≡ true → compared rule (taker a) (cand i h) (cand k g) ≡ Equal → cand i h ≡ cand k g
  one i k h g oi ok e =
      let (level, times) = both_level (rule (taker a) (told i h) (told k g)) (nat_cmp (record_at os i).time (record_at os k).time) e in
      let ri = rests i h oi in
      let rk = rests k g ok in
      same h g (distinct i k (rests_within os i ri) (rests_within os k rk) ri rk (level_same _ _ times)) level
    where
      same : (h g : Bool) → i ≡ k → rule (taker a) (told i h) (told k g) ≡ Equal → cand i h ≡ cand k g
      same true true e l = ap (λ (z : ℕ). cand z true) e
      same false false e l = ap (λ (z : ℕ). cand z false) e
      same false true e l =
          let first = law.by_shown (taker a) (told i false) (told k true) (ap (λ (z : ℕ). offered view (record_at os z).resting) e) refl refl in
          absurd cc
      same true false e l =
          let first = law.by_shown (taker a) (told k false) (told i true) (ap (λ (z : ℕ). offered view (record_at os z).resting) (sym e)) refl refl in
          let back = law.swap (taker a) (told i true) (told k false) ∙ ap ordering_reverse l in
          absurd cc

  -- of two slices one goes before the other
  other : (i k : ℕ) (h g : Bool) → meets i h ≡ true → meets k g ≡ true → gb (cand i h) (cand k g) ≡ false → (cand i h ≡ cand k g) ⊎ (gb (cand k g) (cand i h) ≡ true)
  other i k h g oi ok n = go (compared rule (taker a) (cand i h) (cand k g)) refl
    where
      go : (x : Ordering) → compared rule (taker a) (cand i h) (cand k g) ≡ x → (cand i h ≡ cand k g) ⊎ (gb (cand k g) (cand i h) ≡ true)
      go Less e = no_two (gb (cand i h) (cand k g)) n (ap is_lt e)
      go Equal e = inl (one i k h g oi ok e)
      go Greater e = inr (ap is_lt (total.antisymm (cand k g) (cand i h) ∙ ap ordering_reverse e))

  -- One more slice is asked about.
  module _ (asked more : ℕ → Bool → Type 0) (i : ℕ) (h : Bool) (new : more i h) (wider : (k : ℕ) (g : Bool) → asked k g → more k g) (only : (k : ℕ) (g : Bool) → more k g → asked k g ⊎ ((k ≡ i) × (g ≡ h))) where
    one_more : (best : Option Candidate) → meets i h ≡ true → Leading rule view a os asked best → Leading rule view a os more (better_of rule (taker a) best (cand i h))
    one_more None o l = record {
      among = new;
      own = refl;
      is_open = o;
      first = λ k g m p. elim (only k g m) [
        | inl q ↦ no_two (meets k g) (l k g q) p
        | inr (e, f) ↦ inl (λ j. cand (e j) (f j))
      ];
    }
    one_more (Some b) o l = go (gb (cand i h) b) refl
      where
        to_b : gb (cand i h) (cand b.place b.facts.hidden) ≡ gb (cand i h) b
        to_b = ap (λ (z : Candidate). gb (cand i h) z) (sym l.own)

        go : (t : Bool) → gb (cand i h) b ≡ t → Leads rule view a os more (cond t (cand i h) b)
        go true t = record {
          among = new;
          own = refl;
          is_open = o;
          first = λ k g m p. elim (only k g m) [
            | inl q ↦ elim (l.first k g q p) [
              | inl e ↦ inr (ap (λ (z : Candidate). gb (cand i h) z) e ∙ t)
              | inr u ↦ inr (gb_trans (cand i h) b (cand k g) t u)
            ]
            | inr (e, f) ↦ inl (λ j. cand (e j) (f j))
          ];
        }
        go false t = record {
          among = wider b.place b.facts.hidden l.among;
          own = l.own;
          is_open = l.is_open;
          first = λ k g m p. elim (only k g m) [
            | inl q ↦ l.first k g q p
            | inr (e, f) ↦ elim (other i b.place h b.facts.hidden o l.is_open (to_b ∙ t)) [
              | inl c ↦ inl ((λ j. cand (e j) (f j)) ∙ c ∙ sym l.own)
              | inr c ↦ inr (ap (λ (z : Candidate). gb b z) (λ j. cand (e j) (f j)) ∙ ap (λ (z : Candidate). gb z (cand i h)) l.own ∙ c)
            ]
          ];
        }

    none_more : (best : Option Candidate) → meets i h ≡ false → Leading rule view a os asked best → Leading rule view a os more best
    none_more None n l = λ k g m. elim (only k g m) [ inl q ↦ l k g q | inr (e, f) ↦ ap (λ (z : ℕ). meets z g) e ∙ ap (λ (z : Bool). meets i z) f ∙ n ]
    none_more (Some b) n l = record {
      among = wider b.place b.facts.hidden l.among;
      own = l.own;
      is_open = l.is_open;
      first = λ k g m p. elim (only k g m) [
        | inl q ↦ l.first k g q p
        | inr (e, f) ↦ no_two (meets k g) (ap (λ (z : ℕ). meets z g) e ∙ ap (λ (z : Bool). meets i z) f ∙ n) p
      ];
    }

    pub consider_step : (best : Option Candidate) → within_reach view a (place_at os i) ≡ true → Leading rule view a os asked best → Leading rule view a os more (considered rule view (taker a) (record_at os i) i h best)
    consider_step best r l = go (ltb 0 (volume_in (record_at os i).resting h)) refl
      where
        go : (t : Bool) → ltb 0 (volume_in (record_at os i).resting h) ≡ t → Leading rule view a os more (cond t (better_of rule (taker a) best (cand i h)) best)
        go true t = one_more best (ap (λ (z : Bool). z && ltb 0 (volume_in (record_at os i).resting h)) r ∙ t) l
        go false t = none_more best (ap (λ (z : Bool). z && ltb 0 (volume_in (record_at os i).resting h)) r ∙ t) l

  -- One more place is visited.
  module _ (i : ℕ) (best : Option Candidate) (l : Leading rule view a os (below i) best) where
    -- the slices of the places below i, and the shown one of the next
    abbrev and_shown : ℕ → Bool → Type 0
    and_shown k g = (k < i) ⊎ ((k ≡ i) × (g ≡ false))

    second : (k : ℕ) (g : Bool) → k < i + 1 → and_shown k g ⊎ ((k ≡ i) × (g ≡ true))
    second k g m = elim (cases_lt k i) [
      | inl q ↦ inl (inl q)
      | inr q ↦ let e : k ≡ i = omega arith in which g e
    ]
      where
        which : (g : Bool) → k ≡ i → and_shown k g ⊎ ((k ≡ i) × (g ≡ true))
        which false e = inl (inr (e, refl))
        which true e = inr (e, refl)

    wide : (k : ℕ) (g : Bool) → and_shown k g → k < i + 1
    wide k g (inl q) = omega arith
    wide k g (inr (e, f)) = omega arith

    -- nothing there that a may take
    out_of_reach : within_reach view a (place_at os i) ≡ false → Leading rule view a os (below (i + 1)) best
    out_of_reach t =
        none_more and_shown (below (i + 1)) i true (omega arith) wide second best (ap (λ (z : Bool). z && ltb 0 (record_at os i).resting.reserve.shares) t)
        (none_more (below i) and_shown i false (inr (refl, refl)) (λ k g q. inl q) (λ k g m. m) best (ap (λ (z : Bool). z && ltb 0 (record_at os i).resting.shown.shares) t) l)

    pub free_step : place_at os i ≡ None → Leading rule view a os (below (i + 1)) best
    free_step e = out_of_reach (ap (within_reach view a) e)

    pub visit_step : (r : OrderRecord) → place_at os i ≡ Some r → Leading rule view a os (below (i + 1)) (visited rule view a r i best)
    visit_step r e = subst (λ (z : OrderRecord). Leading rule view a os (below (i + 1)) (visited rule view a z i best)) (ap held e) (go (takes view a (record_at os i).resting.order) refl)
      where
        reach : (t : Bool) → takes view a (record_at os i).resting.order ≡ t → within_reach view a (place_at os i) ≡ t
        reach t f = ap (λ (z : Bool). z && takes view a (record_at os i).resting.order) (ap is_some e) ∙ f

        go : (t : Bool) → takes view a (record_at os i).resting.order ≡ t
            → Leading rule view a os (below (i + 1)) (cond t (considered rule view (taker a) (record_at os i) i true (considered rule view (taker a) (record_at os i) i false best)) best)
        go true t =
            consider_step and_shown (below (i + 1)) i true (omega arith) wide second (considered rule view (taker a) (record_at os i) i false best) (reach true t)
            (consider_step (below i) and_shown i false (inr (refl, refl)) (λ k g q. inl q) (λ k g m. m) best (reach true t) l)
        go false t = out_of_reach (reach false t)

  pub visit_none : Leading rule view a os (below 0) None
  visit_none k g h = absurd (omega arith)

  -- What leads on the table is foremost on the time list.
  started : Progress
  started = record { left = 0; others = resting_of os; log = [] }

  at_get : {X : Type 0} (xs : List X) (k : ℕ) (x d : X) → k < length xs → get_or xs k d ≡ x → At xs k x
  at_get [] k x d h e = absurd (omega arith)
  at_get (y ∷ xs) zero x d h e = e
  at_get (y ∷ xs) (suc k) x d h e = at_get xs k x d (omega arith) e

  get_at : {X : Type 0} (xs : List X) (k : ℕ) (x d : X) → At xs k x → (k < length xs) × (get_or xs k d ≡ x)
  get_at [] k x d h = absurd h
  get_at (y ∷ xs) zero x d h = (omega arith, h)
  get_at (y ∷ xs) (suc k) x d h = let p = get_at xs k x d h in (omega (arith, p.0), p.1)

  -- a slice of the time list is one of the table
  pub found_at : (t : Slice) → OpenTo view a (resting_of os) t → (j : ℕ) × (rests_at os j ≡ true) × ((record_at os j).resting ≡ t.resting) × (rank os j ≡ t.place) × (meets j t.hidden ≡ true)
  found_at t o =
      let d = blank_record.resting in
      let (lt, e) = get_at (resting_of os) t.place t.resting d o.at in
      let (j, within, on, same, at) = from_rank os distinct d t.place lt in
      let here : (record_at os j).resting ≡ t.resting = same ∙ e in
      (j, on, here, at, open_here j on here)
    where
      open_here : (j : ℕ) → rests_at os j ≡ true → (record_at os j).resting ≡ t.resting → meets j t.hidden ≡ true
      open_here j on here =
          (λ i. (on i && takes view a (here i).order) && ltb 0 (volume_in (here i) t.hidden))
          ∙ ap (λ (b : Bool). b && ltb 0 (volume_in t.resting t.hidden)) o.taken
          ∙ lt-ltb 0 (volume_in t.resting t.hidden) o.some

  foremost_of : (s : Slice) → Foremost rule view a started s → foremost (ahead rule view a) (slices view a (resting_of os)) ≡ Some s
  unfolding started
  foremost_of s f = go (foremost (ahead rule view a) (slices view a (resting_of os))) refl
    where
      go : (x : Option Slice) → foremost (ahead rule view a) (slices view a (resting_of os)) ≡ x → foremost (ahead rule view a) (slices view a (resting_of os)) ≡ Some s
      go None e = absurd (foremost_none (ahead rule view a) (ahead_self rule law view a) (ahead_trans rule law view a) (slices view a (resting_of os)) e s (open_in view a (resting_of os) s f.here))
      go (Some t) e = e ∙ ap (λ (z : Slice). Some z) (only_one_foremost rule law view a started t s (is_foremost rule law view a started t e) f)

  module _ (n : ℕ) (none : NoneFrom n os) where
    below_n : (j : ℕ) → rests_at os j ≡ true → j < n
    below_n j on = elim (cases_lt j n) [ inl h ↦ h | inr h ↦ no_two (rests_at os j) (none j h) on ]

    leads_foremost : (b : Candidate) → Leads rule view a os (below n) b → Foremost rule view a started (slice_on os b.place b.facts.hidden)
    unfolding started
    leads_foremost b l = record { here = here; first = first }
      where
        i : ℕ
        i = b.place

        h : Bool
        h = b.facts.hidden

        on : rests_at os i ≡ true
        on = rests i h l.is_open

        inside : i < length os
        inside = rests_within os i on

        here : OpenTo view a (resting_of os) (slice_on os i h)
        here =
            let p = at_rank os i inside on distinct blank_record.resting in
            let (rests, taken, some) = open_parts view a (place_at os i) h l.is_open in
            record { at = at_get (resting_of os) (rank os i) (record_at os i).resting blank_record.resting p.0 p.1; taken = taken; some = some }

        answer : Slice → Ordering
        answer t = rule (taker a) (told i h) (facts view t)

        first : (t : Slice) → OpenTo view a (resting_of os) t
            → (t ≡ slice_on os i h) ⊎ ((answer t ≡ Less) ⊎ ((answer t ≡ Equal) × (rank os i < t.place)))
        first t o =
            let (j, there, same, at, m) = found_at t o in
            from j same at (l.first j t.hidden (below_n j there) m)
          where
            from : (j : ℕ) → (record_at os j).resting ≡ t.resting → rank os j ≡ t.place
                → (cand j t.hidden ≡ b) ⊎ (gb b (cand j t.hidden) ≡ true) → (t ≡ slice_on os i h) ⊎ ((answer t ≡ Less) ⊎ ((answer t ≡ Equal) × (rank os i < t.place)))
            from j same at (inl e) =
                let p : j ≡ i = ap (λ (z : Candidate). z.place) e in
                let g : t.hidden ≡ h = ap (λ (z : Candidate). z.facts.hidden) e in
                inl ((λ k. record { place = sym at k; resting = sym same k; hidden = t.hidden }) ∙ (λ k. slice_on os (p k) (g k)))
            from j same at (inr u) = go (answer t) refl
              where
                turned : answer t ≡ rule (taker a) (told i h) (told j t.hidden)
                turned = λ k. rule (taker a) (told i h) (facts view (record { place = t.place; resting = sym same k; hidden = t.hidden }))

                decided : (x : Ordering) → answer t ≡ x → is_lt (ordering_then x (nat_cmp (record_at os i).time (record_at os j).time)) ≡ true
                decided x e =
                    ap (λ (z : Ordering). is_lt (ordering_then z (nat_cmp (record_at os i).time (record_at os j).time))) (sym e ∙ turned)
                    ∙ ap (λ (z : Candidate). gb z (cand j t.hidden)) (sym l.own) ∙ u

                go : (x : Ordering) → answer t ≡ x
                    → (t ≡ slice_on os i h) ⊎ ((answer t ≡ Less) ⊎ ((answer t ≡ Equal) × (rank os i < t.place)))
                go Less e = inr (inl e)
                go Greater e = absurd (both_ways false refl (decided Greater e))
                go Equal e =
                    let earlier : (record_at os i).time < (record_at os j).time = ranked (record_at os i).time (record_at os j).time Less (sym (is_less _ (decided Equal e))) in
                    inr (inr (e, subst (λ (z : ℕ). rank os i < z) at (rank_first os i j inside on earlier)))

    pub leading_foremost : (best : Option Candidate) → Leading rule view a os (below n) best → slice_of os best ≡ foremost (ahead rule view a) (slices view a (resting_of os))
    leading_foremost (Some b) l = sym (foremost_of (slice_on os b.place b.facts.hidden) (leads_foremost b l))
    leading_foremost None l = go (foremost (ahead rule view a) (slices view a (resting_of os))) refl
      where
        go : (x : Option Slice) → foremost (ahead rule view a) (slices view a (resting_of os)) ≡ x → None ≡ foremost (ahead rule view a) (slices view a (resting_of os))
        go None e = sym e
        go (Some s) e =
            let ok = slice_ok view a (resting_of os) s (foremost_some (ahead rule view a) s (slices view a (resting_of os)) e).0 in
            let (j, on, same, at, m) = found_at s ok in
            no_two (meets j s.hidden) (l j s.hidden (below_n j on)) m
