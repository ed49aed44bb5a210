-- A run, with no count of its meetings. Assumes nothing.
use Rattle.std.proofs.Common.{◌≡◌, ℕ, zero, suc, ◌+◌, ◌<◌, ◌≤◌, Bool, true, false, cond, eqb, List, ◌++◌, Some, None, Option, sym, refl, ap, ◌∙◌, inl, inr, append_assoc, arith}
use Rattle.std.proofs.lemmas.Bool.{eqb-true, eqb-false}
use Rattle.types.specs.declared.orders.Order.{Order}
use Rattle.types.specs.declared.orders.RestingOrder.{RestingOrder}
use Rattle.types.specs.declared.reports.Report.{Report}
use Rattle.prices.specs.Prices.{View}
use Rattle.priority.specs.Priority.{Rule, Lawful}
use Rattle.runs.specs.Lists.{In, At, foremost, sum_of}
use Rattle.runs.specs.Slices.{Slice, volume_of, takes, slices, ahead}
use Rattle.runs.specs.Meetings.{Effect, meeting}
use Rattle.runs.specs.Runs.{Progress, holding, meet, next_slice, meetings, in_play, run}
use Rattle.runs.proofs.Lists.{sum_at_place, at_either, foremost_none, foremost_some}
use Rattle.runs.proofs.Slices.{slice_ok, has_slice, ahead_self, ahead_trans}
use Rattle.runs.proofs.Meetings.{less, amount_volume}

-- What holds of the meetings of any rule.

module _ (rule : Rule) (q : View) (a : Order) where
  abbrev pub Top : Progress → Slice → Type 0
  Top st s = In s (slices q a st.others) × ((t : Slice) → In t (slices q a st.others) → ahead rule q a t s ≡ false)

  pub falls : (st : Progress) → 0 < st.left → (s : Slice) → Top st s → (meet q a st s).left + sum_of volume_of (meet q a st s).others < in_play st
  unfolding meet
  falls st h s (i, top) =
      let ok = slice_ok q a st.others s i in
      let f : Effect = meeting q a st.left s in
      omega (arith, less q a st.left s h ok.some, sum_at_place volume_of (holding f.shown f.reserve) s.place s.resting st.others ok.at)

  -- the slice that is met
  pub chosen : (st : Progress) (s : Slice) → next_slice rule q a st ≡ Some s → (0 < st.left) × Top st s
  unfolding next_slice
  chosen st s e = go (eqb st.left 0) refl e
    where
      go : (b : Bool) → eqb st.left 0 ≡ b → cond b None (foremost (ahead rule q a) (slices q a st.others)) ≡ Some s → (0 < st.left) × Top st s
      go true x e = cc
      go false x e = (omega (arith, eqb-false st.left 0 x), foremost_some (ahead rule q a) s (slices q a st.others) e)

  -- what each meeting keeps, all of them keep
  pub meetings_keep : (P : Progress → Type 0) → ((st : Progress) → P st → (s : Slice) → Top st s → P (meet q a st s)) → (n : ℕ) (st : Progress) → P st → P (meetings rule q a n st)
  unfolding meetings
  meetings_keep P f zero st p = p
  meetings_keep P f (suc n) st p = go (next_slice rule q a st) refl (λ s e. meetings_keep P f n (meet q a st s) (f st p s (chosen st s e).1))
    where
      go : (x : Option Slice) → next_slice rule q a st ≡ x → ((s : Slice) → next_slice rule q a st ≡ Some s → P (meetings rule q a n (meet q a st s)))
          → P (elim x [ None ↦ st | Some s ↦ meetings rule q a n (meet q a st s) ])
      go None e ih = p
      go (Some s) e ih = ih s e

  pub meetings_end : (n : ℕ) (st : Progress) → in_play st ≤ n → next_slice rule q a (meetings rule q a n st) ≡ None
  unfolding meetings
  meetings_end zero st h = ended (next_slice rule q a st) refl
    where
      ended : (x : Option Slice) → next_slice rule q a st ≡ x → next_slice rule q a st ≡ None
      ended None e = e
      ended (Some s) e = absurd (omega (arith, (chosen st s e).0))
  meetings_end (suc n) st h = go (next_slice rule q a st) refl (λ s e. meetings_end n (meet q a st s) (omega (arith, falls st (chosen st s e).0 s (chosen st s e).1)))
    where
      go : (x : Option Slice) → next_slice rule q a st ≡ x → ((s : Slice) → next_slice rule q a st ≡ Some s → next_slice rule q a (meetings rule q a n (meet q a st s)) ≡ None)
          → next_slice rule q a (elim x [ None ↦ st | Some s ↦ meetings rule q a n (meet q a st s) ]) ≡ None
      go None e ih = e
      go (Some s) e ih = ih s e

  -- the equations of a run, with no count of meetings
  meetings_stop : (n : ℕ) (st : Progress) → next_slice rule q a st ≡ None → meetings rule q a n st ≡ st
  unfolding meetings
  meetings_stop zero st e = refl
  meetings_stop (suc n) st e = ap (λ (x : Option Slice). elim x [ None ↦ st | Some s ↦ meetings rule q a n (meet q a st s) ]) e

  meetings_next : (n : ℕ) (st : Progress) (s : Slice) → next_slice rule q a st ≡ Some s → meetings rule q a (suc n) st ≡ meetings rule q a n (meet q a st s)
  unfolding meetings
  meetings_next n st s e = ap (λ (x : Option Slice). elim x [ None ↦ st | Some s ↦ meetings rule q a n (meet q a st s) ]) e

  meetings_enough : (n m : ℕ) (st : Progress) → in_play st ≤ n → in_play st ≤ m → meetings rule q a n st ≡ meetings rule q a m st
  meetings_enough zero m st h k = meetings_stop zero st (none (next_slice rule q a st) refl) ∙ sym (meetings_stop m st (none (next_slice rule q a st) refl))
    where
      none : (x : Option Slice) → next_slice rule q a st ≡ x → next_slice rule q a st ≡ None
      none None e = e
      none (Some s) e = absurd (omega (arith, (chosen st s e).0))
  meetings_enough (suc n) m st h k = go m k (next_slice rule q a st) refl (λ m s e l. meetings_enough n m (meet q a st s) (omega (arith, falls st (chosen st s e).0 s (chosen st s e).1)) l)
    where
      go : (m : ℕ) → in_play st ≤ m → (x : Option Slice) → next_slice rule q a st ≡ x
          → ((m : ℕ) (s : Slice) → next_slice rule q a st ≡ Some s → in_play (meet q a st s) ≤ m → meetings rule q a n (meet q a st s) ≡ meetings rule q a m (meet q a st s))
          → meetings rule q a (suc n) st ≡ meetings rule q a m st
      go m k None e ih = meetings_stop (suc n) st e ∙ sym (meetings_stop m st e)
      go zero k (Some s) e ih = absurd (omega (arith, (chosen st s e).0))
      go (suc m) k (Some s) e ih = meetings_next n st s e ∙ ih m s e (omega (arith, falls st (chosen st s e).0 s (chosen st s e).1)) ∙ sym (meetings_next m st s e)

  pub run_stop : (st : Progress) → next_slice rule q a st ≡ None → run rule q a st ≡ st
  unfolding run
  run_stop st e = meetings_stop _ st e

  pub run_next : (st : Progress) (s : Slice) → next_slice rule q a st ≡ Some s → run rule q a st ≡ run rule q a (meet q a st s)
  unfolding run
  run_next st s e =
      let less = falls st (chosen st s e).0 s (chosen st s e).1 in
      meetings_enough (in_play st) (suc (in_play st)) st (omega arith) (omega arith) ∙ meetings_next (in_play st) st s e
      ∙ meetings_enough (in_play st) (in_play (meet q a st s)) (meet q a st s) (omega arith) (omega arith)

  -- an order with no volume is not met
  abbrev pub EmptyAt : ℕ → Progress → Type 0
  EmptyAt k st = (x : RestingOrder) × At st.others k x × (volume_of x ≡ 0)

  empty_step : (k : ℕ) (st : Progress) → EmptyAt k st → (s : Slice) → Top st s → EmptyAt k (meet q a st s)
  unfolding meet
  empty_step k st (x, at, none) s (i, top) =
      let ok = slice_ok q a st.others s i in
      let f : Effect = meeting q a st.left s in
      elim (at_either s.place k (holding f.shown f.reserve) x s.resting st.others ok.at at) [
        | inl e ↦ absurd (omega (arith, amount_volume s ok.some, ap volume_of e))
        | inr at' ↦ (x, at', none)
      ]

  pub run_empty : (k : ℕ) (st : Progress) → EmptyAt k st → EmptyAt k (run rule q a st)
  unfolding run
  run_empty k st h = meetings_keep (EmptyAt k) (empty_step k) (in_play st) st h

  pub run_keep : (P : Progress → Type 0) → ((st : Progress) → P st → (s : Slice) → Top st s → P (meet q a st s)) → (st : Progress) → P st → P (run rule q a st)
  unfolding run
  run_keep P f st p = meetings_keep P f (in_play st) st p

  pub run_end : (st : Progress) → next_slice rule q a (run rule q a st) ≡ None
  unfolding run
  run_end st = meetings_end (in_play st) st (omega arith)

module _ (rule : Rule) (law : Lawful rule) (q : View) (a : Order) where
  none_left : (st : Progress) → next_slice rule q a st ≡ None → 0 < st.left → (o : RestingOrder) → In o st.others → 0 < volume_of o → takes q a o.order ≡ false
  unfolding next_slice
  none_left st e h o i v = go (eqb st.left 0) refl e (takes q a o.order) refl
    where
      go : (b : Bool) → eqb st.left 0 ≡ b → cond b None (foremost (ahead rule q a) (slices q a st.others)) ≡ None → (c : Bool) → takes q a o.order ≡ c → takes q a o.order ≡ false
      go true x e c t = absurd (omega (arith, eqb-true st.left 0 x))
      go false x e true t =
          let (s, j, k) = has_slice q a st.others o i t v in
          absurd (foremost_none (ahead rule q a) (ahead_self rule law q a) (ahead_trans rule law q a) (slices q a st.others) e s j)
      go false x e false t = t

  -- a run ends when its order is used up, or may take no order with volume
  pub run_done : (st : Progress) → 0 < (run rule q a st).left → (o : RestingOrder) → In o (run rule q a st).others → 0 < volume_of o → takes q a o.order ≡ false
  run_done st h o i v = none_left (run rule q a st) (run_end rule q a st) h o i v

-- A run goes on from any earlier reports, and adds its own.

abbrev pub after : List Report → Progress → Progress
after old st = record { left = st.left; others = st.others; log = st.log ++ old }

module _ (rule : Rule) (q : View) (a : Order) (old : List Report) where
  meet_after : (st : Progress) (s : Slice) → meet q a (after old st) s ≡ after old (meet q a st s)
  unfolding meet
  meet_after st s = ap (λ (l : List Report). record { left = (meet q a st s).left; others = (meet q a st s).others; log = l }) (sym (append_assoc (meeting q a st.left s).reports st.log old))

  next_after : (st : Progress) → next_slice rule q a (after old st) ≡ next_slice rule q a st
  unfolding next_slice
  next_after st = refl

  meetings_after : (n : ℕ) (st : Progress) → meetings rule q a n (after old st) ≡ after old (meetings rule q a n st)
  unfolding meetings
  meetings_after zero st = refl
  meetings_after (suc n) st = ap (λ (x : Option Slice). onward x) (next_after st) ∙ go (next_slice rule q a st) (λ s. ap (meetings rule q a n) (meet_after st s) ∙ meetings_after n (meet q a st s))
    where
      onward : Option Slice → Progress
      onward x = elim x [ None ↦ after old st | Some s ↦ meetings rule q a n (meet q a (after old st) s) ]

      go : (x : Option Slice) → ((s : Slice) → meetings rule q a n (meet q a (after old st) s) ≡ after old (meetings rule q a n (meet q a st s)))
          → onward x ≡ after old (elim x [ None ↦ st | Some s ↦ meetings rule q a n (meet q a st s) ])
      go None ih = refl
      go (Some s) ih = ih s

  pub run_after : (st : Progress) → run rule q a (after old st) ≡ after old (run rule q a st)
  unfolding run
  run_after st = meetings_after _ st
