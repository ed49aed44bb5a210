-- A run on the table goes as the run on its time list. Assumes nothing.
use Rattle.std.proofs.Common.{◌≡◌, ℕ, zero, suc, ◌+◌, ◌-◌, ◌*◌, ◌<◌, ◌≤◌, min, Bool, true, false, cond, eqb, ltb, List, [], ◌∷◌, ◌++◌, reverse, length, get_or, set, is_some, Some, None, Option, sym, refl, ap, ◌∙◌, subst, arith, length-set}
use mathlib.Core.List.{reverse-append}
use lib.ListN.{length-reverse}
use Rattle.std.proofs.lemmas.Bool.{eqb-true, eqb-false}
use Rattle.types.specs.declared.money.Volume.{Volume}
use Rattle.types.specs.declared.orders.Order.{Order}
use Rattle.types.specs.declared.orders.RestingOrder.{RestingOrder}
use Rattle.types.specs.declared.orders.StpInstruction.{StpInstruction}
use Rattle.types.specs.declared.orders.StpInstruction.TheVariants.{Off, TradeAndSuppress, CancelAndDecrement, CancelNewest, CancelOldest}
use Rattle.types.specs.declared.reports.Report.{Report}
use Rattle.checks.specs.Values.{is_iceberg}
use Rattle.prices.specs.Prices.{View}
use Rattle.priority.specs.Priority.{Rule}
use Rattle.runs.specs.Lists.{at_place, foremost, sum_of}
use Rattle.runs.specs.Slices.{Slice, volume_of, amount, slices, ahead}
use Rattle.runs.specs.Meetings.{Effect, shares, trading, smaller_out, prevents, by_instruction, meeting}
use Rattle.runs.specs.Runs.{Progress, holding, meet, next_slice, in_play, run}
use Rattle.runs.proofs.Runs.{chosen, falls, run_stop, run_next}
use Rattle.table.specs.declared.records.OrderRecord.{OrderRecord}
use Rattle.table.specs.declared.order_table.OrderTable.{OrderTable}
use Rattle.table.specs.Sequence.{Orders, blank_record, rests_at, held, record_at, rank, resting_of, Distinct}
use Rattle.table.specs.Writing.{Written}
use Rattle.table.proofs.Kept.{rests_within, places}
use Rattle.table.proofs.Resting.{changed, at_rank}
use Rattle.table.proofs.Writing.{written_none, written_both}
use Rattle.scan.specs.declared.Candidate.{Candidate}
use Rattle.scan.specs.Leading.{slice_on, Leads, slice_of}
use Rattle.scan.proofs.Leading.{leads_rests}
use Rattle.sheet.specs.declared.EventSheet.{EventSheet}
use Rattle.sheet.specs.Sheets.{Adds}
use Rattle.sheet.proofs.Sheets.{adds_none, adds_more, adds_same}
use Rattle.matching.specs.Meetings.{slice_from, met, comes_of}
use Rattle.matching.specs.Running.{on_table, SameOrder, SameOrders, AllMayRest}

-- What a meeting comes to goes by the slice, wherever its order stands.
pub anywhere : (view : View) (a : Order) (left place : ℕ) (o : RestingOrder) (hidden : Bool) → meeting view a left (record { place = place; resting = o; hidden = hidden }) ≡ meeting view a left (slice_from o hidden)
unfolding meeting trading
anywhere view a left place o hidden = go (prevents a o.order)
  where
    go : (i : Option StpInstruction) → by_instruction i view a left (record { place = place; resting = o; hidden = hidden }) ≡ by_instruction i view a left (slice_from o hidden)
    go None = refl
    go (Some Off) = refl
    go (Some TradeAndSuppress) = refl
    go (Some CancelAndDecrement) = refl
    go (Some CancelNewest) = refl
    go (Some CancelOldest) = refl

-- A meeting gives neither order volume, and makes two reports at most.
pub record Mild (v : ℕ) (o : RestingOrder) (f : Effect) : Type 0 where
  pub left : f.left ≤ v
  pub reserve : f.reserve ≤ o.reserve.shares
  pub volume : f.shown + f.reserve ≤ volume_of o
  pub few : length f.reports ≤ 2

trading_mild : (view : View) (a : Order) (left : ℕ) (s : Slice) (suppressed : Bool) → Mild left s.resting (trading view a left s suppressed)
unfolding trading
trading_mild view a left s suppressed = record {
  left = omega arith;
  reserve = reserve s.hidden s.resting.reserve.shares (min left (amount s));
  volume = volume s.hidden s.resting.shown.shares s.resting.reserve.shares (min left (amount s));
  few = omega arith;
}
  where
    reserve : (b : Bool) (y v : ℕ) → cond b (y - v) y ≤ y
    reserve true y v = omega arith
    reserve false y v = omega arith

    volume : (b : Bool) (x y v : ℕ) → cond b x (x - v) + cond b (y - v) y ≤ x + y
    volume true x y v = omega arith
    volume false x y v = omega arith

smaller_mild : (a : Order) (left : ℕ) (o : RestingOrder) → Mild left o (smaller_out a left o)
unfolding smaller_out
smaller_mild a left o = go (ltb left (volume_of o)) refl (ltb (volume_of o) left) refl
  where
    go : (b : Bool) → ltb left (volume_of o) ≡ b → (c : Bool) → ltb (volume_of o) left ≡ c → Mild left o (smaller_out a left o)
    go true e c f = rw e (record { left = omega arith; reserve = omega arith; volume = omega arith; few = omega arith })
    go false e true f = rw (e, f) (record { left = omega arith; reserve = omega arith; volume = omega arith; few = omega arith })
    go false e false f = rw (e, f) (record { left = omega arith; reserve = omega arith; volume = omega arith; few = omega arith })

pub mild : (view : View) (a : Order) (left : ℕ) (s : Slice) → Mild left s.resting (meeting view a left s)
unfolding meeting
mild view a left s = go (prevents a s.resting.order)
  where
    go : (i : Option StpInstruction) → Mild left s.resting (by_instruction i view a left s)
    go None = trading_mild view a left s false
    go (Some Off) = trading_mild view a left s false
    go (Some TradeAndSuppress) = trading_mild view a left s true
    go (Some CancelAndDecrement) = smaller_mild a left s.resting
    go (Some CancelNewest) = record { left = omega arith; reserve = omega arith; volume = omega arith; few = omega arith }
    go (Some CancelOldest) = record { left = omega arith; reserve = omega arith; volume = omega arith; few = omega arith }

-- The orders stay the same.

same_order : (r : OrderRecord) → SameOrder r r
same_order r = record { time = refl; order = refl; drawn = refl; volume = omega arith }

pub same_none : (os : Orders) → SameOrders os os
same_none os = record { places = refl; rests = λ k. refl; each = λ k. same_order (record_at os k) }

pub same_both : (os os' os'' : Orders) → SameOrders os os' → SameOrders os' os'' → SameOrders os os''
same_both os os' os'' p q = record {
  places = q.places ∙ p.places;
  rests = λ k. q.rests k ∙ p.rests k;
  each = λ k. record {
    time = (q.each k).time ∙ (p.each k).time;
    order = (q.each k).order ∙ (p.each k).order;
    drawn = (q.each k).drawn ∙ (p.each k).drawn;
    volume = omega (arith, (q.each k).volume, (p.each k).volume);
  };
}

pub met_same : (v : ℕ) (f : Effect) (r : OrderRecord) → Mild v r.resting f → SameOrder r (met f r)
met_same v f r m = record { time = refl; order = refl; drawn = omega (arith, m.reserve); volume = m.volume }

pub same_one : (os : Orders) (i : ℕ) (r : OrderRecord) → rests_at os i ≡ true → SameOrder (record_at os i) r → SameOrders os (set os i (Some r))
same_one os i r on new =
    let within = rests_within os i on in
    record {
      places = length-set os i (Some r);
      rests = places os i (Some r) within (λ k x. is_some x ≡ rests_at os k) (sym on) (λ k ne. refl);
      each = places os i (Some r) within (λ k x. SameOrder (record_at os k) (held x)) new (λ k ne. same_order (record_at os k));
    }

pub rest_same : (os os' : Orders) → SameOrders os os' → AllMayRest os → AllMayRest os'
rest_same os os' p rest k on =
    let m = rest k (sym (p.rests k) ∙ on) in
    record {
      volume = omega (arith, m.volume, (p.each k).volume);
      drawn = omega (arith, m.drawn, (p.each k).drawn);
      display = λ i. subst (λ (o : Order). 0 < o.entry.display.shares) (sym (p.each k).order) (m.display (sym (ap (λ (o : Order). is_iceberg o.entry.kind) (p.each k).order) ∙ i));
    }

-- A meeting at one place of the table is one at a place of the time list.

set_at : {X : Type 0} (xs : List X) (k : ℕ) (g : X → X) (x d : X) → get_or xs k d ≡ x → k < length xs → set xs k (g x) ≡ at_place k g xs
set_at [] k g x d e h = absurd (omega arith)
set_at (y ∷ xs) zero g x d e h = ap (λ z. g z ∷ xs) (sym e)
set_at (y ∷ xs) (suc k) g x d e h = ap (λ zs. y ∷ zs) (set_at xs k g x d e (omega arith))

pub met_list : (os : Orders) (i : ℕ) (f : Effect) → Distinct os → rests_at os i ≡ true
    → resting_of (set os i (Some (met f (record_at os i)))) ≡ at_place (rank os i) (holding f.shown f.reserve) (resting_of os)
met_list os i f distinct on =
    let within = rests_within os i on in
    let p = at_rank os i within on distinct blank_record.resting in
    changed os i within on distinct (met f (record_at os i)) refl
    ∙ set_at (resting_of os) (rank os i) (holding f.shown f.reserve) (record_at os i).resting blank_record.resting p.1 p.0

-- The run so far: from the table t₀ and the sheet s₀, with v left, to t and s, with so much left.
pub record Going (rule : Rule) (view : View) (a : Order) (v : ℕ) (t₀ : OrderTable) (s₀ : EventSheet) (left : ℕ) (t : OrderTable) (s : EventSheet) : Type 0 where
  pub log : List Report
  pub goes : run rule view a (on_table left t.places.now log) ≡ run rule view a (on_table v t₀.places.now [])
  pub adds : Adds s₀ s (reverse log)
  pub less : left ≤ v
  pub same : SameOrders t₀.places.now t.places.now
  pub few : s.count + 2 * in_play (on_table left t.places.now []) ≤ s₀.count + 2 * in_play (on_table v t₀.places.now [])
  pub ends : t.ends ≡ t₀.ends
  pub written : Written t₀ t

pub going_start : (rule : Rule) (view : View) (a : Order) (v : ℕ) (t : OrderTable) (s : EventSheet) → Going rule view a v t s v t s
going_start rule view a v t s =
    record { log = []; goes = refl; adds = adds_none s; less = omega arith; same = same_none t.places.now; few = omega arith; ends = refl; written = written_none t }

-- With so much left the active order meets b, which leads on the table t.
module _ {rule : Rule} {view : View} {a : Order} {left : ℕ} (t : OrderTable) {b : Candidate} {asked : ℕ → Bool → Type 0} (some : 0 < left) (l : Leads rule view a t.places.now asked b)
    (leads : slice_of t.places.now (Some b) ≡ foremost (ahead rule view a) (slices view a (resting_of t.places.now))) where
  abbrev os : Orders
  os = t.places.now

  abbrev this : Slice
  this = slice_on os b.place b.facts.hidden

  abbrev comes : Effect
  comes = comes_of view a left os b

  abbrev after : Orders
  after = set os b.place (Some (met comes (record_at os b.place)))

  on : rests_at os b.place ≡ true
  on = leads_rests rule view a os asked b l

  is_next : (log : List Report) → next_slice rule view a (on_table left os log) ≡ Some this
  unfolding next_slice
  is_next log = go (eqb left 0) refl
    where
      go : (z : Bool) → eqb left 0 ≡ z → cond z None (foremost (ahead rule view a) (slices view a (resting_of os))) ≡ Some this
      go true e = absurd (omega (arith, eqb-true left 0 e))
      go false e = sym leads

  meets : (log : List Report) → meet view a (on_table left os log) this ≡ on_table comes.left after (comes.reports ++ log)
  unfolding meet
  meets log =
      ap (λ (z : List RestingOrder). record { left = comes.left; others = z; log = comes.reports ++ log })
      (sym (met_list os b.place comes t.sound.sequenced.distinct on))

  -- So much is left then, and the table is t'.
  module _ (left' : Volume) (t' : OrderTable) (is : left' ≡ shares comes.left) (written : t'.places.now ≡ after) where
    now : (log : List Report) → meet view a (on_table left os log) this ≡ on_table left'.shares t'.places.now (comes.reports ++ log)
    now log = meets log ∙ (λ i. on_table (sym is i).shares (sym written i) (comes.reports ++ log))

    -- All volume in play falls.
    pub shrinks : left'.shares + sum_of volume_of (resting_of t'.places.now) < left + sum_of volume_of (resting_of os)
    shrinks =
        let (h, top) = chosen rule view a (on_table left os []) this (is_next []) in
        subst (λ (z : Progress). z.left + sum_of volume_of z.others < left + sum_of volume_of (resting_of os)) (now []) (falls rule view a (on_table left os []) h this top)

    pub going_on : {v : ℕ} {t₀ : OrderTable} {s₀ s s' : EventSheet} → Going rule view a v t₀ s₀ left t s
        → Adds s s' (reverse comes.reports) → t'.ends ≡ t.ends → Written t t' → Going rule view a v t₀ s₀ left'.shares t' s'
    going_on {t₀ = t₀} g adds ends noted =
        let mild = mild view a left this in
        let here : SameOrders os t'.places.now = subst (SameOrders os) (sym written) (same_one os b.place (met comes (record_at os b.place)) on (met_same left comes (record_at os b.place) mild)) in
        record {
          log = comes.reports ++ g.log;
          goes = ap (run rule view a) (sym (now g.log)) ∙ sym (run_next rule view a (on_table left os g.log) this (is_next g.log)) ∙ g.goes;
          adds = adds_same (sym (reverse-append comes.reports g.log)) (adds_more g.adds adds);
          less = let fewer = ap (λ (z : Volume). z.shares) is in omega (arith, g.less, mild.left, fewer);
          same = same_both t₀.places.now os t'.places.now g.same here;
          few = let falls = shrinks in omega (arith, g.few, adds.counted, length-reverse comes.reports, mild.few, falls);
          ends = ends ∙ g.ends;
          written = written_both t₀ t t' g.written noted;
        }

-- What a run that has come to its end leaves.
pub record Ended (rule : Rule) (view : View) (a : Order) (v : ℕ) (t₀ : OrderTable) (s₀ : EventSheet) (n : ℕ) (t : OrderTable) (s : EventSheet) : Type 0 where
  pub left : n ≡ (run rule view a (on_table v t₀.places.now [])).left
  pub list : resting_of t.places.now ≡ (run rule view a (on_table v t₀.places.now [])).others
  pub adds : Adds s₀ s (reverse (run rule view a (on_table v t₀.places.now [])).log)

module _ {rule : Rule} {view : View} {a : Order} {v : ℕ} {t₀ : OrderTable} {s₀ : EventSheet} {n : ℕ} {t : OrderTable} {s : EventSheet} (g : Going rule view a v t₀ s₀ n t s) where
  ended : next_slice rule view a (on_table n t.places.now g.log) ≡ None → Ended rule view a v t₀ s₀ n t s
  ended none =
      let whole : on_table n t.places.now g.log ≡ run rule view a (on_table v t₀.places.now []) = sym (run_stop rule view a (on_table n t.places.now g.log) none) ∙ g.goes in
      record {
        left = ap (λ (z : Progress). z.left) whole;
        list = ap (λ (z : Progress). z.others) whole;
        adds = adds_same (ap (λ (z : Progress). reverse z.log) whole) g.adds;
      }

  -- The active order is used up.
  pub used_up : n ≤ 0 → Ended rule view a v t₀ s₀ n t s
  unfolding next_slice
  used_up h = ended (go (eqb n 0) refl)
    where
      go : (z : Bool) → eqb n 0 ≡ z → cond z None (foremost (ahead rule view a) (slices view a (resting_of t.places.now))) ≡ None
      go true e = refl
      go false e = absurd (eqb-false n 0 e (omega arith))

  -- No slice is left.
  pub none_left : None ≡ foremost (ahead rule view a) (slices view a (resting_of t.places.now)) → Ended rule view a v t₀ s₀ n t s
  unfolding next_slice
  none_left e = ended (go (eqb n 0))
    where
      go : (z : Bool) → cond z None (foremost (ahead rule view a) (slices view a (resting_of t.places.now))) ≡ None
      go true = refl
      go false = sym e
