-- Entering keeps what holds between the calls. Assumes nothing.
use Rattle.std.proofs.Common.{◌≡◌, ℕ, zero, suc, ◌+◌, ◌<◌, ◌≤◌, Bool, true, false, cond, eqb, List, [], ◌∷◌, ◌++◌, sym, refl, ap, ◌∙◌, subst, inl, inr, arith}
use Rattle.std.proofs.lemmas.Bool.{both_ways, eqb-true, eqb-false, cond_both}
use Rattle.types.specs.declared.orders.Order.{Order}
use Rattle.types.specs.declared.orders.RestingOrder.{RestingOrder}
use Rattle.types.specs.declared.orders.TimeInForce.{TimeInForce}
use Rattle.types.specs.declared.orders.TimeInForce.TheVariants as term
use Rattle.types.specs.declared.quotes.Quote.{Quote}
use Rattle.types.specs.declared.reports.CancelReason.{CancelReason}
use Rattle.types.specs.declared.reports.CancelReason.TheVariants as why
use Rattle.types.specs.declared.reports.Report.{Report}
use Rattle.types.specs.Reports.{cancelled}
use Rattle.prices.specs.Prices.{View}
use Rattle.priority.specs.Priority.{Rule, Lawful}
use Rattle.runs.specs.Lists.{In, sum_of}
use Rattle.runs.specs.Slices.{volume_of, takes}
use Rattle.runs.specs.Meetings.{shares}
use Rattle.runs.specs.Runs.{Progress, tidied, laid_out}
use Rattle.runs.proofs.Lists.{in_append, in_map, map_in, in_sum}
use Rattle.runs.proofs.Runs.{run_done, after, run_after}
use Rattle.rules.specs.Accounts.{on, lost, entered, traded, rests, quote_of}
use Rattle.rules.specs.Laws.{Quiet}
use Rattle.rules.specs.States.{Book}
use Rattle.rules.specs.Entering.{noted, ran, remainder, cut, day_book, ioc_book, killed, fok_book, by_term}
use Rattle.rules.proofs.Prices.{not_itself, post_never}
use Rattle.rules.proofs.Sound.{AllFair, Sound, Known, run_sound, on_pos}
use Rattle.rules.proofs.Tidied.{rows_of, counted, count, count_tidied, tidied_rests, tidied_in, laid_volume, laid_order}
use Rattle.rules.proofs.Inv.{Core, Inv, onto, book, Unique, count_append, count_rows, later_order, on_same, on_other, lost_cons, entered_cons, fair_cons, rests_append}

-- at the end of its run an order with volume left may take no order with volume
abbrev pub Finished : View → Order → Progress → Type 0
Finished q a r = 0 < r.left → (o : RestingOrder) → In o r.others → 0 < volume_of o → takes q a o.order ≡ false

-- an order of the tidied list is one of the rows
module _ (orders : List Order) (q : View) (a : Order) (want : ℕ → ℕ) (rows : List Order) (r : Progress) (sound : Sound orders q a want rows r) where
  pub tidied_row : (o : RestingOrder) (bs : List RestingOrder) → In o (tidied bs r.others) → In o.order rows
  tidied_row o bs i =
      let (x, j, e, v, w) = tidied_in o bs r.others i in
      subst (λ z. In z rows) e (subst (In x.order) sound.same_rows (map_in (λ (o : RestingOrder). o.order) x r.others j))

remainder_in : (e : Order) (v : ℕ) (o : RestingOrder) → In o (remainder e v) → (o.order ≡ e) × (0 < volume_of o) × (0 < v)
remainder_in e v o i = go (eqb v 0) refl i
  where
    go : (b : Bool) → eqb v 0 ≡ b → In o (cond b [] (laid_out e.entry.kind e v ∷ [])) → (o.order ≡ e) × (0 < volume_of o) × (0 < v)
    go true x i = absurd i
    go false x (inl y) =
        let p : 0 < v = omega (arith, eqb-false v 0 x) in
        (ap (λ z. z.order) y ∙ laid_order e.entry.kind e v, omega (arith, ap volume_of y, laid_volume e.entry.kind e v), p)
    go false x (inr y) = absurd y

remainder_rests : (n : ℕ) (e : Order) (v : ℕ) → rests n (remainder e v) ≡ on n e.number.number v
unfolding rests
remainder_rests n e v = go (eqb v 0) refl
  where
    zero_on : (b : Bool) → v ≡ 0 → 0 ≡ cond b v 0
    zero_on true h = sym h
    zero_on false h = refl

    go : (b : Bool) → eqb v 0 ≡ b → unfold rests in (rests n (cond b [] (laid_out e.entry.kind e v ∷ [])) ≡ on n e.number.number v)
    go true x = zero_on (eqb n e.number.number) (eqb-true v 0 x)
    go false x =
        let m : on n (laid_out e.entry.kind e v).order.number.number (volume_of (laid_out e.entry.kind e v)) ≡ on n e.number.number v =
        ap (λ (z : Order). on n z.number.number (volume_of (laid_out e.entry.kind e v))) (laid_order e.entry.kind e v) ∙ ap (on n e.number.number) (laid_volume e.entry.kind e v) in
        omega (arith, m)

-- The book after the run of the order e, which is in none of the rows.
module _ (orders : List Order) (q : View) (e : Order) (want : ℕ → ℕ) (rows : List Order) (known : Known orders e rows)
    (old : List Report) (r : Progress) (sound : Sound orders q e want rows (after old r)) (os : List RestingOrder) (same : rows ≡ rows_of os) where
  rows_kept : rows_of os ≡ rows_of r.others
  rows_kept = sym (sound.same_rows ∙ same)

  count_then : (n : ℕ) → count n (tidied os r.others) ≤ count n os
  count_then n = omega (arith, count_tidied n os r.others, count_rows n r.others os (sound.same_rows ∙ same))

  remainder_count : (n : ℕ) → count n (remainder e r.left) ≤ on n e.number.number 1
  unfolding count
  remainder_count n =
      cond_both (eqb r.left 0) _ _ (λ os. sum_of (counted n) os ≤ on n e.number.number 1) (λ _. omega arith)
      (λ _. omega (arith, ap (λ (z : Order). on n z.number.number 1) (laid_order e.entry.kind e r.left)))

  day_single : ((n : ℕ) → count n os + on n e.number.number 1 ≤ 1) → (n : ℕ) → count n (day_book e os r).resting ≤ 1
  unfolding day_book
  day_single h n = omega (arith, h n, count_append n (tidied os r.others) (remainder e r.left), count_then n, remainder_count n)

  day_core : ((n : ℕ) → count n os + on n e.number.number 1 ≤ 1) → Core orders q want (onto old (day_book e os r))
  unfolding day_book
  day_core alone = record {
    single = day_single alone;
    sums = λ n. omega (arith, sound.sums n, more n, tidied_rests n os r.others rows_kept, remainder_rests n e r.left);
    wanted = sound.wanted;
    listed = λ o i. elim (in_append o (tidied os r.others) (remainder e r.left) i) [
      | inl j ↦ known.listed o.order (tidied_row orders q e want rows (after old r) sound o os j)
      | inr j ↦ subst (λ z. In z orders) (sym (remainder_in e r.left o j).0) known.active
    ];
    filled = λ o i. elim (in_append o (tidied os r.others) (remainder e r.left) i) [
      | inl j ↦ let (x, k, f, v, w) = tidied_in o os r.others j in omega arith
      | inr j ↦ (remainder_in e r.left o j).1
    ];
    quoted = sound.quoted;
    trades = sound.trades;
  }
    where
      more : (n : ℕ) → rests n (tidied os r.others ++ remainder e r.left) ≡ rests n (tidied os r.others) + rests n (remainder e r.left)
      more n = rests_append n (tidied os r.others) (remainder e r.left)

  cut_more : (rs : CancelReason) → (P : List Report → Type 0) → (r.left ≡ 0 → P (r.log ++ old)) → P (cancelled e.number (shares r.left) rs ∷ (r.log ++ old)) → P (cut e r.left rs r.log ++ old)
  cut_more rs P f g = cond_both (eqb r.left 0) _ _ (λ log. P (log ++ old)) (λ x. f (eqb-true _ _ x)) (λ _. g)

  ioc_core : ((n : ℕ) → count n os ≤ 1) → Core orders q want (onto old (ioc_book e os r))
  unfolding ioc_book
  ioc_core alone = record {
    single = λ n. omega (arith, count_then n, alone n);
    sums = λ n. cut_more why.ImmediateOrCancel (λ log. want n ≡ lost n log + rests n (tidied os r.others))
        (λ z. omega (arith, sound.sums n, tidied_rests n os r.others rows_kept, none n z))
        (omega (arith, sound.sums n, tidied_rests n os r.others rows_kept, lost_cons n (cancelled e.number (shares r.left) why.ImmediateOrCancel) (r.log ++ old)));
    wanted = λ n. cut_more why.ImmediateOrCancel (λ log. entered n log ≡ want n) (λ _. sound.wanted n)
        (omega (arith, sound.wanted n, entered_cons n (cancelled e.number (shares r.left) why.ImmediateOrCancel) (r.log ++ old)));
    listed = λ o i. known.listed o.order (tidied_row orders q e want rows (after old r) sound o os i);
    filled = λ o i. let (x, k, f, v, w) = tidied_in o os r.others i in omega arith;
    quoted = cut_more why.ImmediateOrCancel (λ log. quote_of log ≡ q) (λ _. sound.quoted) sound.quoted;
    trades = cut_more why.ImmediateOrCancel (AllFair orders) (λ _. sound.trades) (fair_cons orders _ _ tt sound.trades);
  }
    where
      none : (n : ℕ) → r.left ≡ 0 → on n e.number.number r.left ≡ 0
      none n z = go (eqb n e.number.number)
        where
          go : (b : Bool) → cond b r.left 0 ≡ 0
          go true = z
          go false = refl

  -- no order of the tidied list takes and is taken by another of it, nor by e
  module _ (quiet : Quiet q os) where
    row_order : (o : RestingOrder) → In o (tidied os r.others) → (x : RestingOrder) × In x os × (o.order ≡ x.order)
    row_order o i = in_map (λ (o : RestingOrder). o.order) o.order os (subst (In o.order) same (tidied_row orders q e want rows (after old r) sound o os i))

    tidied_quiet : Quiet q (tidied os r.others)
    tidied_quiet x y i j t u =
        let (v, k, f) = row_order x i in
        let (w, l, g) = row_order y j in
        quiet v w k l (subst (λ z. takes q v.order z ≡ true) g (subst (λ z. takes q z y.order ≡ true) f t))
        (subst (λ z. takes q w.order z ≡ true) f (subst (λ z. takes q z x.order ≡ true) g u))

    day_quiet : Finished q e r → Quiet q (day_book e os r).resting
    unfolding day_book
    day_quiet done x y i j t u =
        elim (in_append x (tidied os r.others) (remainder e r.left) i) [
          | inl k ↦ elim (in_append y (tidied os r.others) (remainder e r.left) j) [ inl l ↦ tidied_quiet x y k l t u | inr l ↦ not_both y x l k u ]
          | inr k ↦ elim (in_append y (tidied os r.others) (remainder e r.left) j) [ inl l ↦ not_both x y k l t | inr l ↦ not_own x y k l t ]
        ]
      where
        not_both : (x y : RestingOrder) → In x (remainder e r.left) → In y (tidied os r.others) → takes q x.order y.order ≡ true → ⊥
        not_both x y k l t =
            let (f, v, w) = remainder_in e r.left x k in
            let (z, m, g, c, d) = tidied_in y os r.others l in
            both_ways (takes q e z.order) (done w z m c) (subst (λ d. takes q e d ≡ true) (sym g) (subst (λ d. takes q d y.order ≡ true) f t))

        not_own : (x y : RestingOrder) → In x (remainder e r.left) → In y (remainder e r.left) → takes q x.order y.order ≡ true → ⊥
        not_own x y k l t =
            both_ways (takes q e e) (not_itself q e)
            (subst (λ d. takes q e d ≡ true) (remainder_in e r.left y l).0 (subst (λ d. takes q d y.order ≡ true) (remainder_in e r.left x k).0 t))

    ioc_quiet : Quiet q (ioc_book e os r).resting
    unfolding ioc_book
    ioc_quiet = tidied_quiet

-- The whole call.

module _ (rule : Rule) (law : Lawful rule) (before : ℕ) (q : Quote) (os : List RestingOrder) (old : List Report) (orders : List Order) (want : ℕ → ℕ) (inv : Inv before q (book os old) orders want)
    (e : Order) (numbered-so : e.number.number ≡ suc before) where
  want_then : ℕ → ℕ
  want_then n = on n e.number.number e.entry.volume.shares + want n

  not_old : (d : Order) → In d orders → d.number.number ≡ e.number.number → ⊥
  not_old d i h = omega (arith, inv.below d i)

  unique_then : Unique (e ∷ orders)
  unique_then x y (inl f) (inl g) h = f ∙ sym g
  unique_then x y (inl f) (inr g) h = absurd (not_old y g (sym h ∙ ap (λ (z : Order). z.number.number) f))
  unique_then x y (inr f) (inl g) h = absurd (not_old x f (h ∙ ap (λ (z : Order). z.number.number) g))
  unique_then x y (inr f) (inr g) h = inv.unique x y f g h

  rows : List Order
  rows = rows_of os

  known : Known (e ∷ orders) e rows
  unfolding rows
  known = record {
    unique = unique_then;
    listed = λ d i. let (o, j, f) = in_map (λ (o : RestingOrder). o.order) d os i in inr (subst (λ z. In z orders) (sym f) (inv.core.listed o j));
    active = inl refl;
  }

  begun : Progress
  begun = record { left = e.entry.volume.shares; others = os; log = noted e ∷ [] }

  begun_sound : Sound (e ∷ orders) q e want_then rows (after old begun)
  unfolding rows begun want_then
  begun_sound =
      let z : entered e.number.number old ≡ 0 = inv.core.wanted e.number.number ∙ inv.fresh e.number.number (omega arith) in
      record {
        sums = λ n. omega (arith, inv.core.sums n, lost_cons n (noted e) old);
        wanted = λ n. omega (arith, inv.core.wanted n, entered_cons n (noted e) old);
        same_rows = refl;
        quoted = inv.core.quoted;
        trades = fair_cons (e ∷ orders) _ _ tt (later_order orders e old z inv.core.trades);
      }

  ran_ok : Sound (e ∷ orders) q e want_then rows (after old (ran rule q e os)) × Finished q e (ran rule q e os)
  unfolding ran begun
  ran_ok =
      cond_both e.entry.marks.post_only _ _ (λ (r : Progress). Sound (e ∷ orders) q e want_then rows (after old r) × Finished q e r)
      (λ h. (begun_sound, λ _ o _ _. post_never q e o.order h))
      (λ h. (
        subst (Sound (e ∷ orders) q e want_then rows) (run_after rule q e old begun)
            (run_sound rule law (e ∷ orders) q e want_then rows known (after old begun) begun_sound),
        run_done rule law q e begun,
      ))

  back_core : Core (e ∷ orders) q want_then (onto old (killed e os))
  unfolding begun want_then
  back_core = record {
    sums = λ n. omega (arith, begun_sound.sums n, lost_cons n (cancelled e.number e.entry.volume why.FillOrKill) (noted e ∷ old));
    wanted = λ n. omega (arith, begun_sound.wanted n, entered_cons n (cancelled e.number e.entry.volume why.FillOrKill) (noted e ∷ old));
    listed = λ o i. inr (inv.core.listed o i);
    filled = inv.core.filled;
    single = inv.core.single;
    quoted = inv.core.quoted;
    trades = fair_cons (e ∷ orders) _ _ tt begun_sound.trades;
  }

  -- no order of the list has the new number
  alone : (n : ℕ) → count n os + on n e.number.number 1 ≤ 1
  unfolding count
  alone n = go (eqb n e.number.number) refl
    where
      none : n ≡ e.number.number → (m : ℕ) → sum_of (counted n) os ≡ m → sum_of (counted n) os ≡ 0
      none h zero x = x
      none h (suc m) x =
          let (o, i, p) = in_sum (counted n) os (omega arith) in
          absurd (not_old o.order (inv.core.listed o i) (sym (on_pos n o.order.number.number 1 p).0 ∙ h))

      go : (b : Bool) → eqb n e.number.number ≡ b → sum_of (counted n) os + cond b 1 0 ≤ 1
      go true x = omega (arith, none (eqb-true _ _ x) (sum_of (counted n) os) refl)
      go false x = omega (arith, inv.core.single n)

  abbrev Fine : Book → Type 0
  Fine b = Core (e ∷ orders) q want_then (onto old b) × Quiet q b.resting

  ioc_fine : Fine (ioc_book e os (ran rule q e os))
  unfolding rows
  ioc_fine = (ioc_core _ _ _ _ _ known old _ ran_ok.0 os refl inv.core.single, ioc_quiet _ _ _ _ _ known old _ ran_ok.0 os refl inv.quiet)

  term_fine : (t : TimeInForce) → Fine (by_term t e os (ran rule q e os))
  unfolding rows fok_book
  term_fine term.Day = (day_core _ _ _ _ _ known old _ ran_ok.0 os refl alone, day_quiet _ _ _ _ _ known old _ ran_ok.0 os refl inv.quiet ran_ok.1)
  term_fine term.ImmediateOrCancel = ioc_fine
  term_fine term.FillOrKill =
      cond_both (eqb (traded e.number.number (ran rule q e os).log) e.entry.volume.shares) _ _ Fine (λ _. ioc_fine) (λ _. (back_core, inv.quiet))

  volumes_then : (d : Order) → In d (e ∷ orders) → want_then d.number.number ≡ d.entry.volume.shares
  unfolding want_then
  volumes_then d (inl f) =
      let n : d.number.number ≡ e.number.number = ap (λ (z : Order). z.number.number) f in
      let v : d.entry.volume.shares ≡ e.entry.volume.shares = ap (λ (z : Order). z.entry.volume.shares) f in
      omega (arith, on_same d.number.number e.number.number e.entry.volume.shares n, inv.fresh d.number.number (omega arith))
  volumes_then d (inr i) = omega (arith, on_other d.number.number e.number.number e.entry.volume.shares (not_old d i), inv.volumes d i)

  fresh_then : (n : ℕ) → suc before < n → want_then n ≡ 0
  unfolding want_then
  fresh_then n h = omega (arith, on_other n e.number.number e.entry.volume.shares (λ x. omega arith), inv.fresh n (omega arith))

  below_then : (d : Order) → In d (e ∷ orders) → d.number.number ≤ suc before
  below_then d (inl f) = omega (arith, ap (λ (z : Order). z.number.number) f)
  below_then d (inr i) = omega (arith, inv.below d i)

  pub enter_keeps : (want : ℕ → ℕ) × Inv (suc before) q (onto old (by_term e.entry.term e os (ran rule q e os))) (e ∷ orders) want
  enter_keeps =
      let fine = term_fine e.entry.term in (
        want_then,
        record {
          below = below_then;
          unique = unique_then;
          volumes = volumes_then;
          fresh = fresh_then;
          core = fine.0;
          quiet = fine.1;
        },
      )
