-- A new quote keeps what holds between the calls. Assumes nothing.
use Rattle.std.proofs.Common.{◌≡◌, ℕ, suc, ◌+◌, ◌<◌, ◌≤◌, Bool, true, false, cond, not, ◌&&◌, eqb, ◌⊎◌, List, [], ◌∷◌, map, is_some, Some, None, filter, Option, sym, refl, ap, ◌∙◌, subst, inl, inr, arith}
use Rattle.std.proofs.lemmas.Bool.{both_ways, eqb-true, eqb-false, cond_both, and_cases, not-false}
use Rattle.types.specs.declared.money.Price.{Price}
use Rattle.types.specs.declared.orders.Order.{Order}
use Rattle.types.specs.declared.orders.RestingOrder.{RestingOrder}
use Rattle.types.specs.declared.quotes.Quote.{Quote}
use Rattle.types.specs.declared.reports.Report.{Report}
use Rattle.types.specs.Reports.{quoted as quote_report}
use Rattle.prices.specs.Prices.{View, price}
use Rattle.priority.specs.Priority.{Rule, Lawful}
use Rattle.runs.specs.Lists.{In, At, at_place, sum_of}
use Rattle.runs.specs.Slices.{volume_of, takes}
use Rattle.runs.specs.Runs.{Progress, run, tidied}
use Rattle.runs.proofs.Lists.{in_append, in_map, map_in, in_kept, kept_in, sum_parted, sum_at_place, map_at_place, at_in, at_same, in_at_place, only_one, at_map, at_one, map_at}
use Rattle.runs.proofs.Runs.{run_done, run_empty, after, run_after}
use Rattle.rules.specs.Accounts.{on, rests, quote_of}
use Rattle.rules.specs.Laws.{Quiet}
use Rattle.rules.specs.States.{State, Book}
use Rattle.rules.specs.Requotes.{Spot, further, seek, emptied, put_back, run_at, if_resting, run_again, re_enter, to_end, same_price, repriced, numbers, requoted}
use Rattle.rules.proofs.Prices.{takes_parts, crossed, not_itself, post_never, takes_same}
use Rattle.rules.proofs.Sound.{Sound, Known, run_sound}
use Rattle.rules.proofs.Tidied.{rows_of, counted, count, count_tidied, tidied_rests, tidied_in, laid_volume, laid_order}
use Rattle.rules.proofs.Inv.{Core, Inv, onto, book, Unique, count_rows, on_same, lost_cons, entered_cons, fair_cons}
use Rattle.rules.proofs.Enter.{Finished}

-- Where an order stands.

further_some : (x : Option Spot) (s : Spot) → further x ≡ Some s → (t : Spot) × (x ≡ Some t) × (s ≡ record { place = suc t.place; order = t.order })
further_some None s e = cc
further_some (Some t) s e = (t, refl, cc)

further_none : (x : Option Spot) → further x ≡ None → x ≡ None
further_none None e = refl
further_none (Some t) e = cc

seek_some : (n : ℕ) (os : List RestingOrder) (s : Spot) → seek n os ≡ Some s → At os s.place s.order × (s.order.order.number.number ≡ n)
seek_some n [] s e = cc
seek_some n (o ∷ os) s e = go (seek_some n os) (eqb n o.order.number.number) refl e
  where
    go : ((t : Spot) → seek n os ≡ Some t → At os t.place t.order × (t.order.order.number.number ≡ n)) → (b : Bool) → eqb n o.order.number.number ≡ b
        → cond b (Some (record { place = 0; order = o })) (further (seek n os)) ≡ Some s → At (o ∷ os) s.place s.order × (s.order.order.number.number ≡ n)
    go ih true x e =
        let f : ◌≡◌ {A = Spot} (record { place = 0; order = o }) s = cc in
        subst (λ (s : Spot). At (o ∷ os) s.place s.order × (s.order.order.number.number ≡ n)) f (refl, sym (eqb-true _ _ x))
    go ih false x e =
        let (t, f, g) = further_some (seek n os) s e in
        subst (λ (s : Spot). At (o ∷ os) s.place s.order × (s.order.order.number.number ≡ n)) (sym g) (ih t f)

seek_none : (n : ℕ) (os : List RestingOrder) → seek n os ≡ None → (o : RestingOrder) → In o os → o.order.number.number ≡ n → ⊥
seek_none n [] e o i h = i
seek_none n (x ∷ os) e o i h = go (seek_none n os) (eqb n x.order.number.number) refl e i
  where
    go : (seek n os ≡ None → (o : RestingOrder) → In o os → o.order.number.number ≡ n → ⊥) → (b : Bool) → eqb n x.order.number.number ≡ b
        → cond b (Some (record { place = 0; order = x })) (further (seek n os)) ≡ None → (o ≡ x) ⊎ In o os → ⊥
    go ih true y e i = cc
    go ih false y e (inl i) = eqb-false _ _ y (sym h ∙ ap (λ (z : RestingOrder). z.order.number.number) i)
    go ih false y e (inr i) = ih (further_none (seek n os) e) o i h

put_volume : (o : RestingOrder) (v : ℕ) → volume_of (put_back o v) ≡ v
put_volume o v = cond_both (eqb v (volume_of o)) _ _ (λ (x : RestingOrder). volume_of x ≡ v) (λ e. sym (eqb-true _ _ e)) (λ _. laid_volume o.order.entry.kind o.order v)

put_entry : (o : RestingOrder) (v : ℕ) → (put_back o v).order ≡ o.order
put_entry o v = cond_both (eqb v (volume_of o)) _ _ (λ (x : RestingOrder). x.order ≡ o.order) (λ _. refl) (λ _. laid_order o.order.entry.kind o.order v)

on_zero : (n m : ℕ) → on n m 0 ≡ 0
on_zero n m = cond_both (eqb n m) _ _ (λ x. x ≡ 0) (λ _. refl) (λ _. refl)

-- One order is run from its place.

module _ (rule : Rule) (law : Lawful rule) (orders : List Order) (unique : Unique orders) (q : View) (want : ℕ → ℕ) (old : List Report) (b : Book) (core : Core orders q want (onto old b))
    (s : Spot) (at : At b.resting s.place s.order) where
  a : Order
  a = s.order.order

  rows : List Order
  rows = map (λ (o : RestingOrder). o.order) b.resting

  known : Known orders a rows
  unfolding a rows
  known = record {
    unique = unique;
    listed = λ d i. let (o, j, f) = in_map (λ (o : RestingOrder). o.order) d b.resting i in subst (λ z. In z orders) (sym f) (core.listed o j);
    active = core.listed s.order (at_in b.resting s.place s.order at);
  }

  begun : Progress
  begun = record { left = volume_of s.order; others = at_place s.place emptied b.resting; log = b.log }

  begun_sound : Sound orders q a want rows (after old begun)
  unfolding a rows begun rests
  begun_sound = record {
    sums = λ n. omega (arith, core.sums n, on_zero n s.order.order.number.number, sum_at_place (λ o. on n o.order.number.number (volume_of o)) emptied s.place s.order b.resting at);
    wanted = core.wanted;
    same_rows = map_at_place (λ (o : RestingOrder). o.order) emptied s.place b.resting (λ _. refl);
    quoted = core.quoted;
    trades = core.trades;
  }

  r : Progress
  r = run rule q a begun

  sound : Sound orders q a want rows (after old r)
  unfolding r
  sound = subst (Sound orders q a want rows) (run_after rule q a old begun) (run_sound rule law orders q a want rows known (after old begun) begun_sound)

  done : Finished q a r
  unfolding r
  done = run_done rule law q a begun

  -- the place is empty during the run
  empty : (x : RestingOrder) × At r.others s.place x × (volume_of x ≡ 0)
  unfolding r begun
  empty = run_empty rule q a s.place begun (emptied s.order, at_same s.place emptied s.order b.resting at, refl)

  put : List RestingOrder
  put = at_place s.place (λ _. put_back s.order r.left) r.others

  -- the order at the place is still the one that runs
  place_entry : empty.0.order ≡ a
  unfolding a rows
  place_entry =
      at_one s.place empty.0.order s.order.order (map (λ (o : RestingOrder). o.order) b.resting)
      (subst (λ (es : List Order). At es s.place empty.0.order) sound.same_rows (at_map (λ (o : RestingOrder). o.order) s.place empty.0 r.others empty.1))
      (at_map (λ (o : RestingOrder). o.order) s.place s.order b.resting at)

  put_rows : map (λ (o : RestingOrder). o.order) put ≡ rows
  unfolding put a
  put_rows = map_at (λ (o : RestingOrder). o.order) (λ _. put_back s.order r.left) s.place empty.0 r.others empty.1 (put_entry s.order r.left ∙ sym place_entry) ∙ sound.same_rows

  put_rests : (n : ℕ) → rests n put ≡ rests n r.others + on n a.number.number r.left
  unfolding put rests a
  put_rests n =
      let o : RestingOrder = put_back s.order r.left in
      omega (
        arith,
        sum_at_place (λ o. on n o.order.number.number (volume_of o)) (λ _. o) s.place empty.0 r.others empty.1,
        ap (on n empty.0.order.number.number) empty.2,
        on_zero n empty.0.order.number.number,
        ap (λ (z : Order). on n z.number.number (volume_of o)) (put_entry s.order r.left),
        ap (on n s.order.order.number.number) (put_volume s.order r.left),
      )

  -- each order of the tidied list is the one put back, or another of the run's list, with volume
  put_in : (o : RestingOrder) → In o (tidied b.resting put) → ((o.order ≡ a) × (0 < r.left)) ⊎ ((x : RestingOrder) × In x r.others × (x.order ≡ o.order) × (0 < volume_of x))
  unfolding put a
  put_in o i =
      let (x, j, e, v, w) = tidied_in o b.resting put i in
      elim (in_at_place s.place (λ _. put_back s.order r.left) x r.others j) [
        | inl k ↦ inr (x, k, e, v)
        | inr (y, k, f) ↦ inl (sym e ∙ ap (λ (z : RestingOrder). z.order) f ∙ put_entry s.order r.left, omega (arith, ap volume_of f, put_volume s.order r.left))
      ]

  -- an order of the tidied list was on the list before
  pub was : (o : RestingOrder) → In o (run_at rule q s b).resting → (x : RestingOrder) × In x b.resting × (o.order ≡ x.order)
  unfolding run_at r begun a put rows
  was o i =
      let (x, j, e, v, w) = tidied_in o b.resting put i in
      in_map (λ (o : RestingOrder). o.order) o.order b.resting (subst (λ z. In z rows) e (subst (In x.order) put_rows (map_in (λ (o : RestingOrder). o.order) x put j)))

  kept_rows : rows_of b.resting ≡ rows_of put
  unfolding rows
  kept_rows = sym put_rows

  pub run_at_core : Core orders q want (onto old (run_at rule q s b))
  unfolding run_at r begun a put
  run_at_core = record {
    sums = λ n. omega (arith, sound.sums n, put_rests n, tidied_rests n b.resting put kept_rows);
    wanted = sound.wanted;
    listed = λ o i. let (x, j, e) = was o i in subst (λ z. In z orders) (sym e) (core.listed x j);
    filled = λ o i. let (x, j, e, v, w) = tidied_in o b.resting put i in omega arith;
    single = λ n. omega (arith, core.single n, count_tidied n b.resting put, count_rows n put b.resting same);
    quoted = sound.quoted;
    trades = sound.trades;
  }
    where
      same : map (λ (o : RestingOrder). o.order) put ≡ map (λ (o : RestingOrder). o.order) b.resting
      same = unfold rows in put_rows

  -- no other order with the entry a is on the run's list
  not_twice : (x : RestingOrder) → In x r.others → x.order ≡ a → 0 < volume_of x → ⊥
  not_twice x i e v =
      let here : (o : RestingOrder) → o.order ≡ a → 1 ≤ counted a.number.number o = λ o f. omega (arith, on_same a.number.number o.order.number.number 1 (ap (λ (z : Order). z.number.number) (sym f))) in
      let few : sum_of (counted a.number.number) r.others ≤ 1 = few_others in
      let same : x ≡ empty.0 = only_one (counted a.number.number) x empty.0 s.place r.others i empty.1 (here x e) (here empty.0 place_entry) few in
      omega (arith, ap volume_of same, empty.2)
    where
      few_others : sum_of (counted a.number.number) r.others ≤ 1
      few_others = unfold count rows in omega (arith, core.single a.number.number, count_rows a.number.number r.others b.resting sound.same_rows)

  -- the order that ran, if it still rests, may take none that rests
  pub idle : (x y : RestingOrder) → In x (run_at rule q s b).resting → In y (run_at rule q s b).resting → x.order ≡ s.order.order → takes q x.order y.order ≡ true → ⊥
  unfolding run_at r begun a put
  idle x y i j e t =
      elim (put_in x i) [ inl (f, v) ↦ takes_none v | inr (z, k, f, v) ↦ not_twice z k (f ∙ e) v ]
    where
      t' : takes q a y.order ≡ true
      t' = subst (λ z. takes q z y.order ≡ true) e t

      takes_none : 0 < r.left → ⊥
      takes_none v = elim (put_in y j) [
        | inl (g, w) ↦ both_ways (takes q a y.order) (ap (takes q a) g ∙ not_itself q a) t'
        | inr (z, k, g, w) ↦ both_ways (takes q a y.order) (ap (takes q a) (sym g) ∙ done v z k w) t'
      ]

-- The orders of a list of numbers are run, one after the other.

-- each two of which each may take the other have one of the numbers
abbrev pub LeftToRun : View → List ℕ → List RestingOrder → Type 0
LeftToRun q ns os = (x y : RestingOrder) → In x os → In y os → takes q x.order y.order ≡ true → takes q y.order x.order ≡ true → In x.order.number.number ns ⊎ In y.order.number.number ns

unpriced_never : (q : View) (a b : Order) → is_some (price q a.entry) ≡ false → takes q a b ≡ false
unpriced_never q a b h = go (takes q a b) refl
  where
    none : (x : Option Price) (p : Price) → x ≡ Some p → is_some x ≡ false → ⊥
    none x p e h = both_ways (is_some x) h (ap is_some e)

    go : (c : Bool) → takes q a b ≡ c → takes q a b ≡ false
    go true e = let (p, r, f, g, c) = crossed a.entry.side (price q a.entry) (price q b.entry) (takes_parts q a b e).cross in absurd (none (price q a.entry) p f h)
    go false e = e

module _ (rule : Rule) (law : Lawful rule) (orders : List Order) (unique : Unique orders) (q : View) (want : ℕ → ℕ) (old : List Report) where
  -- what one more run does to the book
  record Ran (n : ℕ) (b c : Book) : Type 0 where
    core : Core orders q want (onto old c)
    was_there : (o : RestingOrder) → In o c.resting → (x : RestingOrder) × In x b.resting × (o.order ≡ x.order)
    takes_none : (x y : RestingOrder) → In x c.resting → In y c.resting → x.order.number.number ≡ n → takes q x.order y.order ≡ true → ⊥

  found_ran : (n : ℕ) (b : Book) → Core orders q want (onto old b) → (x : Option Spot) → seek n b.resting ≡ x → Ran n b (if_resting rule q x b)
  found_ran n b core None e = record {
    core = core;
    was_there = λ o i. (o, i, refl);
    takes_none = λ x y i j h t. seek_none n b.resting e x i h;
  }
  found_ran n b core (Some s) e =
      let (at, num) = seek_some n b.resting s e in
      let own : (x : RestingOrder) → In x.order orders → x.order.number.number ≡ n → x.order ≡ s.order.order =
      λ x i h. unique x.order s.order.order i (core.listed s.order (at_in b.resting s.place s.order at)) (h ∙ sym num) in
      cond_both (is_some (price q s.order.order.entry) && not s.order.order.entry.marks.post_only) _ _ (Ran n b)
      (λ _. record {
        core = run_at_core rule law orders unique q want old b core s at;
        was_there = was rule law orders unique q want old b core s at;
        takes_none = λ x y i j h t. idle rule law orders unique q want old b core s at x y i j
            (own x ((run_at_core rule law orders unique q want old b core s at).listed x i) h) t;
      })
      (λ h. record {
        core = core;
        was_there = λ o i. (o, i, refl);
        takes_none = λ x y i j g t.
            let f : x.order ≡ s.order.order = own x (core.listed x i) g in
            let t' : takes q s.order.order y.order ≡ true = subst (λ z. takes q z y.order ≡ true) f t in
            elim (and_cases (is_some (price q s.order.order.entry)) (not s.order.order.entry.marks.post_only) h) [
              | inl k ↦ both_ways (takes q s.order.order y.order) (unpriced_never q s.order.order y.order k) t'
              | inr k ↦ both_ways (takes q s.order.order y.order) (post_never q s.order.order y.order (not-false _ k)) t'
            ];
      })

  rerun_ran : (n : ℕ) (b : Book) → Core orders q want (onto old b) → Ran n b (run_again rule q n b)
  unfolding run_again
  rerun_ran n b core = found_ran n b core (seek n b.resting) refl

  rerun_left : (n : ℕ) (ns : List ℕ) (b c : Book) → Ran n b c → LeftToRun q (n ∷ ns) b.resting → LeftToRun q ns c.resting
  rerun_left n ns b c ran left x y i j t u =
      let (v, k, f) = ran.was_there x i in
      let (w, l, g) = ran.was_there y j in
      let t' : takes q v.order w.order ≡ true = subst (λ z. takes q v.order z ≡ true) g (subst (λ z. takes q z y.order ≡ true) f t) in
      let u' : takes q w.order v.order ≡ true = subst (λ z. takes q w.order z ≡ true) f (subst (λ z. takes q z x.order ≡ true) g u) in
      let fn : x.order.number.number ≡ v.order.number.number = ap (λ (z : Order). z.number.number) f in
      let gn : y.order.number.number ≡ w.order.number.number = ap (λ (z : Order). z.number.number) g in
      elim (left v w k l t' u') [
        | inl (inl e) ↦ absurd (ran.takes_none x y i j (fn ∙ e) t)
        | inl (inr m) ↦ inl (subst (λ z. In z ns) (sym fn) m)
        | inr (inl e) ↦ absurd (ran.takes_none y x j i (gn ∙ e) u)
        | inr (inr m) ↦ inr (subst (λ z. In z ns) (sym gn) m)
      ]

  all_ran : (ns : List ℕ) (b : Book) → Core orders q want (onto old b) → LeftToRun q ns b.resting → Core orders q want (onto old (re_enter rule q ns b)) × Quiet q (re_enter rule q ns b).resting
  unfolding re_enter
  all_ran [] b core left = (core, λ x y i j t u. elim (left x y i j t u) [ inl k ↦ k | inr k ↦ k ])
  all_ran (n ∷ ns) b core left =
      let ran = rerun_ran n b core in
      all_ran ns (run_again rule q n b) ran.core (rerun_left n ns b (run_again rule q n b) ran left)

-- The whole call.

same_price_is : (x y : Option Price) → same_price x y ≡ true → x ≡ y
same_price_is None None h = refl
same_price_is None (Some p) h = cc
same_price_is (Some p) None h = cc
same_price_is (Some p) (Some r) h = ap (λ (n : ℕ). Some (record { quarters = n })) (eqb-true p.quarters r.quarters h)

in_to_end : (test : RestingOrder → Bool) (o : RestingOrder) (os : List RestingOrder) → In o (to_end test os) → In o os
in_to_end test o os i =
    elim (in_append o (filter (λ o. not (test o)) os) (filter test os) i) [
      | inl k ↦ (in_kept (λ o. not (test o)) o os k).0
      | inr k ↦ (in_kept test o os k).0
    ]

module _ (q r : View) (os : List RestingOrder) (quiet : Quiet q os) where
  moved_left : LeftToRun r (numbers (filter (repriced q r) os)) (to_end (repriced q r) os)
  moved_left x y i j t u = go (repriced q r x) refl (repriced q r y) refl
    where
      in_x : In x os
      in_x = in_to_end (repriced q r) x os i

      in_y : In y os
      in_y = in_to_end (repriced q r) y os j

      go : (b : Bool) → repriced q r x ≡ b → (c : Bool) → repriced q r y ≡ c
          → In x.order.number.number (numbers (filter (repriced q r) os)) ⊎ In y.order.number.number (numbers (filter (repriced q r) os))
      go true e c f = inl (map_in (λ (o : RestingOrder). o.order.number.number) x (filter (repriced q r) os) (kept_in (repriced q r) x os in_x e))
      go false e true f = inr (map_in (λ (o : RestingOrder). o.order.number.number) y (filter (repriced q r) os) (kept_in (repriced q r) y os in_y f))
      go false e false f =
          let px : price q x.order.entry ≡ price r x.order.entry = same_price_is _ _ (not-false _ e) in
          let py : price q y.order.entry ≡ price r y.order.entry = same_price_is _ _ (not-false _ f) in
          absurd (quiet x y in_x in_y (takes_same q r x.order y.order px py ∙ t) (takes_same q r y.order x.order py px ∙ u))

-- a quote that is read from its report is the quote
abbrev pub ReadsBack : Quote → Bool → Type 0
ReadsBack r resumed = quote_of (quote_report r resumed ∷ []) ≡ r

pub requote_keeps : (rule : Rule) → Lawful rule → (resumed : Bool) (r : Quote) → ReadsBack r resumed → (st : State) (old : List Report) (orders : List Order) (want : ℕ → ℕ)
    → Inv st.accepted st.quote (book st.resting old) orders want
    → Inv st.accepted r (onto old (requoted rule resumed r st)) orders want
requote_keeps rule law resumed r reads st old orders want inv =
    let os : List RestingOrder = st.resting in
    let done = all_ran rule law orders inv.unique r want old (numbers (filter (repriced st.quote r) os))
    (record { resting = to_end (repriced st.quote r) os; log = quote_report r resumed ∷ [] })
    (record {
      sums = λ n. omega (arith, inv.core.sums n, lost_cons n (quote_report r resumed) old, same_rests n);
      wanted = λ n. omega (arith, inv.core.wanted n, entered_cons n (quote_report r resumed) old);
      listed = λ o i. inv.core.listed o (in_to_end (repriced st.quote r) o os i);
      filled = λ o i. inv.core.filled o (in_to_end (repriced st.quote r) o os i);
      single = λ n. omega (arith, inv.core.single n, same_count n);
      quoted = reads;
      trades = fair_cons orders _ _ tt inv.core.trades;
    })
    (moved_left st.quote r os inv.quiet) in
    record {
      below = inv.below;
      unique = inv.unique;
      volumes = inv.volumes;
      fresh = inv.fresh;
      core = done.0;
      quiet = done.1;
    }
  where
    same_rests : (n : ℕ) → rests n (to_end (repriced st.quote r) st.resting) ≡ rests n st.resting
    same_rests n = unfold rests in sum_parted (λ (o : RestingOrder). on n o.order.number.number (volume_of o)) (repriced st.quote r) st.resting

    same_count : (n : ℕ) → count n (to_end (repriced st.quote r) st.resting) ≡ count n st.resting
    same_count n = unfold count in sum_parted (counted n) (repriced st.quote r) st.resting
