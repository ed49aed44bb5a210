-- Every call keeps what holds between the calls, so a day does. Assumes nothing.
use Rattle.std.proofs.Common.{◌≡◌, ℕ, suc, ◌+◌, ◌≤◌, Bool, true, false, cond, not, eqb, List, [], ◌∷◌, ◌++◌, map, reverse, length, Some, None, Ok, Err, filter, Option, sym, refl, ap, ◌∙◌, subst, append_assoc, arith}
use mathlib.Core.List.{reverse-cons}
use Rattle.std.proofs.lemmas.List.{reverse-append, reverse-reverse}
use Rattle.std.proofs.lemmas.Bool.{eqb-true, eqb-false, cond_both}
use Rattle.types.specs.declared.calls.Call.{Call}
use Rattle.types.specs.declared.calls.Call.TheVariants as call
use Rattle.types.specs.declared.calls.Enrolment.{Enrolment}
use Rattle.types.specs.declared.money.Lot.{Lot}
use Rattle.types.specs.declared.orders.Broker.{Broker}
use Rattle.types.specs.declared.orders.Entry.{Entry}
use Rattle.types.specs.declared.orders.Order.{Order}
use Rattle.types.specs.declared.orders.OrderNumber.{OrderNumber}
use Rattle.types.specs.declared.orders.RestingOrder.{RestingOrder}
use Rattle.types.specs.declared.quotes.Quote.{Quote}
use Rattle.types.specs.declared.reports.CancelReason.TheVariants as why
use Rattle.types.specs.declared.reports.Report.{Report}
use Rattle.types.specs.Reports.{cancelled, halted, closed}
use Rattle.faults.specs.declared.layers.ChannelFault.{ChannelFault}
use Rattle.checks.specs.Checks.{Checked, check}
use Rattle.priority.specs.Priority.{Rule, Lawful}
use Rattle.runs.specs.Lists.{In, sum_of}
use Rattle.runs.specs.Slices.{volume_of}
use Rattle.runs.specs.Meetings.{shares}
use Rattle.runs.proofs.Lists.{in_kept, sum_kept}
use Rattle.rules.specs.declared.SetUp.{SetUp}
use Rattle.rules.specs.SetUps.{lot_in}
use Rattle.rules.specs.Accounts.{on, lost, entered, rests, quote_of}
use Rattle.rules.specs.States.{State, Book, Made}
use Rattle.rules.specs.Entering.{numbered, entry_book, enter}
use Rattle.rules.specs.Requotes.{requoted, requote}
use Rattle.rules.specs.Calls.{enrolled, broker_of, has_number, cancel, halt, cancelled_at_close, close, enrol, made}
use Rattle.rules.specs.Refusals.{Ground, first_fault, by_fields, by_state, grounds, room}
use Rattle.rules.specs.Served.{settled, served}
use Rattle.rules.specs.Days.{Day, opening, add, answer, day_of}
use Rattle.rules.specs.Laws.{FairReport, DayOk, DayLaw}
use Rattle.rules.proofs.Sound.{AllFair}
use Rattle.rules.proofs.Tidied.{counted, count}
use Rattle.rules.proofs.Inv.{Core, Inv, onto, book, lost_cons, entered_cons, fair_cons}
use Rattle.rules.proofs.Enter.{enter_keeps}
use Rattle.rules.proofs.Requote.{ReadsBack, requote_keeps}
use Rattle.rules.proofs.Quotes.{quote_reads}

-- what is left of the number m when the orders of the number n go
others_rest : (n m : ℕ) (os : List RestingOrder) → rests m os ≡ on m n (rests n os) + rests m (filter (λ o. not (has_number n o)) os)
unfolding rests
others_rest n m [] = cond_both (eqb m n) _ _ (λ x. 0 ≡ x + 0) (λ _. refl) (λ _. refl)
others_rest n m (o ∷ os) = go (eqb n o.order.number.number) refl (eqb m n) refl (eqb m o.order.number.number) refl (others_rest n m os)
  where
    w : ℕ → List RestingOrder → ℕ
    w k = sum_of (λ (o : RestingOrder). on k o.order.number.number (volume_of o))

    kept : List RestingOrder
    kept = filter (λ o. not (has_number n o)) os

    go : (b : Bool) → eqb n o.order.number.number ≡ b → (c : Bool) → eqb m n ≡ c → (d : Bool) → eqb m o.order.number.number ≡ d → w m os ≡ cond c (w n os) 0 + w m kept
        → cond d (volume_of o) 0 + w m os ≡ cond c (cond b (volume_of o) 0 + w n os) 0 + w m (cond (not b) (o ∷ kept) kept)
    go true e true f true g h = omega arith
    go true e true f false g h = absurd (eqb-false _ _ g (eqb-true _ _ f ∙ eqb-true _ _ e))
    go true e false f true g h = absurd (eqb-false _ _ f (eqb-true _ _ g ∙ sym (eqb-true _ _ e)))
    go true e false f false g h = omega arith
    go false e true f true g h = absurd (eqb-false _ _ e (sym (eqb-true _ _ f) ∙ eqb-true _ _ g))
    go false e true f false g h = omega (arith, ap (λ (b : Bool). cond b (volume_of o) 0) g)
    go false e false f true g h = omega (arith, ap (λ (b : Bool). cond b (volume_of o) 0) g)
    go false e false f false g h = omega (arith, ap (λ (b : Bool). cond b (volume_of o) 0) g)

-- what holds of a state, after the reports of the log and with the orders accepted
abbrev Holds : State → List Report → List Order → Type 0
Holds st log os = (want : ℕ → ℕ) × Inv st.accepted st.quote (book st.resting log) os want

abbrev Kept : List Report → List Order → Made → Type 0
Kept old os m = Holds m.state (reverse m.reports ++ old) (m.orders ++ os)

-- a call that changes the book alone
same_orders : (n : ℕ) (q : Quote) (b c : Book) (os : List Order) (want : ℕ → ℕ) → Inv n q b os want → Core os q want c → ((o : RestingOrder) → In o c.resting → In o b.resting) → Inv n q c os want
same_orders n q b c os want inv core part = record {
  below = inv.below;
  unique = inv.unique;
  volumes = inv.volumes;
  fresh = inv.fresh;
  core = core;
  quiet = λ x y i j. inv.quiet x y (part x i) (part y j);
}

cancel_keeps : (n : OrderNumber) (st : State) (old : List Report) (os : List Order) → Holds st old os → Kept old os (cancel n st)
unfolding cancel
cancel_keeps n st old os (want, inv) =
    let rs : List RestingOrder = st.resting in
    let gone : RestingOrder → Bool = λ o. not (has_number n.number o) in
    let r : Report = cancelled n (shares (rests n.number rs)) why.Requested in (
      want,
      same_orders _ _ _ _ os want inv
          (record {
            sums = λ m. omega (arith, inv.core.sums m, lost_cons m r old, others_rest n.number m rs);
            wanted = λ m. omega (arith, inv.core.wanted m, entered_cons m r old);
            listed = λ o i. inv.core.listed o (in_kept gone o rs i).0;
            filled = λ o i. inv.core.filled o (in_kept gone o rs i).0;
            single = λ m. omega (arith, inv.core.single m, fewer m);
            quoted = inv.core.quoted;
            trades = fair_cons os _ _ tt inv.core.trades;
          })
          (λ o i. (in_kept gone o rs i).0),
    )
  where
    fewer : (m : ℕ) → count m (filter (λ o. not (has_number n.number o)) st.resting) ≤ count m st.resting
    fewer m = unfold count in sum_kept (counted m) (λ o. not (has_number n.number o)) st.resting

halt_keeps : (st : State) (old : List Report) (os : List Order) → Holds st old os → Kept old os (halt st)
unfolding halt
halt_keeps st old os (want, inv) = (
  want,
  same_orders _ _ _ _ os want inv
      (record {
        sums = λ n. omega (arith, inv.core.sums n, lost_cons n halted old);
        wanted = λ n. omega (arith, inv.core.wanted n, entered_cons n halted old);
        listed = inv.core.listed;
        filled = inv.core.filled;
        single = inv.core.single;
        quoted = inv.core.quoted;
        trades = fair_cons os _ _ tt inv.core.trades;
      })
      (λ o i. i),
)

-- reports that are put one after the other
abbrev put_all : List Report → List Report → List Report
put_all [] log = log
put_all (r ∷ rs) log = put_all rs (r ∷ log)

put_reversed : (rs log : List Report) → put_all rs log ≡ reverse rs ++ log
put_reversed [] log = refl
put_reversed (r ∷ rs) log = put_reversed rs (r ∷ log) ∙ sym (append_assoc (reverse rs) (r ∷ []) log) ∙ ap (λ (z : List Report). z ++ log) (sym (reverse-cons r rs))

module _ (os : List Order) where
  abbrev gone : List RestingOrder → List Report → List Report
  gone rs log = put_all (map cancelled_at_close rs) log

  all_gone : (rs : List RestingOrder) (log : List Report) → AllFair os log
      → ((n : ℕ) → lost n (gone rs log) ≡ lost n log + rests n rs) × ((n : ℕ) → entered n (gone rs log) ≡ entered n log) × (quote_of (gone rs log) ≡ quote_of log) × AllFair os (gone rs log)
  unfolding rests
  all_gone [] log t = (λ n. omega arith, λ n. refl, refl, t)
  all_gone (o ∷ rs) log t =
      let r : Report = cancelled_at_close o in
      let (l, e, q, k) = all_gone rs (r ∷ log) (fair_cons os r log tt t) in
      (λ n. omega (arith, l n, lost_cons n r log), λ n. omega (arith, e n, entered_cons n r log), q, k)

close_keeps : (st : State) (old : List Report) (os : List Order) → Holds st old os → Kept old os (close st)
unfolding close
close_keeps st old os (want, inv) =
    let (l, e, q, k) = all_gone os st.resting old inv.core.trades in
    let log : List Report = gone os st.resting old in
    let whole : Core os st.quote want (book [] (closed ∷ log)) = record {
      sums = λ n. omega (arith, inv.core.sums n, lost_cons n closed log, l n, none_rest n);
      wanted = λ n. omega (arith, inv.core.wanted n, entered_cons n closed log, e n);
      listed = λ o i. absurd i;
      filled = λ o i. absurd i;
      single = λ n. none n;
      quoted = q ∙ inv.core.quoted;
      trades = fair_cons os _ _ tt k;
    } in
    (want, same_orders _ _ (book st.resting old) _ os want inv (subst (λ (z : List Report). Core os st.quote want (book [] z)) (in_sequence st.resting) whole) (λ o i. absurd i))
  where
    none_rest : (n : ℕ) → rests n [] ≡ 0
    none_rest n = unfold rests in refl

    none : (n : ℕ) → count n [] ≤ 1
    none n = unfold count in omega arith

    in_sequence : (rs : List RestingOrder) → closed ∷ gone os rs old ≡ reverse (map cancelled_at_close rs ++ (closed ∷ [])) ++ old
    in_sequence rs =
        ap (λ (z : List Report). closed ∷ z) (put_reversed (map cancelled_at_close rs) old)
        ∙ ap (λ (z : List Report). z ++ old) (sym (reverse-append (map cancelled_at_close rs) (closed ∷ [])))

enrol_keeps : (e : Enrolment) (st : State) (old : List Report) (os : List Order) → Holds st old os → Kept old os (enrol e st)
unfolding enrol
enrol_keeps e st old os h = h

-- the reports of a book, turned twice
turned_twice : (old : List Report) (b : Book) → onto old b ≡ book b.resting (reverse (reverse b.log) ++ old)
turned_twice old b = ap (λ (z : List Report). book b.resting (z ++ old)) (sym (reverse-reverse b.log))

module _ (rule : Rule) (law : Lawful rule) where
  entered_keeps : (broker : Broker) (e : Entry) (st : State) (old : List Report) (os : List Order) → Holds st old os → Kept old os (enter rule broker e st)
  unfolding enter
  entered_keeps broker e st old os (want, inv) =
      let o : Order = numbered st broker e in
      let (want', inv') = enter_keeps rule law st.accepted st.quote st.resting old os want inv o refl in
      (want', subst (λ (b : Book). Inv (suc st.accepted) st.quote b (o ∷ os) want') (turned_twice old (entry_book rule o st)) inv')

  quoted_keeps : (resumed : Bool) (q : Quote) → ReadsBack q resumed → (st : State) (old : List Report) (os : List Order) → Holds st old os → Kept old os (requote rule resumed q st)
  unfolding requote
  quoted_keeps resumed q reads st old os (want, inv) =
      (want, subst (λ (b : Book). Inv st.accepted q b os want) (turned_twice old (requoted rule resumed q st)) (requote_keeps rule law resumed q reads st old os want inv))

  made_keeps : (lot : Lot) (c : Call) → check lot c ≡ Ok tt → (st : State) (old : List Report) (os : List Order) → Holds st old os → Kept old os (made rule c st)
  made_keeps lot (call.Enter e) ok st old os h = entered_keeps (broker_of (enrolled e.trader st.traders)) e st old os h
  made_keeps lot (call.Cancel c) ok st old os h = cancel_keeps c.order st old os h
  made_keeps lot (call.Quote q) ok st old os h = quoted_keeps false q (quote_reads q false ok) st old os h
  made_keeps lot call.Halt ok st old os h = halt_keeps st old os h
  made_keeps lot (call.Resume q) ok st old os h = quoted_keeps true q (quote_reads q true ok) st old os h
  made_keeps lot call.Close ok st old os h = close_keeps st old os h
  made_keeps lot (call.Enrol e) ok st old os h = enrol_keeps e st old os h

  -- a call with no ground for refusal has passed its checks
  passed : (x : Checked) (gs hs : List Ground) → first_fault ((by_fields x ++ gs) ++ hs) ≡ None → x ≡ Ok tt
  passed (Ok u) gs hs e = refl
  passed (Err f) gs hs e = cc

  abbrev Fine : Day → Type 0
  Fine d = Holds d.state d.log d.orders

  answer_keeps : (s : SetUp) (d : Day) (c : Call) → Fine d → Fine (answer s rule d c)
  unfolding served
  answer_keeps s d c h = go (first_fault (grounds s c d.state ++ room s d.state (length m.reports))) refl
    where
      m : Made
      m = made rule c d.state

      go : (x : Option ChannelFault) → first_fault (grounds s c d.state ++ room s d.state (length m.reports)) ≡ x → Fine (add d (settled x d.state m))
      go None e = made_keeps (lot_in s) c (passed (check (lot_in s) c) (by_state s c d.state) (room s d.state (length m.reports)) e) d.state d.log d.orders h
      go (Some f) e = h

  day_keeps : (s : SetUp) (d : Day) (cs : List Call) → Fine d → Fine (day_of s rule d cs)
  unfolding day_of
  day_keeps s d [] h = h
  day_keeps s d (c ∷ cs) h = day_keeps s (answer s rule d c) cs (answer_keeps s d c h)

opening_holds : (space : ℕ) → Holds (opening space).state [] []
opening_holds space = (
  λ n. 0,
  record {
    below = λ e i. absurd i;
    unique = λ e f i j h. absurd i;
    volumes = λ e i. absurd i;
    fresh = λ n h. refl;
    core = record {
      sums = λ n. unfold lost rests in refl;
      wanted = λ n. unfold entered in refl;
      listed = λ o i. absurd i;
      filled = λ o i. absurd i;
      single = λ n. unfold count in omega arith;
      quoted = refl;
      trades = unfold AllFair in tt;
    };
    quiet = λ x y i j. absurd i;
  },
)

-- each report of the log, with those behind it
each_fair : (os : List Order) (xs ys log : List Report) (r : Report) → log ≡ xs ++ (r ∷ ys) → AllFair os log → FairReport os ys r
each_fair os xs ys log r e h = go xs (subst (AllFair os) e h)
  where
    go : (xs : List Report) → AllFair os (xs ++ (r ∷ ys)) → FairReport os ys r
    go [] h = unfold AllFair in h.0
    go (x ∷ xs) h = go xs (unfold AllFair in h.1)

turned : (log before behind : List Report) (r : Report) → reverse log ≡ before ++ (r ∷ behind) → log ≡ reverse behind ++ (r ∷ reverse before)
turned log before behind r e =
    sym (reverse-reverse log) ∙ ap reverse e ∙ reverse-append before (r ∷ behind) ∙ ap (λ z. z ++ reverse before) (reverse-cons r behind) ∙ append_assoc (reverse behind) (r ∷ []) (reverse before)

day_ok : (d : Day) → Holds d.state d.log d.orders → DayOk d
day_ok d (w, inv) = record {
  conserved = λ o i. omega (arith, inv.volumes o i, inv.core.sums o.number.number);
  fair = λ before behind r e. each_fair d.orders (reverse behind) (reverse before) d.log r (turned d.log before behind r e) inv.core.trades;
  quiet = inv.quiet;
}

pub day_law : DayLaw
day_law s rule law space calls = day_ok (day_of s rule (opening space) calls) (day_keeps rule law s (opening space) calls (opening_holds space))
