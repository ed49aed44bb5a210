-- What stays while an order runs. Assumes nothing.
use Rattle.std.proofs.Common.{◌≡◌, ℕ, ◌+◌, ◌<◌, ◌≤◌, min, Bool, true, false, cond, ◌||◌, eqb, ltb, List, [], ◌∷◌, ◌++◌, map, Some, None, Option, sym, refl, ap, ◌∙◌, subst, inl, inr, arith}
use Rattle.std.proofs.Math.Bool.{or_comm}
use Rattle.std.proofs.lemmas.Bool.{both_ways, eqb-true, eq-eqb, or_cases, cond_both}
use Rattle.types.specs.declared.money.Price.{Price}
use Rattle.types.specs.declared.orders.Order.{Order}
use Rattle.types.specs.declared.orders.RestingOrder.{RestingOrder}
use Rattle.types.specs.declared.orders.Side.{Side}
use Rattle.types.specs.declared.orders.Side.TheVariants.{Buy, Sell}
use Rattle.types.specs.declared.orders.StpInstruction.{StpInstruction}
use Rattle.types.specs.declared.orders.StpInstruction.TheVariants.{Off, TradeAndSuppress, CancelAndDecrement, CancelNewest, CancelOldest}
use Rattle.types.specs.declared.reports.Report.{Report}
use Rattle.types.specs.declared.reports.ReportKind.TheVariants as kind
use Rattle.types.specs.Reports.{side_mark, price_or_zero}
use Rattle.prices.specs.Prices.{View, price, is_peg, opposite, middle}
use Rattle.priority.specs.Priority.{Rule, Lawful, better}
use Rattle.runs.specs.Lists.{In}
use Rattle.runs.specs.Slices.{Slice, volume_of, amount, takes, offered, ahead}
use Rattle.runs.specs.Meetings.{Effect, trade_of, trading, smaller_out, prevents, by_instruction, meeting}
use Rattle.runs.specs.Runs.{Progress, holding, meet, run}
use Rattle.runs.proofs.Lists.{at_in, map_in, sum_append, sum_at_place, map_at_place, in_sum, in_sum_le}
use Rattle.runs.proofs.Slices.{slice_ok, has_slice, ahead_price}
use Rattle.runs.proofs.Runs.{Top, run_keep}
use Rattle.rules.specs.Accounts.{on, lost_by, entered_by, lost, entered, left_by_reports, limit_in_force, rests, quote_of, active_side}
use Rattle.rules.specs.Laws.{FairTrade, FairReport}
use Rattle.rules.proofs.Prices.{takes_parts, not_itself, Fair, fair, peg_middle, Cross, crossed, or_peg}
use Rattle.rules.proofs.Meetings.{even}

-- each report of the log is fair, with the reports before it
unfoldable pub AllFair : List Order → List Report → Type 0
AllFair os [] = Unit {0}
AllFair os (r ∷ log) = FairReport os log r × AllFair os log

-- What the reports of a meeting say of the quote and of trades.

module _ (os : List Order) (log : List Report) (old : AllFair os log) where
  abbrev More : List Report → Type 0
  More rs = (quote_of (rs ++ log) ≡ quote_of log) × AllFair os (rs ++ log)

  trade_more : (side : Side) (x y : Order) (p : Price) (v : ℕ) (sup : Bool) → FairReport os log (trade_of side x y p v sup) → More (trade_of side x y p v sup ∷ [])
  unfolding AllFair
  trade_more Buy x y p v sup h = (refl, (h, old))
  trade_more Sell x y p v sup h = (refl, (h, old))

  smaller_more : (a : Order) (left : ℕ) (o : RestingOrder) → More (smaller_out a left o).reports
  unfolding smaller_out AllFair
  smaller_more a left o =
      cond_both (ltb left (volume_of o)) _ _ (λ (f : Effect). More f.reports) (λ _. (refl, (tt, (tt, old))))
      (λ _. cond_both (ltb (volume_of o) left) _ _ (λ (f : Effect). More f.reports) (λ _. (refl, (tt, (tt, old)))) (λ _. (refl, (tt, (tt, old)))))

  -- the trade that a meeting would make
  abbrev TradeFair : View → Order → ℕ → Slice → Type 0
  TradeFair q a left s = (sup : Bool) → FairReport os log (trade_of a.entry.side a s.resting.order (offered q s.resting) (min left (amount s)) sup)

  by_more : (i : Option StpInstruction) (q : View) (a : Order) (left : ℕ) (s : Slice) → TradeFair q a left s → More (by_instruction i q a left s).reports
  unfolding trading AllFair
  by_more None q a left s h = trade_more a.entry.side _ _ _ _ false (h false)
  by_more (Some Off) q a left s h = trade_more a.entry.side _ _ _ _ false (h false)
  by_more (Some TradeAndSuppress) q a left s h = trade_more a.entry.side _ _ _ _ true (h true)
  by_more (Some CancelAndDecrement) q a left s h = smaller_more a left s.resting
  by_more (Some CancelNewest) q a left s h = (refl, (tt, old))
  by_more (Some CancelOldest) q a left s h = (refl, (tt, old))

  effect_more : (q : View) (a : Order) (left : ℕ) (s : Slice) → TradeFair q a left s → More (meeting q a left s).reports
  unfolding meeting
  effect_more q a left s h = by_more (prevents a s.resting.order) q a left s h

-- `want` is what was entered of each number, `rows` the orders on the list.
pub record Sound (orders : List Order) (q : View) (a : Order) (want : ℕ → ℕ) (rows : List Order) (st : Progress) : Type 0 where
  pub sums : (n : ℕ) → want n ≡ lost n st.log + rests n st.others + on n a.number.number st.left
  pub wanted : (n : ℕ) → entered n st.log ≡ want n
  pub same_rows : map (λ o. o.order) st.others ≡ rows
  pub quoted : quote_of st.log ≡ q
  pub trades : AllFair orders st.log

-- What is known of the orders of the day.
pub record Known (orders : List Order) (a : Order) (rows : List Order) : Type 0 where
  pub unique : (x y : Order) → In x orders → In y orders → x.number.number ≡ y.number.number → x ≡ y
  pub listed : (x : Order) → In x rows → In x orders
  pub active : In a orders

pub on_pos : (n m v : ℕ) → 0 < on n m v → (n ≡ m) × (0 < v)
on_pos n m v h = go (eqb n m) refl h
  where
    go : (b : Bool) → eqb n m ≡ b → 0 < cond b v 0 → (n ≡ m) × (0 < v)
    go true e h = (eqb-true n m e, h)
    go false e h = absurd (omega arith)

-- an order's limit is its entry's
limit_stays : (log : List Report) (o : Order) → limit_in_force log o ≡ o.entry.limit
unfolding limit_in_force
limit_stays log o = refl

amount_within : (s : Slice) → amount s ≤ volume_of s.resting
amount_within s = go s.hidden
  where
    go : (b : Bool) → cond b s.resting.reserve.shares s.resting.shown.shares ≤ s.resting.shown.shares + s.resting.reserve.shares
    go true = omega arith
    go false = omega arith

marked : (s : Side) (sup : Bool) → active_side (side_mark s + cond sup 4 0) ≡ s
marked Buy true = refl
marked Buy false = refl
marked Sell true = refl
marked Sell false = refl

module _ (rule : Rule) (law : Lawful rule) (orders : List Order) (q : View) (a : Order) (want : ℕ → ℕ) (rows : List Order) (known : Known orders a rows) where
  -- an accepted order that the reports leave volume, and that a may take, is on the list with volume
  open_rests : (st : Progress) → Sound orders q a want rows st → (e : Order) → In e orders → 0 < left_by_reports e.number.number st.log
      → takes q a e ≡ true → (o : RestingOrder) × In o st.others × (o.order ≡ e) × (0 < volume_of o)
  unfolding rests
  open_rests st sound e i h t = go (eqb e.number.number a.number.number) refl
    where
      go : (b : Bool) → eqb e.number.number a.number.number ≡ b → (o : RestingOrder) × In o st.others × (o.order ≡ e) × (0 < volume_of o)
      go true x =
          let same : e ≡ a = known.unique e a i known.active (eqb-true _ _ x) in
          absurd (both_ways (takes q a e) (ap (takes q a) same ∙ not_itself q a) t)
      go false x =
          let none : on e.number.number a.number.number st.left ≡ 0 = ap (λ b. cond b st.left 0) x in
          let (o, j, p) = in_sum (λ (o : RestingOrder). on e.number.number o.order.number.number (volume_of o)) st.others
          (unfold rests in omega (arith, sound.sums e.number.number, sound.wanted e.number.number, none)) in
          let (m, v) = on_pos e.number.number o.order.number.number (volume_of o) p in
          let row : In o.order rows = subst (In o.order) sound.same_rows (map_in (λ (o : RestingOrder). o.order) o st.others j) in
          (o, j, known.unique o.order e (known.listed o.order row) i (sym m), v)

  -- no order that a may take has a price better than p
  abbrev Best : List Report → Price → Type 0
  Best log p = (e : Order) (r : Price) → In e orders → 0 < left_by_reports e.number.number log → takes q a e ≡ true → price q e.entry ≡ Some r → better a.entry.side r p ≡ true → ⊥

  -- the slice that no other is ahead of has the best price
  best_price : (st : Progress) → Sound orders q a want rows st → (s : Slice) → Top rule q a st s → Best st.log (offered q s.resting)
  best_price st sound s (i, top) e r j h t er better-so =
      let (o, k, x, v) = open_rests st sound e j h t in
      let (u, l, y) = has_slice q a st.others o k (ap (takes q a) x ∙ t) v in
      let worth : offered q u.resting ≡ r =
      ap (λ (z : RestingOrder). offered q z) y ∙ ap (λ (z : Order). record { quarters = price_or_zero (price q z.entry) }) x ∙ ap (λ (z : Option Price). record { quarters = price_or_zero z }) er in
      both_ways (ahead rule q a u s) (top u l)
      (ahead_price rule law q a u s (subst (λ (z : Price). better a.entry.side z (offered q s.resting) ≡ true) (sym worth) better-so))

  abbrev Pegs : Order → Price → Type 0
  Pegs b p = (is_peg a.entry.kind || is_peg b.entry.kind) ≡ true → middle q ≡ Some p

  -- the trade with an order b at its price p is fair
  module _ (log : List Report) (e : quote_of log ≡ q) (b : Order) (i : In b orders) (pa p : Price) (v m : ℕ) (pegs : Pegs b p) (best : Best log p)
      (own : v ≤ left_by_reports a.number.number log) (its : v ≤ left_by_reports b.number.number log) where
    bought : active_side m ≡ Buy → a.entry.side ≡ Buy → b.entry.side ≡ Sell → Fair Buy a.entry.limit q pa → Fair Sell b.entry.limit q p → Cross Buy pa p
        → FairTrade orders log (record { kind = kind.Trade; order = a.number.number; other = b.number.number; price = p.quarters; volume = v; mark = m })
    bought me ax by f g l =
        record {
          buyer = a;
          seller = b;
          buyer_known = known.active;
          seller_known = i;
          buyer_number = refl;
          seller_number = refl;
          buyer_side = ax;
          seller_side = by;
          buyer_has = own;
          seller_has = its;
          low = rw (limit_stays log b) g.0;
          high = rw (limit_stays log a) (omega (arith, f.0));
          bid = rw e g.1;
          offer = rw e (λ o k. omega (arith, f.1 o k));
          peg = rw e pegs;
          best = rw (e, me) (λ d r j k t pr w. best d r j k t pr (subst (λ (s : Side). better s r p ≡ true) (sym ax) w));
        }

    sold : active_side m ≡ Sell → a.entry.side ≡ Sell → b.entry.side ≡ Buy → Fair Sell a.entry.limit q pa → Fair Buy b.entry.limit q p → Cross Sell pa p
        → FairTrade orders log (record { kind = kind.Trade; order = b.number.number; other = a.number.number; price = p.quarters; volume = v; mark = m })
    sold me ax by f g l =
        record {
          buyer = b;
          seller = a;
          buyer_known = i;
          seller_known = known.active;
          buyer_number = refl;
          seller_number = refl;
          buyer_side = by;
          seller_side = ax;
          buyer_has = its;
          seller_has = own;
          low = rw (limit_stays log a) (omega (arith, f.0));
          high = rw (limit_stays log b) g.0;
          bid = rw e (λ o k. omega (arith, f.1 o k));
          offer = rw e g.1;
          peg = rw e (λ k. pegs (or_comm (is_peg a.entry.kind) (is_peg b.entry.kind) ∙ k));
          best = rw (e, me) (λ d r j k t pr w. best d r j k t pr (subst (λ (s : Side). better s r p ≡ true) (sym ax) w));
        }

  fair_with : (log : List Report) → quote_of log ≡ q → (b : Order) → In b orders → (pa p : Price) (v : ℕ) (sup : Bool) → Pegs b p → Best log p
      → v ≤ left_by_reports a.number.number log → v ≤ left_by_reports b.number.number log
      → (x y : Side) → a.entry.side ≡ x → b.entry.side ≡ y → opposite x y ≡ true → Fair x a.entry.limit q pa → Fair y b.entry.limit q p → Cross x pa p
      → FairReport orders log (trade_of x a b p v sup)
  fair_with log e b i pa p v sup m h own its Buy Buy ax by o f g l = cc
  fair_with log e b i pa p v sup m h own its Sell Sell ax by o f g l = cc
  fair_with log e b i pa p v sup m h own its Buy Sell ax by o f g l = bought log e b i pa p v _ m h own its (marked Buy sup) ax by f g l
  fair_with log e b i pa p v sup m h own its Sell Buy ax by o f g l = sold log e b i pa p v _ m h own its (marked Sell sup) ax by f g l

  -- the reports leave the active order what is left of it, and a resting one its volume
  active_has : (st : Progress) → Sound orders q a want rows st → st.left ≤ left_by_reports a.number.number st.log
  active_has st sound =
      let n : ℕ = a.number.number in
      let here : on n n st.left ≡ st.left = ap (λ b. cond b st.left 0) (eq-eqb n n refl) in
      omega (arith, sound.sums n, sound.wanted n, here)

  resting_has : (st : Progress) → Sound orders q a want rows st → (o : RestingOrder) → In o st.others → volume_of o ≤ left_by_reports o.order.number.number st.log
  unfolding rests
  resting_has st sound o i =
      let n : ℕ = o.order.number.number in
      let here : on n n (volume_of o) ≡ volume_of o = ap (λ b. cond b (volume_of o) 0) (eq-eqb n n refl) in
      omega (arith, sound.sums n, sound.wanted n, here, in_sum_le (λ (o : RestingOrder). on n o.order.number.number (volume_of o)) o st.others i)

  -- the trade with the slice that no other is ahead of is fair
  fair_trade : (st : Progress) → Sound orders q a want rows st → (s : Slice) → Top rule q a st s → (v : ℕ) → v ≤ st.left → v ≤ amount s → (sup : Bool)
      → FairReport orders st.log (trade_of a.entry.side a s.resting.order (offered q s.resting) v sup)
  fair_trade st sound s (i, top) v less-own less-its sup =
      let b : Order = s.resting.order in
      let ok = slice_ok q a st.others s i in
      let t = takes_parts q a b ok.taken in
      let (pa, p, ap', rp, low) = crossed a.entry.side (price q a.entry) (price q b.entry) t.cross in
      let b_known : In b orders =
      known.listed b (subst (In b) sound.same_rows (map_in (λ (o : RestingOrder). o.order) s.resting st.others (at_in st.others s.place s.resting ok.at))) in
      let worth : offered q s.resting ≡ p = ap (λ (z : Option Price). record { quarters = price_or_zero z }) rp in
      let own : v ≤ left_by_reports a.number.number st.log = omega (arith, active_has st sound) in
      let its : v ≤ left_by_reports b.number.number st.log =
      omega (arith, amount_within s, resting_has st sound s.resting (at_in st.others s.place s.resting ok.at)) in
      let pegs : Pegs b p =
      λ h. peg_middle b.entry.kind b.entry.side q b.entry.limit p rp
      (elim (or_cases (is_peg a.entry.kind) (is_peg b.entry.kind) h) [ inl k ↦ or_peg (is_peg a.entry.kind) (is_peg b.entry.kind) t.pegs k | inr k ↦ k ]) in
      subst (λ (z : Price). FairReport orders st.log (trade_of a.entry.side a b z v sup)) (sym worth)
      (fair_with st.log sound.quoted b b_known pa p v sup pegs (subst (Best st.log) worth (best_price st sound s (i, top))) own its a.entry.side b.entry.side refl refl t.sides
      (fair a.entry.kind a.entry.side q a.entry.limit pa ap') (fair b.entry.kind b.entry.side q b.entry.limit p rp) low)

  step : (st : Progress) → Sound orders q a want rows st → (s : Slice) → Top rule q a st s → Sound orders q a want rows (meet q a st s)
  unfolding meet lost entered rests
  step st sound s (i, top) =
      let ok = slice_ok q a st.others s i in
      let f : Effect = meeting q a st.left s in
      let more = effect_more orders st.log sound.trades q a st.left s (λ sup. fair_trade st sound s (i, top) (min st.left (amount s)) (omega arith) (omega arith) sup) in
      record {
        sums = λ n. omega (
          arith,
          sound.sums n,
          sum_append (lost_by n) f.reports st.log,
          (even n q a st.left s).sums,
          sum_at_place (λ (o : RestingOrder). on n o.order.number.number (volume_of o)) (holding f.shown f.reserve) s.place s.resting st.others ok.at,
        );
        wanted = λ n. omega (arith, sound.wanted n, sum_append (entered_by n) f.reports st.log, (even n q a st.left s).none);
        same_rows = map_at_place (λ (o : RestingOrder). o.order) (holding f.shown f.reserve) s.place st.others (λ _. refl) ∙ sound.same_rows;
        quoted = more.0 ∙ sound.quoted;
        trades = more.1;
      }

  -- a run keeps what is sound
  pub run_sound : (st : Progress) → Sound orders q a want rows st → Sound orders q a want rows (run rule q a st)
  run_sound st sound = run_keep rule q a (Sound orders q a want rows) step st sound
