-- Each step of the tidying leaves the time list that comes of it as it is. Assumes nothing.
use Rattle.std.proofs.Common.{◌≡◌, ℕ, suc, ◌+◌, ◌-◌, ◌%◌, ◌<◌, ◌≤◌, min, Bool, true, false, cond, not, ◌&&◌, eqb, ltb, List, [], ◌∷◌, ◌++◌, map, length, get_or, set, filter, is_some, Some, None, IfSome, IfNone, Option, sym, refl, ap, ◌∙◌, subst, append_assoc, append-nil, mod-lt, arith}
use Rattle.std.specs.List.{remove, count_by}
use Rattle.std.proofs.lemmas.Bool.{both_ways, and_parts, ltb-true, ltb-false, lt-ltb, cond-true, cond-false}
use Rattle.std.proofs.lemmas.Bool.Decides.{nat_tests}
use Rattle.std.proofs.lemmas.List.{set-get_or}
use Rattle.std.proofs.lemmas.List.Elements.{filter-append}
use Rattle.std.proofs.lemmas.List.Sums.{sum_by-set, sum_by-le}
use Rattle.types.specs.declared.orders.RestingOrder.{RestingOrder}
use Rattle.checks.specs.Values.{is_iceberg}
use Rattle.runs.specs.Slices.{volume_of}
use Rattle.runs.specs.Runs.{resting, spent, stays, refreshed, refresh, tidied}
use Rattle.table.specs.declared.records.OrderRecord.{OrderRecord}
use Rattle.table.specs.Sequence.{Orders, blank_record, place_at, rests_at, held, record_at, in_turn, in_sequence, resting_of, rank, Distinct, Older}
use Rattle.table.proofs.Kept.{rests_within, places}
use Rattle.table.proofs.Ranks.{standing, rank_later}
use Rattle.table.proofs.Ranks as ranks
use Rattle.table.proofs.Turns as turns
use Rattle.table.proofs.Resting as list
use Rattle.matching.specs.Running.{SameOrders, MayRest, AllMayRest}
use Rattle.tidying.specs.Tidying.{fresh, undrawn, renewed, spends, settled, to_tidy, Undrawn, Since, DrawnSince, Settled, Oldest}
use Rattle.tidying.proofs.Kept.{kept_removed, kept_set, kept_first, kept_all, kept_none}

abbrev spent_one : OrderRecord → Bool
spent_one r = spent r.resting

-- A spent order does not stay, and neither does one that is used up.
spent_goes : (o : RestingOrder) → spent o ≡ true → stays o ≡ false
spent_goes o e = grind (arith, nat_tests)

used_up_goes : (o : RestingOrder) → ltb 0 (volume_of o) ≡ false → stays o ≡ false
used_up_goes o e = grind (arith, nat_tests)

spent_reserve : (o : RestingOrder) → spent o ≡ true → 0 < o.reserve.shares
spent_reserve o e = grind (arith, nat_tests)

spent_shown : (o : RestingOrder) → spent o ≡ true → o.shown.shares ≡ 0
spent_shown o e = grind (arith, nat_tests)

used_up_not_spent : (o : RestingOrder) → ltb 0 (volume_of o) ≡ false → spent o ≡ false
used_up_not_spent o e = grind (arith, nat_tests)

-- What is refreshed stays.
fresh_shown : (r : OrderRecord) → 0 < r.resting.order.entry.display.shares → spent r.resting ≡ true → 0 < (fresh r).shown.shares
fresh_shown r d e = omega (arith, mod-lt r.drawn d, spent_reserve r.resting e)

shown_not_spent : (o : RestingOrder) → 0 < o.shown.shares → spent o ≡ false
shown_not_spent o h = grind (arith, nat_tests)

shown_stays : (o : RestingOrder) → 0 < o.shown.shares → stays o ≡ true
shown_stays o h = grind (arith, nat_tests)

-- What a place is that spends.
spends_rests : (x : Option OrderRecord) → spends x ≡ true → is_some x ≡ true
spends_rests None e = cc
spends_rests (Some r) e = refl

spent_rests : (x : Option OrderRecord) → spent (held x).resting ≡ true → is_some x ≡ true
spent_rests None e = cc
spent_rests (Some r) e = refl

spends_is : (x : Option OrderRecord) → is_some x ≡ true → spends x ≡ spent (held x).resting
spends_is None e = cc
spends_is (Some r) e = refl

-- A spent order is an iceberg.
pub spent_iceberg : (o : RestingOrder) → spent o ≡ true → is_iceberg o.order.entry.kind ≡ true
spent_iceberg o e = (and_parts (is_iceberg o.order.entry.kind) (eqb o.shown.shares 0 && ltb 0 o.reserve.shares) e).0

module _ (os : Orders) (i : ℕ) (distinct : Distinct os) (was : rests_at os i ≡ true) where
  inside : i < length os
  inside = rests_within os i was

  in_list : (rank os i < length (resting_of os)) × (get_or (resting_of os) (rank os i) blank_record.resting ≡ (record_at os i).resting)
  in_list = list.at_rank os i inside was distinct blank_record.resting

  in_turn_at : (rank os i < length (in_sequence os)) × (standing (in_sequence os) (rank os i) ≡ record_at os i)
  in_turn_at = ranks.at_rank os distinct i inside was

  gone_tidy : ltb 0 (volume_of (record_at os i).resting) ≡ false → to_tidy (set os i None) ≡ to_tidy os
  unfolding to_tidy
  gone_tidy e =
      (λ j. filter stays (list.gone os i inside was distinct j) ++ map fresh (filter spent_one (turns.gone os i inside was distinct j)))
      ∙ (λ j. kept_removed stays (resting_of os) (rank os i) blank_record.resting in_list.0 (ap stays in_list.1 ∙ used_up_goes (record_at os i).resting e) j
      ++ map fresh (kept_removed spent_one (in_sequence os) (rank os i) blank_record in_turn_at.0 (ap spent_one in_turn_at.1 ∙ used_up_not_spent (record_at os i).resting e) j))

  undrawn_tidy : spent (record_at os i).resting ≡ false → to_tidy (set os i (Some (undrawn (record_at os i)))) ≡ to_tidy os
  unfolding to_tidy
  undrawn_tidy e =
      (λ j. filter stays (list.changed os i inside was distinct (undrawn (record_at os i)) refl j) ++ map fresh (filter spent_one (turns.changed os i inside was distinct (undrawn (record_at os i)) refl j)))
      ∙ (λ j. filter stays ((ap (set (resting_of os) (rank os i)) (sym in_list.1) ∙ set-get_or (resting_of os) (rank os i) blank_record.resting) j)
      ++ map fresh (kept_set spent_one (in_sequence os) (rank os i) blank_record (undrawn (record_at os i)) in_turn_at.0 (ap spent_one in_turn_at.1 ∙ e) e j))

  -- The oldest spent iceberg is refreshed at the end.
  module _ (next n : ℕ) (older : Older next os) (none : (k : ℕ) → n ≤ k → rests_at os k ≡ false) (oldest : Oldest os n i) (shows : 0 < (record_at os i).resting.order.entry.display.shares) where
    here : spent (record_at os i).resting ≡ true
    here = sym (spends_is (place_at os i) was) ∙ oldest.here

    first : (m : ℕ) → m < rank os i → spent_one (standing (in_sequence os) m) ≡ false
    first m lt =
        let p = in_turn_at.0 in
        let (j, within, up, same, at) = ranks.from_rank os distinct m (omega arith) in
        go j up same at (spent_one (standing (in_sequence os) m)) refl
      where
        go : (j : ℕ) → rests_at os j ≡ true → record_at os j ≡ standing (in_sequence os) m → rank os j ≡ m → (b : Bool) → spent_one (standing (in_sequence os) m) ≡ b → spent_one (standing (in_sequence os) m) ≡ false
        go j up same at false e = e
        go j up same at true e = absurd (omega (arith, rank_later os i j (oldest.first j below (spends_is (place_at os j) up ∙ ap spent_one same ∙ e)), at))
          where
            below : j < n
            below = near (ltb j n) refl
              where
                near : (b : Bool) → ltb j n ≡ b → j < n
                near true t = ltb-true j n t
                near false t = absurd (both_ways (rests_at os j) (none j (ltb-false j n t)) up)

    pub renewed_tidy : to_tidy (set os i (Some (renewed next (record_at os i)))) ≡ to_tidy os
    unfolding to_tidy
    renewed_tidy =
        let r = record_at os i in
        let k = rank os i in
        let S = in_sequence os in
        let L = resting_of os in
        let o = renewed next r in
        let shown = fresh_shown r shows here in
        let goes = ap stays in_list.1 ∙ spent_goes r.resting here in
        let at = in_turn_at.1 in
        (λ j. filter stays (list.renewed os i inside was distinct o older j) ++ map fresh (filter spent_one (turns.renewed os i inside was distinct o older j)))
        ∙ (λ j. filter-append stays (remove L k) (fresh r ∷ []) j ++ map fresh (filter-append spent_one (remove S k) (o ∷ []) j))
        ∙ (λ j. (kept_removed stays L k blank_record.resting in_list.0 goes j ++ cond-true _ (fresh r ∷ []) [] (shown_stays (fresh r) shown) j)
        ++ map fresh (filter spent_one (remove S k) ++ cond-false _ (o ∷ []) [] (shown_not_spent (fresh r) shown) j))
        ∙ (λ j. (filter stays L ++ (fresh r ∷ [])) ++ map fresh (append-nil (filter spent_one (remove S k)) j))
        ∙ append_assoc (filter stays L) (fresh r ∷ []) (map fresh (filter spent_one (remove S k)))
        ∙ (λ j. filter stays L ++ (fresh (sym at j) ∷ map fresh (filter spent_one (remove S k))))
        ∙ (λ j. filter stays L ++ map fresh (sym (kept_first spent_one S k blank_record in_turn_at.0 (ap spent_one at ∙ here) first) j))

-- One place settled.
pub settled_tidy : (os : Orders) (i : ℕ) → Distinct os → to_tidy (set os i (settled (place_at os i))) ≡ to_tidy os
settled_tidy os i distinct = go (place_at os i) refl
  where
    same : (x : Option OrderRecord) → place_at os i ≡ x → to_tidy (set os i x) ≡ to_tidy os
    same x e = ap (λ (y : Option OrderRecord). to_tidy (set os i y)) (sym e) ∙ ap to_tidy (set-get_or os i None)

    go : (x : Option OrderRecord) → place_at os i ≡ x → to_tidy (set os i (settled x)) ≡ to_tidy os
    go None e = same None e
    go (Some r) e = by_volume (ltb 0 (volume_of r.resting)) refl (spent r.resting) refl
      where
        was : rests_at os i ≡ true
        was = ap is_some e

        is : record_at os i ≡ r
        is = ap held e

        by_volume : (v : Bool) → ltb 0 (volume_of r.resting) ≡ v → (s : Bool) → spent r.resting ≡ s → to_tidy (set os i (cond v (Some (cond s r (undrawn r))) None)) ≡ to_tidy os
        by_volume false f s g = gone_tidy os i distinct was (ap (λ (x : OrderRecord). ltb 0 (volume_of x.resting)) is ∙ f)
        by_volume true f true g = same (Some r) e
        by_volume true f false g = ap (λ (x : OrderRecord). to_tidy (set os i (Some (undrawn x)))) (sym is) ∙ undrawn_tidy os i distinct was (ap spent_one is ∙ g)

-- What holds of a place that is settled.

pub settled_is : (x : Option OrderRecord) → is_some (settled x) ≡ true → Settled (held (settled x))
settled_is None u = cc
settled_is (Some r) u = go (ltb 0 (volume_of r.resting)) refl (spent r.resting) refl u
  where
    go : (v : Bool) → ltb 0 (volume_of r.resting) ≡ v → (s : Bool) → spent r.resting ≡ s → is_some (cond v (Some (cond s r (undrawn r))) None) ≡ true → Settled (held (cond v (Some (cond s r (undrawn r))) None))
    go false f s g u = cc
    go true f true g u = record { some = ltb-true 0 (volume_of r.resting) f; drawn = λ h. absurd (both_ways (spent r.resting) h g) }
    go true f false g u = record { some = ltb-true 0 (volume_of r.resting) f; drawn = λ h. refl }

pub settled_rest : (x : Option OrderRecord) → (is_some x ≡ true → MayRest (held x)) → is_some (settled x) ≡ true → MayRest (held (settled x))
settled_rest None m u = cc
settled_rest (Some r) m u = go (ltb 0 (volume_of r.resting)) (spent r.resting) u
  where
    rest : MayRest r
    rest = m refl

    go : (v s : Bool) → is_some (cond v (Some (cond s r (undrawn r))) None) ≡ true → MayRest (held (cond v (Some (cond s r (undrawn r))) None))
    go false s u = cc
    go true true u = rest
    go true false u = record { volume = rest.volume; drawn = omega (arith, rest.volume); display = rest.display }

pub settled_still : (x : Option OrderRecord) → is_some x ≡ false → is_some (settled x) ≡ false
settled_still None e = refl
settled_still (Some r) e = cc

-- Where nothing is spent or used up the table is tidy.
pub tidy_end : (os : Orders) → Distinct os → ((k : ℕ) → rests_at os k ≡ true → Settled (record_at os k)) → ((k : ℕ) → spends (place_at os k) ≡ false) → to_tidy os ≡ resting_of os
unfolding to_tidy
tidy_end os distinct done none =
    (λ j. kept_all stays (resting_of os) blank_record.resting stay j ++ map fresh (kept_none spent_one (in_sequence os) blank_record unspent j)) ∙ append-nil (resting_of os)
  where
    not_spent : (k : ℕ) → rests_at os k ≡ true → spent (record_at os k).resting ≡ false
    not_spent k u = sym (spends_is (place_at os k) u) ∙ none k

    stay : (m : ℕ) → m < length (resting_of os) → stays (get_or (resting_of os) m blank_record.resting) ≡ true
    stay m h =
        let (k, within, up, same, at) = list.from_rank os distinct blank_record.resting m h in
        ap stays (sym same)
        ∙ ap (λ (b : Bool). b && not (spent (record_at os k).resting)) (lt-ltb 0 (volume_of (record_at os k).resting) (done k up).some)
        ∙ ap (λ (b : Bool). not b) (not_spent k up)

    unspent : (m : ℕ) → m < length (in_sequence os) → spent_one (standing (in_sequence os) m) ≡ false
    unspent m h =
        let (k, within, up, same, at) = ranks.from_rank os distinct m h in
        ap spent_one (sym same) ∙ not_spent k up

-- The table before a run and the one after it, order by order.

abbrev Pairs : List OrderRecord → List OrderRecord → Type 0
Pairs [] [] = Unit {0}
Pairs [] (y ∷ ys) = ⊥
Pairs (x ∷ xs) [] = ⊥
Pairs (x ∷ xs) (y ∷ ys) = Since x y × Pairs xs ys

pairs_turn : (r r' : OrderRecord) (xs ys : List OrderRecord) → Since r r' → Pairs xs ys → Pairs (in_turn r xs) (in_turn r' ys)
pairs_turn r r' [] [] d p = (d, tt)
pairs_turn r r' [] (y ∷ ys) d p = absurd p
pairs_turn r r' (x ∷ xs) [] d p = absurd p
pairs_turn r r' (x ∷ xs) (y ∷ ys) d (q, p) = go (ltb r.time x.time) (ltb r'.time y.time) (λ j. ltb (d.time j) (q.time j)) (pairs_turn r r' xs ys d p)
  where
    go : (b c : Bool) → c ≡ b → Pairs (in_turn r xs) (in_turn r' ys) → Pairs (cond b (r ∷ x ∷ xs) (x ∷ in_turn r xs)) (cond c (r' ∷ y ∷ ys) (y ∷ in_turn r' ys))
    go true true e ih = (d, (q, p))
    go false false e ih = (q, ih)
    go true false e ih = cc
    go false true e ih = cc

pairs_sequence : (xs ys : Orders) → length ys ≡ length xs → ((k : ℕ) → rests_at ys k ≡ rests_at xs k) → ((k : ℕ) → Since (record_at xs k) (record_at ys k)) → Pairs (in_sequence xs) (in_sequence ys)
unfolding in_sequence
pairs_sequence [] [] e u f = tt
pairs_sequence [] (y ∷ ys) e u f = absurd (omega arith)
pairs_sequence (x ∷ xs) [] e u f = absurd (omega arith)
pairs_sequence (None ∷ xs) (None ∷ ys) e u f = pairs_sequence xs ys (omega arith) (λ k. u (suc k)) (λ k. f (suc k))
pairs_sequence (None ∷ xs) (Some y ∷ ys) e u f = absurd (both_ways true (u 0) refl)
pairs_sequence (Some x ∷ xs) (None ∷ ys) e u f = absurd (both_ways false refl (u 0))
pairs_sequence (Some x ∷ xs) (Some y ∷ ys) e u f = pairs_turn x y (in_sequence xs) (in_sequence ys) (f 0) (pairs_sequence xs ys (omega arith) (λ k. u (suc k)) (λ k. f (suc k)))

refresh_is : (xs ys : List OrderRecord) → Pairs xs ys → refresh (map (λ (r : OrderRecord). r.resting) xs) (map (λ (r : OrderRecord). r.resting) ys) ≡ map fresh (filter spent_one ys)
refresh_is [] [] p = refl
refresh_is [] (y ∷ ys) p = absurd p
refresh_is (x ∷ xs) [] p = absurd p
refresh_is (x ∷ xs) (y ∷ ys) (q, p) = ap (λ (zs : List RestingOrder). cond (spent y.resting) (refreshed x.resting y.resting ∷ zs) zs) (refresh_is xs ys p) ∙ out (spent y.resting) refl
  where
    taken : spent y.resting ≡ true → x.resting.reserve.shares - y.resting.reserve.shares ≡ y.drawn
    taken e = omega (arith, q.drawn e)

    same : spent y.resting ≡ true → refreshed x.resting y.resting ≡ fresh y
    same e = ap (λ (t : ℕ). resting y.resting.order (min (y.resting.order.entry.display.shares - t % y.resting.order.entry.display.shares) y.resting.reserve.shares) (y.resting.reserve.shares - min (y.resting.order.entry.display.shares - t % y.resting.order.entry.display.shares) y.resting.reserve.shares)) (taken e)

    out : (b : Bool) → spent y.resting ≡ b
        → cond b (refreshed x.resting y.resting ∷ map fresh (filter spent_one ys)) (map fresh (filter spent_one ys)) ≡ map fresh (cond b (y ∷ filter spent_one ys) (filter spent_one ys))
    out true e = ap (λ (o : RestingOrder). o ∷ map fresh (filter spent_one ys)) (same e)
    out false e = refl

pub tidied_is : (before os : Orders) → DrawnSince before os → tidied (resting_of before) (resting_of os) ≡ to_tidy os
unfolding to_tidy tidied resting_of
tidied_is before os since =
    ap (λ (zs : List RestingOrder). filter stays (map (λ (r : OrderRecord). r.resting) (in_sequence os)) ++ zs)
    (refresh_is (in_sequence before) (in_sequence os) (pairs_sequence before os since.places since.rests since.each))

-- After a run over a table with nothing drawn the records say what was drawn.
pub since_run : (before os : Orders) → Undrawn before → SameOrders before os → DrawnSince before os
since_run before os none same = record {
  places = same.places;
  rests = same.rests;
  each = λ k. record { time = (same.each k).time; drawn = drawn k };
}
  where
    drawn : (k : ℕ) → spent (record_at os k).resting ≡ true → (record_at before k).resting.reserve.shares ≡ (record_at os k).drawn + (record_at os k).resting.reserve.shares
    drawn k e = let u = spent_rests (place_at os k) e in omega (arith, (same.each k).drawn, none k (sym (same.rests k) ∙ u))

-- How many are spent.
abbrev pub count_spent : Orders → ℕ
count_spent os = count_by spends os

pub few_spent : (os : Orders) → count_spent os ≤ length os
few_spent os = omega (arith, sum_by-le (λ x. cond (spends x) 1 0) 1 os (λ k d lt. small (spends (get_or os k d))))
  where
    small : (b : Bool) → cond b 1 0 ≤ 1
    small true = omega arith
    small false = omega arith

pub one_less : (os : Orders) (i : ℕ) (x : Option OrderRecord) → i < length os → spends (place_at os i) ≡ true → spends x ≡ false → count_spent (set os i x) + 1 ≡ count_spent os
one_less os i x h e f =
    let s = sum_by-set (λ y. cond (spends y) 1 0) os i x None h in
    let a : ◌≡◌ {A = ℕ} (cond (spends (place_at os i)) 1 0) 1 = ap (λ (b : Bool). cond b 1 0) e in
    let b : ◌≡◌ {A = ℕ} (cond (spends x) 1 0) 0 = ap (λ (b : Bool). cond b 1 0) f in
    omega arith

-- One place settled, and what then holds of all.
module _ (os os' : Orders) (i : ℕ) (within : i < length os) (is : os' ≡ set os i (settled (place_at os i))) where
  abbrev x : Option OrderRecord
  x = settled (place_at os i)

  pub all_tidy : Distinct os → to_tidy os' ≡ to_tidy os
  all_tidy distinct = ap to_tidy is ∙ settled_tidy os i distinct

  pub all_rest : AllMayRest os → AllMayRest os'
  all_rest rest = subst AllMayRest (sym is) (places os i x within (λ k y. is_some y ≡ true → MayRest (held y)) (settled_rest (place_at os i) (rest i)) (λ k ne. rest k))

  pub all_settled : ((k : ℕ) → k < i → rests_at os k ≡ true → Settled (record_at os k)) → (k : ℕ) → k < i + 1 → rests_at os' k ≡ true → Settled (record_at os' k)
  all_settled old =
      subst (λ (z : Orders). (k : ℕ) → k < i + 1 → rests_at z k ≡ true → Settled (record_at z k)) (sym is)
      (places os i x within (λ k y. k < i + 1 → is_some y ≡ true → Settled (held y)) (λ h. settled_is (place_at os i)) (λ k ne h. old k (omega (arith, ne))))

  pub all_above : (n : ℕ) → ((k : ℕ) → n ≤ k → rests_at os k ≡ false) → (k : ℕ) → n ≤ k → rests_at os' k ≡ false
  all_above n old =
      subst (λ (z : Orders). (k : ℕ) → n ≤ k → rests_at z k ≡ false) (sym is)
      (places os i x within (λ k y. n ≤ k → is_some y ≡ false) (λ h. settled_still (place_at os i) (old i h)) (λ k ne. old k))

-- One iceberg refreshed, and what then holds of all.
module _ (os os' : Orders) (i t : ℕ) (here : spends (place_at os i) ≡ true) (rest : AllMayRest os) where
  was : rests_at os i ≡ true
  was = spends_rests (place_at os i) here

  its_spent : spent (record_at os i).resting ≡ true
  its_spent = sym (spends_is (place_at os i) was) ∙ here

  its_display : 0 < (record_at os i).resting.order.entry.display.shares
  its_display = (rest i was).display (spent_iceberg (record_at os i).resting its_spent)

  module _ (is : os' ≡ set os i (Some (renewed t (record_at os i)))) where
    abbrev r : OrderRecord
    r = renewed t (record_at os i)

    shown : 0 < (fresh (record_at os i)).shown.shares
    shown = fresh_shown (record_at os i) its_display its_spent

    pub renewed_all_rest : AllMayRest os'
    renewed_all_rest =
        subst AllMayRest (sym is)
        (places os i (Some r) (rests_within os i was) (λ k y. is_some y ≡ true → MayRest (held y)) (λ u. own (rest i was)) (λ k ne. rest k))
      where
        own : MayRest (record_at os i) → MayRest r
        own m = record { volume = omega (arith, m.volume, spent_shown (record_at os i).resting its_spent); drawn = omega (arith, m.volume); display = m.display }

    pub renewed_all_settled : ((k : ℕ) → rests_at os k ≡ true → Settled (record_at os k)) → (k : ℕ) → rests_at os' k ≡ true → Settled (record_at os' k)
    renewed_all_settled old =
        subst (λ (z : Orders). (k : ℕ) → rests_at z k ≡ true → Settled (record_at z k)) (sym is)
        (places os i (Some r) (rests_within os i was) (λ k y. is_some y ≡ true → Settled (held y)) (λ u. record { some = omega (arith, shown); drawn = λ _. refl }) (λ k ne. old k))

    pub renewed_count : count_spent os' + 1 ≡ count_spent os
    renewed_count = ap (λ (z : Orders). count_spent z + 1) is ∙ one_less os i (Some r) (rests_within os i was) here (shown_not_spent (fresh (record_at os i)) shown)

    pub renewed_list : (n : ℕ) → Distinct os → Older t os → ((k : ℕ) → n ≤ k → rests_at os k ≡ false) → Oldest os n i → to_tidy os' ≡ to_tidy os
    renewed_list n distinct older none oldest = ap to_tidy is ∙ renewed_tidy os i distinct was t n older none oldest its_display

pub none_spent : (os : Orders) (n : ℕ) → ((k : ℕ) → n ≤ k → rests_at os k ≡ false) → ((k : ℕ) → k < n → spends (place_at os k) ≡ false) → (k : ℕ) → spends (place_at os k) ≡ false
none_spent os n above below k = go (ltb k n) refl
  where
    free : (x : Option OrderRecord) → is_some x ≡ false → spends x ≡ false
    free None e = refl
    free (Some r) e = cc

    go : (b : Bool) → ltb k n ≡ b → spends (place_at os k) ≡ false
    go true e = below k (ltb-true k n e)
    go false e = free (place_at os k) (above k (ltb-false k n e))

-- Of the places below n, the one found has the spent iceberg that has waited longest, with its timestamp.
pub record Longest (os : Orders) (n : ℕ) (oldest : Option (ℕ × ℕ)) : Type 0 where
  pub found : IfSome oldest (λ p. (p.0 < n) × (spends (place_at os p.0) ≡ true) × ((record_at os p.0).time ≡ p.1))
  pub first : IfSome oldest (λ p. (k : ℕ) → k < n → spends (place_at os k) ≡ true → p.1 ≤ (record_at os k).time)
  pub none : IfNone oldest ((k : ℕ) → k < n → spends (place_at os k) ≡ false)
