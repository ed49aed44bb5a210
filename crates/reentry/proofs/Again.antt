-- A run from an order's place, and what the table holds at each step of it. Assumes nothing.
use Rattle.std.proofs.Common.{◌≡◌, ℕ, zero, suc, ◌+◌, ◌<◌, ◌≤◌, Bool, true, false, cond, ◌&&◌, eqb, ltb, List, [], ◌∷◌, length, get_or, set, is_some, Some, None, sym, refl, ap, ◌∙◌, subst, arith, length-set, get_or-set_other, get_or-set_same}
use Rattle.std.proofs.lemmas.Bool.{both_ways}
use Rattle.std.proofs.lemmas.Bool.Decides.{nat_tests}
use Rattle.types.specs.declared.orders.Order.{Order}
use Rattle.types.specs.declared.orders.OrderKind.{OrderKind}
use Rattle.types.specs.declared.orders.OrderKind.TheVariants.{Limit, Iceberg, Peg}
use Rattle.types.specs.declared.orders.RestingOrder.{RestingOrder}
use Rattle.checks.specs.Values.{is_iceberg}
use Rattle.prices.specs.Prices.{View}
use Rattle.priority.specs.Priority.{Rule}
use Rattle.runs.specs.Lists.{At, at_place, sum_of}
use Rattle.runs.specs.Slices.{volume_of}
use Rattle.runs.specs.Runs.{Progress, run, spent, tidied, laid_out}
use Rattle.runs.proofs.Lists.{sum_at_place}
use Rattle.rules.specs.Requotes.{emptied, put_back, run_at}
use Rattle.table.specs.declared.records.OrderRecord.{OrderRecord}
use Rattle.table.specs.Sequence.{Orders, blank_record, rests_at, held, record_at, rank, earlier, resting_of, Distinct}
use Rattle.table.proofs.Kept.{rests_within, places, rank_same}
use Rattle.table.proofs.Resting.{at_rank}
use Rattle.matching.specs.Running.{on_table, SameOrders, MayRest, AllMayRest}
use Rattle.tidying.specs.Tidying.{Undrawn, Since, DrawnSince}
use Rattle.tidying.proofs.Steps.{since_run}
use Rattle.reentry.specs.Spots.{spot, book_of, hollow}

-- Tables of the same orders count the same.
pub earlier_same : (os os' : Orders) (t : ℕ) → length os' ≡ length os → ((k : ℕ) → rests_at os' k ≡ rests_at os k) → ((k : ℕ) → (record_at os' k).time ≡ (record_at os k).time) → earlier os' t ≡ earlier os t
earlier_same [] [] t e u f = refl
earlier_same [] (y ∷ ys) t e u f = absurd (omega arith)
earlier_same (x ∷ xs) [] t e u f = absurd (omega arith)
earlier_same (None ∷ xs) (None ∷ ys) t e u f = earlier_same xs ys t (omega arith) (λ k. u (suc k)) (λ k. f (suc k))
earlier_same (None ∷ xs) (Some y ∷ ys) t e u f = absurd (both_ways true (u 0) refl)
earlier_same (Some x ∷ xs) (None ∷ ys) t e u f = absurd (both_ways false refl (u 0))
earlier_same (Some x ∷ xs) (Some y ∷ ys) t e u f = λ j. cond (ltb (f 0 j) t) 1 0 + earlier_same xs ys t (omega arith) (λ k. u (suc k)) (λ k. f (suc k)) j

set_place : {X : Type 0} (xs : List X) (k : ℕ) (g : X → X) (x d : X) → get_or xs k d ≡ x → k < length xs → set xs k (g x) ≡ at_place k g xs
set_place [] k g x d e h = absurd (omega arith)
set_place (y ∷ xs) zero g x d e h = ap (λ z. g z ∷ xs) (sym e)
set_place (y ∷ xs) (suc k) g x d e h = ap (λ zs. y ∷ zs) (set_place xs k g x d e (omega arith))

at_of : {X : Type 0} (xs : List X) (k : ℕ) (x d : X) → k < length xs → get_or xs k d ≡ x → At xs k x
at_of [] k x d h e = absurd (omega arith)
at_of (y ∷ xs) zero x d h e = e
at_of (y ∷ xs) (suc k) x d h e = at_of xs k x d (omega arith) e

-- An order in its place changed.
in_place : (os : Orders) (i : ℕ) (g : RestingOrder → RestingOrder) → Distinct os → rests_at os i ≡ true → set (resting_of os) (rank os i) (g (record_at os i).resting) ≡ at_place (rank os i) g (resting_of os)
in_place os i g distinct on =
    let p = at_rank os i (rests_within os i on) on distinct blank_record.resting in
    set_place (resting_of os) (rank os i) g (record_at os i).resting blank_record.resting p.1 p.0

-- Put back, an order shows volume or has none.
laid_out_unspent : (k : OrderKind) (o : Order) (v : ℕ) → o.entry.kind ≡ k → (is_iceberg k ≡ true → 0 < o.entry.display.shares) → spent (laid_out k o v) ≡ false
laid_out_unspent Limit o v e d = ap (λ (k : OrderKind). is_iceberg k && (eqb v 0 && ltb 0 0)) e
laid_out_unspent Peg o v e d = ap (λ (k : OrderKind). is_iceberg k && (eqb 0 0 && ltb 0 v)) e
laid_out_unspent Iceberg o v e d = let shows : 0 < o.entry.display.shares = d refl in grind (arith, nat_tests)

pub put_back_unspent : (o : RestingOrder) (v : ℕ) → spent o ≡ false → (is_iceberg o.order.entry.kind ≡ true → 0 < o.order.entry.display.shares) → spent (put_back o v) ≡ false
put_back_unspent o v s d = go (eqb v (volume_of o))
  where
    go : (b : Bool) → spent (cond b o (laid_out o.order.entry.kind o.order v)) ≡ false
    go true = s
    go false = laid_out_unspent o.order.entry.kind o.order v refl d

laid_out_volume : (k : OrderKind) (o : Order) (v : ℕ) → volume_of (laid_out k o v) ≡ v
laid_out_volume Limit o v = omega arith
laid_out_volume Iceberg o v = omega arith
laid_out_volume Peg o v = omega arith

laid_out_order : (k : OrderKind) (o : Order) (v : ℕ) → (laid_out k o v).order ≡ o
laid_out_order Limit o v = refl
laid_out_order Iceberg o v = refl
laid_out_order Peg o v = refl

pub put_back_volume : (o : RestingOrder) (v : ℕ) → v ≤ volume_of o → volume_of (put_back o v) ≤ volume_of o
put_back_volume o v h = go (eqb v (volume_of o))
  where
    go : (b : Bool) → volume_of (cond b o (laid_out o.order.entry.kind o.order v)) ≤ volume_of o
    go true = omega arith
    go false = omega (arith, laid_out_volume o.order.entry.kind o.order v)

pub put_back_order : (o : RestingOrder) (v : ℕ) → (put_back o v).order ≡ o.order
put_back_order o v = go (eqb v (volume_of o))
  where
    go : (b : Bool) → (cond b o (laid_out o.order.entry.kind o.order v)).order ≡ o.order
    go true = refl
    go false = laid_out_order o.order.entry.kind o.order v

-- The table before, and with the order's place hollow, as its time list has it.
module _ (os₀ os₁ : Orders) (i : ℕ) (before gone : OrderRecord) (distinct : Distinct os₀) (was : rests_at os₀ i ≡ true) (read : before ≡ record_at os₀ i) (emptied_is : gone ≡ hollow before)
    (table₁ : os₁ ≡ set os₀ i (Some gone)) (now₁ : resting_of os₁ ≡ set (resting_of os₀) (rank os₀ i) gone.resting) where
  within : i < length os₀
  within = rests_within os₀ i was

  gone_is : gone ≡ hollow (record_at os₀ i)
  gone_is = emptied_is ∙ ap hollow read

  is₁ : os₁ ≡ set os₀ i (Some (hollow (record_at os₀ i)))
  is₁ = table₁ ∙ ap (λ (r : OrderRecord). set os₀ i (Some r)) gone_is

  pub list₁ : resting_of os₁ ≡ at_place (rank os₀ i) emptied (resting_of os₀)
  list₁ = now₁ ∙ ap (λ (r : OrderRecord). set (resting_of os₀) (rank os₀ i) r.resting) gone_is ∙ in_place os₀ i emptied distinct was

  pub play₁ : volume_of before.resting + sum_of volume_of (resting_of os₁) ≡ sum_of volume_of (resting_of os₀)
  play₁ =
      let p = at_rank os₀ i within was distinct blank_record.resting in
      let s = sum_at_place volume_of emptied (rank os₀ i) (record_at os₀ i).resting (resting_of os₀) (at_of (resting_of os₀) (rank os₀ i) (record_at os₀ i).resting blank_record.resting p.0 p.1) in
      omega (arith, s, ap (sum_of volume_of) list₁, ap (λ (r : OrderRecord). volume_of r.resting) read)

  pub rest₁ : AllMayRest os₀ → AllMayRest os₁
  rest₁ rest =
      subst AllMayRest (sym is₁)
      (places os₀ i (Some (hollow (record_at os₀ i))) within (λ k x. is_some x ≡ true → MayRest (held x))
      (λ u. record { volume = omega arith; drawn = omega (arith, (rest i was).drawn); display = (rest i was).display }) (λ k ne. rest k))

  undrawn₁ : Undrawn os₀ → Undrawn os₁
  undrawn₁ clean =
      subst Undrawn (sym is₁)
      (places os₀ i (Some (hollow (record_at os₀ i))) within (λ k x. is_some x ≡ true → (held x).drawn ≡ 0) (λ u. clean i was) (λ k ne. clean k))

  rests₁ : (k : ℕ) → rests_at os₁ k ≡ rests_at os₀ k
  rests₁ = subst (λ (z : Orders). (k : ℕ) → rests_at z k ≡ rests_at os₀ k) (sym is₁) (places os₀ i (Some (hollow (record_at os₀ i))) within (λ k x. is_some x ≡ rests_at os₀ k) (sym was) (λ k ne. refl))

  here₁ : record_at os₁ i ≡ hollow (record_at os₀ i)
  here₁ = ap (λ (z : Orders). record_at z i) is₁ ∙ ap held (get_or-set_same os₀ i (Some (hollow (record_at os₀ i))) None within)

  there₁ : (k : ℕ) → (k ≡ i → ⊥) → record_at os₁ k ≡ record_at os₀ k
  there₁ k ne = ap (λ (z : Orders). record_at z k) is₁ ∙ ap held (get_or-set_other os₀ i k (Some (hollow (record_at os₀ i))) None ne)

  rank₁ : rank os₁ i ≡ rank os₀ i
  rank₁ = ap (λ (z : Orders). rank z i) is₁ ∙ rank_same os₀ i (hollow (record_at os₀ i)) within was refl i

  -- After the run.
  module _ (os₂ : Orders) (same : SameOrders os₁ os₂) where
    rests₂ : rests_at os₂ i ≡ true
    rests₂ = same.rests i ∙ rests₁ i ∙ was

    rank₂ : rank os₂ i ≡ rank os₀ i
    rank₂ = earlier_same os₁ os₂ (record_at os₂ i).time same.places same.rests (λ k. (same.each k).time) ∙ ap (earlier os₁) (same.each i).time ∙ rank₁

    -- With so much put back.
    module _ (os₃ : Orders) (left : ℕ) (after : RestingOrder) (put : after ≡ put_back before.resting left) where
      abbrev kept : RestingOrder
      kept = put_back (record_at os₀ i).resting left

      abbrev back : OrderRecord
      back = record { time = (record_at os₀ i).time; drawn = (record_at os₀ i).drawn; resting = kept }

      after_is : after ≡ kept
      after_is = put ∙ ap (λ (r : OrderRecord). put_back r.resting left) read

      pub list₃ : Distinct os₂ → resting_of os₃ ≡ set (resting_of os₂) (rank os₂ i) after → resting_of os₃ ≡ at_place (rank os₀ i) (λ _. kept) (resting_of os₂)
      list₃ distinct₂ now₃ = now₃ ∙ ap (set (resting_of os₂) (rank os₂ i)) after_is ∙ in_place os₂ i (λ _. kept) distinct₂ rests₂ ∙ ap (λ (k : ℕ). at_place k (λ _. kept) (resting_of os₂)) rank₂

      module _ (table₃ : os₃ ≡ set os₂ i (Some (record { time = before.time; drawn = before.drawn; resting = after }))) where
        is₃ : os₃ ≡ set os₂ i (Some back)
        is₃ = table₃ ∙ (λ j. set os₂ i (Some (record { time = (read j).time; drawn = (read j).drawn; resting = after_is j })))

        pub rest₃ : AllMayRest os₀ → AllMayRest os₂ → Undrawn os₀ → left ≤ volume_of before.resting → AllMayRest os₃
        rest₃ rest rest₂ clean less =
            subst AllMayRest (sym is₃)
            (places os₂ i (Some back) (rests_within os₂ i rests₂) (λ k x. is_some x ≡ true → MayRest (held x)) (λ u. own) (λ k ne. rest₂ k))
          where
            own : MayRest back
            own =
                let m = rest i was in
                let v = put_back_volume (record_at os₀ i).resting left (omega (arith, less, ap (λ (r : OrderRecord). volume_of r.resting) read)) in
                record {
                  volume = omega (arith, v, m.volume);
                  drawn = omega (arith, v, m.volume, clean i was);
                  display = λ t. subst (λ (o : Order). 0 < o.entry.display.shares) (sym (put_back_order (record_at os₀ i).resting left))
                      (m.display (sym (ap (λ (o : Order). is_iceberg o.entry.kind) (put_back_order (record_at os₀ i).resting left)) ∙ t));
                }

        pub since₃ : AllMayRest os₀ → Undrawn os₀ → spent (record_at os₀ i).resting ≡ false → DrawnSince os₀ os₃
        since₃ rest clean unspent = record {
          places = ap length is₃ ∙ length-set os₂ i (Some back) ∙ same.places ∙ ap length is₁ ∙ length-set os₀ i (Some (hollow (record_at os₀ i)));
          rests = subst (λ (z : Orders). (k : ℕ) → rests_at z k ≡ rests_at os₀ k) (sym is₃)
              (places os₂ i (Some back) (rests_within os₂ i rests₂) (λ k x. is_some x ≡ rests_at os₀ k) (sym was) (λ k ne. same.rests k ∙ rests₁ k));
          each = subst (λ (z : Orders). (k : ℕ) → Since (record_at os₀ k) (record_at z k)) (sym is₃)
              (places os₂ i (Some back) (rests_within os₂ i rests₂) (λ k x. Since (record_at os₀ k) (held x)) own others);
        }
          where
            own : Since (record_at os₀ i) back
            own = record { time = refl; drawn = λ s. absurd (both_ways (spent kept) (put_back_unspent (record_at os₀ i).resting left unspent (rest i was).display) s) }

            others : (k : ℕ) → (k ≡ i → ⊥) → Since (record_at os₀ k) (record_at os₂ k)
            others k ne = subst (λ (r : OrderRecord). Since r (record_at os₂ k)) (there₁ k ne) ((since_run os₁ os₂ (undrawn₁ clean) same).each k)

  -- The run from the place is the one of the rules.
  module _ (rule : Rule) (view : View) (v : ℕ) (whole : v ≡ volume_of before.resting) where
    abbrev ran : Progress
    ran = run rule view before.resting.order (on_table v os₁ [])

    ran_is : ran ≡ run rule view (record_at os₀ i).resting.order (record { left = volume_of (record_at os₀ i).resting; others = at_place (rank os₀ i) emptied (resting_of os₀); log = [] })
    ran_is = λ j. run rule view (read j).resting.order (record { left = (whole ∙ ap (λ (r : OrderRecord). volume_of r.resting) read) j; others = list₁ j; log = [] })

    pub log_is : ran.log ≡ (run_at rule view (spot os₀ i) (book_of os₀)).log
    unfolding run_at
    log_is = ap (λ (r : Progress). r.log) ran_is

    pub list_is : (os₂ os₃ os₄ : Orders) (left : ℕ) → left ≡ ran.left → resting_of os₂ ≡ ran.others
        → resting_of os₃ ≡ at_place (rank os₀ i) (λ _. put_back (record_at os₀ i).resting left) (resting_of os₂)
        → resting_of os₄ ≡ tidied (resting_of os₀) (resting_of os₃) → resting_of os₄ ≡ (run_at rule view (spot os₀ i) (book_of os₀)).resting
    unfolding run_at
    list_is os₂ os₃ os₄ left l o e t =
        t ∙ ap (tidied (resting_of os₀))
        (e ∙ (λ j. at_place (rank os₀ i) (λ _. put_back (record_at os₀ i).resting (l j)) (o j))
        ∙ (λ j. at_place (rank os₀ i) (λ _. put_back (record_at os₀ i).resting (ran_is j).left) (ran_is j).others))
