-- The orders whose turn it is go to the end, one after the other.
use Rattle.std.proofs.Common.{◌≡◌, ℕ, zero, suc, ◌+◌, ◌<◌, ◌≤◌, Bool, true, false, cond, not, ◌&&◌, ltb, List, [], ◌∷◌, ◌++◌, map, length, get_or, drop, set, filter, is_some, Some, None, Option, sym, refl, ap, ◌∙◌, subst, ⊎_elim, append_assoc, append-nil, arith}
use Rattle.std.specs.List.{remove}
use Rattle.std.proofs.lemmas.List.{drop_more, map-append, get_or-set_same, get_or-set_other}
use Rattle.std.proofs.lemmas.List.Elements.{filter-append}
use Rattle.std.proofs.lemmas.Bool.{lt-ltb, le-ltb, cond-true, cond-false, cases_eq}
use Rattle.types.specs.declared.orders.RestingOrder.{RestingOrder}
use Rattle.rules.specs.Requotes.{to_end}
use Rattle.table.specs.declared.records.OrderRecord.{OrderRecord}
use Rattle.table.specs.Sequence.{Orders, blank_record, place_at, rests_at, held, record_at, stamped, in_sequence, resting_of, rank, Distinct, Older}
use Rattle.table.proofs.Turns.{Each, Climbs, climbs, each_live, live_from, renewed}
use Rattle.table.proofs.Ranks.{standing, at_rank}
use Rattle.turns.specs.Turns.{records_at, passes, Turns, Rewritten}
use Rattle.turns.proofs.Sorting.{each_at, order_of, kept_orders}

-- One record less.

pub removed_out : (f : OrderRecord → Bool) (l : List OrderRecord) (k : ℕ) → k < length l → f (standing l k) ≡ false → filter f (remove l k) ≡ filter f l
removed_out f [] k lt out = absurd (omega arith)
removed_out f (x ∷ l) zero lt out = sym (cond-false _ _ _ out)
removed_out f (x ∷ l) (suc k) lt out = ap (λ m. cond (f x) (x ∷ m) m) (removed_out f l k (omega arith) out)

same_tail : (x y : OrderRecord) (l m : List OrderRecord) → x ∷ l ≡ y ∷ m → l ≡ m
same_tail x y l m e = cc

same_head : (x y : OrderRecord) (l m : List OrderRecord) → x ∷ l ≡ y ∷ m → x ≡ y
same_head x y l m e = cc

pub removed_first : (f : OrderRecord → Bool) (l : List OrderRecord) (k : ℕ) (rest : List OrderRecord) → k < length l → Climbs l → f (standing l k) ≡ true
    → filter f l ≡ standing l k ∷ rest → filter f (remove l k) ≡ rest
removed_first f [] k rest lt up in-it e = absurd (omega arith)
removed_first f (x ∷ l) zero rest lt up in-it e = same_tail x x (filter f l) rest (sym (cond-true _ _ _ in-it) ∙ e)
removed_first f (x ∷ l) (suc k) rest lt up in-it e =
    let w = filter f l in
    let v = filter f (remove l k) in
    let r = standing l k in
    let later = each_at (λ y. x.time < y.time) l k blank_record up.0 (omega arith) in
    (elim (f x) as (λ t. cond t (x ∷ w) w ≡ r ∷ rest → cond t (x ∷ v) v ≡ rest) [
      | true ↦ λ h. absurd (omega (arith, later, ap (λ (y : OrderRecord). y.time) (same_head x r w rest h)))
      | false ↦ λ h. removed_first f l k rest (omega arith) up.1 in-it h
    ]) e

pub first_passes : (f : OrderRecord → Bool) (l : List OrderRecord) (r : OrderRecord) (rest : List OrderRecord) → filter f l ≡ r ∷ rest → f r ≡ true
first_passes f [] r rest e = absurd (let z : ◌≡◌ {A = ℕ} 0 1 = cc in omega arith)
first_passes f (x ∷ l) r rest e =
    let w = filter f l in
    let both : (t : Bool) → f x ≡ t → cond t (x ∷ w) w ≡ r ∷ rest → f r ≡ true = λ t. elim t as (λ t. f x ≡ t → cond t (x ∷ w) w ≡ r ∷ rest → f r ≡ true) [ true ↦ λ h g. ap f (sym (same_head x r w rest g)) ∙ h | false ↦ λ h g. first_passes f l r rest g ] in
    both (f x) refl e

kept_same : (f g : OrderRecord → Bool) (l : List OrderRecord) → Each (λ x. f x ≡ g x) l → filter f l ≡ filter g l
kept_same f g [] h = refl
kept_same f g (x ∷ l) h = λ j. cond (h.0 j) (x ∷ kept_same f g l h.1 j) (kept_same f g l h.1 j)

none_kept : (f : OrderRecord → Bool) (l : List OrderRecord) → [] ≡ filter f l → filter (λ x. not (f x)) l ≡ l
none_kept f [] e = refl
none_kept f (x ∷ l) e =
    let w = filter f l in
    let v = filter (λ y. not (f y)) l in
    (elim (f x) as (λ t. [] ≡ cond t (x ∷ w) w → cond (not t) (x ∷ v) v ≡ x ∷ l)
    [ true ↦ λ h. absurd (never h) | false ↦ λ h. ap (λ m. x ∷ m) (none_kept f l h) ]) e
  where
    never : {y : OrderRecord} {m : List OrderRecord} → [] ≡ y ∷ m → ⊥
    never {y} {m} h = let z : ◌≡◌ {A = ℕ} 0 1 = cc in omega arith

-- The record's order passes the test, and has not moved yet.
abbrev pub still : (RestingOrder → Bool) → ℕ → OrderRecord → Bool
still test next r = ltb r.time next && test r.resting

-- It does not pass, or has moved.
abbrev pub settled : (RestingOrder → Bool) → ℕ → OrderRecord → Bool
settled test next r = not (still test next r)

-- On the way from the table `start`: the orders at the places have yet to move.
pub record Going (test : RestingOrder → Bool) (next : ℕ) (start os : Orders) (ps : List ℕ) : Type 0 where
  pub todo : records_at start ps ≡ filter (still test next) (in_sequence os)
  pub list : map order_of (filter (settled test next) (in_sequence os)) ++ map order_of (records_at start ps) ≡ to_end test (resting_of start)

module _ (test : RestingOrder → Bool) (next : ℕ) (start : Orders) where
  pub started : (ps : List ℕ) → Older next start → Turns test start ps → Going test next start start ps
  unfolding resting_of
  started ps older t =
      let s = in_sequence start in
      let all : Each (λ x. still test next x ≡ passes test x) s = each_live (λ x. still test next x ≡ passes test x) start (live_from (λ x. still test next x ≡ passes test x) start (λ k lt on. ap (λ b. b && test (record_at start k).resting) (lt-ltb (record_at start k).time next (older k lt on)))) in
      let none : Each (λ x. settled test next x ≡ passes (λ o. not (test o)) x) s = each_live (λ x. settled test next x ≡ passes (λ o. not (test o)) x) start (live_from (λ x. settled test next x ≡ passes (λ o. not (test o)) x) start (λ k lt on. ap (λ b. not (b && test (record_at start k).resting)) (lt-ltb (record_at start k).time next (older k lt on)))) in
      record {
        todo = t.records ∙ sym (kept_same (still test next) (passes test) s all);
        list =
            (λ j. map order_of (kept_same (settled test next) (passes (λ o. not (test o))) s none j) ++ map order_of (t.records j))
            ∙ (λ j. kept_orders (λ o. not (test o)) s j ++ kept_orders test s j);
      }

  module _ (os : Orders) (p : ℕ) (ps : List ℕ) (going : Going test next start os (p ∷ ps)) where
    pub went : p < length os → rests_at os p ≡ true → Distinct os → record_at os p ≡ record_at start p
        → (now : ℕ) → next ≤ now → Older now os → Going test next start (set os p (Some (stamped now (record_at os p)))) ps
    went within on apart same now late older =
        let f = still test next in
        let g = settled test next in
        let r = record_at os p in
        let o = stamped now r in
        let s = in_sequence os in
        let k = rank os p in
        let at = at_rank os apart p within on in
        let rest = records_at start ps in
        let after : in_sequence (set os p (Some o)) ≡ remove s k ++ (o ∷ []) = renewed os p within on apart o older in
        let now_out : f o ≡ false = ap (λ b. b && test r.resting) (le-ltb now next late) in
        let first : filter f s ≡ r ∷ rest = sym going.todo ∙ ap (λ (x : OrderRecord). x ∷ rest) (sym same) in
        let was : f r ≡ true = first_passes f s r rest first in
        let kept : filter f (remove s k) ≡ rest = removed_first f s k rest at.0 (climbs os apart) (ap f at.1 ∙ was) (first ∙ ap (λ (x : OrderRecord). x ∷ rest) (sym at.1)) in
        let others : filter g (remove s k) ≡ filter g s = removed_out g s k at.0 (ap g at.1 ∙ ap not was) in
        record {
          todo = sym (ap (filter f) after ∙ filter-append f (remove s k) (o ∷ []) ∙ ap (λ m. filter f (remove s k) ++ m) (cond-false _ _ _ now_out) ∙ append-nil _ ∙ kept);
          list =
              ap (λ m. map order_of m ++ map order_of rest)
              (ap (filter g) after ∙ filter-append g (remove s k) (o ∷ []) ∙ (λ j. others j ++ cond-true _ (o ∷ []) [] (ap not now_out) j))
              ∙ ap (λ m. m ++ map order_of rest) (map-append order_of (filter g s) (o ∷ []))
              ∙ append_assoc (map order_of (filter g s)) (r.resting ∷ []) (map order_of rest)
              ∙ ap (λ (x : OrderRecord). map order_of (filter g s) ++ (x.resting ∷ map order_of rest)) same
              ∙ going.list;
        }

  pub arrived : (os : Orders) → Going test next start os [] → resting_of os ≡ to_end test (resting_of start)
  unfolding resting_of
  arrived os going = ap (map order_of) (sym (none_kept (still test next) (in_sequence os) going.todo)) ∙ sym (append-nil _) ∙ going.list

-- The place whose turn is the n-th is as it was, and is no earlier one.
pub record Turn (start os : Orders) (ps : List ℕ) (n : ℕ) : Type 0 where
  pub same : place_at os (get_or ps n 0) ≡ place_at start (get_or ps n 0)
  pub rests : rests_at os (get_or ps n 0) ≡ true
  pub next : drop n ps ≡ get_or ps n 0 ∷ drop (n + 1) ps
  pub apart : (j : ℕ) → j < n → get_or ps j 0 ≡ get_or ps n 0 → ⊥

module _ (f : ℕ → OrderRecord → Option OrderRecord) (ps : List ℕ) (start : Orders) where
  pub rewritten_none : Rewritten f 0 ps start start
  rewritten_none = record { each = λ j lt. absurd (omega arith); others = λ k h. refl }

  module _ (os : Orders) (n : ℕ) (h : Rewritten f n ps start os) where
    abbrev here : ℕ
    here = get_or ps n 0

    pub turn_at : (test : RestingOrder → Bool) → n < length ps → Turns test start ps → Turn start os ps n
    turn_at test lt t = record { same = same; rests = ap is_some same ∙ t.rests n lt; next = drop_more ps n 0 lt; apart = apart }
      where
        apart : (j : ℕ) → j < n → get_or ps j 0 ≡ here → ⊥
        apart j less e = let up = t.rising j n less lt in let e' = ap (λ (p : ℕ). (record_at start p).time) e in omega arith

        same : place_at os here ≡ place_at start here
        same = h.others here apart

    pub rewritten_more : Turn start os ps n → here < length os → Rewritten f (n + 1) ps start (set os here (f n (record_at os here)))
    rewritten_more t inside =
        let x = f n (record_at os here) in
        record {
          each = λ j lt. ⊎_elim
              (λ e. subst (λ (i : ℕ). place_at (set os here x) (get_or ps i 0) ≡ f i (record_at start (get_or ps i 0))) (sym e)
              (get_or-set_same os here x None inside ∙ ap (λ y. f n (held y)) t.same))
              (λ ne. get_or-set_other os here (get_or ps j 0) x None (t.apart j (omega (arith, ne))) ∙ h.each j (omega (arith, ne)))
              (cases_eq j n);
          others = λ k out. get_or-set_other os here k x None (λ e. out n (omega arith) (sym e)) ∙ h.others k (λ j lt. out j (omega arith));
        }
