-- What a write at one place does to the records in sequence.
use Rattle.std.proofs.Common.{◌≡◌, ℕ, zero, suc, ◌+◌, ◌<◌, ◌≤◌, Bool, true, false, cond, not, eqb, ltb, ◌⊎◌, List, [], ◌∷◌, ◌++◌, map, length, set, filter, is_some, Some, None, sym, refl, ap, ◌∙◌, subst, inl, inr, ⊎_elim, arith}
use Rattle.std.specs.List.{remove}
use Rattle.std.proofs.lemmas.List.{set-set, get_or-set_same, length-set}
use Rattle.std.proofs.lemmas.Bool.{lt-ltb, le-ltb, ltb-true, ltb-false, eq-eqb, ne_eqb, cond-true, cond-false, cond_both, eqb-true}
use Rattle.table.specs.declared.records.OrderRecord.{OrderRecord}
use Rattle.table.specs.Sequence.{Orders, rests_at, record_at, in_turn, in_sequence, earlier, rank, Distinct, Older}

-- P of each record
abbrev pub Each : (OrderRecord → Type 0) → List OrderRecord → Type 0
Each P [] = Unit {0}
Each P (x ∷ xs) = P x × Each P xs

-- P of each record of a table
abbrev pub Live : (OrderRecord → Type 0) → Orders → Type 0
Live P [] = Unit {0}
Live P (None ∷ os) = Live P os
Live P (Some x ∷ os) = P x × Live P os

-- P of each record of a table but the one at the place i
abbrev pub Others : (OrderRecord → Type 0) → Orders → ℕ → Type 0
Others P [] i = Unit {0}
Others P (x ∷ os) zero = Live P os
Others P (None ∷ os) (suc i) = Others P os i
Others P (Some x ∷ os) (suc i) = P x × Others P os i

-- all but those with the timestamp t
abbrev without : ℕ → List OrderRecord → List OrderRecord
without t = filter (λ x. not (eqb x.time t))

-- r in the place of the one with its timestamp
abbrev swap : OrderRecord → OrderRecord → OrderRecord
swap r x = cond (eqb x.time r.time) r x

abbrev swapped : OrderRecord → List OrderRecord → List OrderRecord
swapped r = map (swap r)

pub each_weaker : (P Q : OrderRecord → Type 0) → ((x : OrderRecord) → P x → Q x) → (l : List OrderRecord) → Each P l → Each Q l
each_weaker P Q w [] h = tt
each_weaker P Q w (x ∷ l) h = (w x h.0, each_weaker P Q w l h.1)

pub each_turn : (P : OrderRecord → Type 0) (o : OrderRecord) (l : List OrderRecord) → P o → Each P l → Each P (in_turn o l)
each_turn P o [] p h = (p, tt)
each_turn P o (x ∷ xs) p h =
    elim (ltb o.time x.time) as (λ t. Each P (cond t (o ∷ x ∷ xs) (x ∷ in_turn o xs)))
    [ true ↦ (p, h) | false ↦ (h.0, each_turn P o xs p h.1) ]

pub each_live : (P : OrderRecord → Type 0) (os : Orders) → Live P os → Each P (in_sequence os)
unfolding in_sequence
each_live P [] h = tt
each_live P (None ∷ os) h = each_live P os h
each_live P (Some o ∷ os) h = each_turn P o (in_sequence os) h.0 (each_live P os h.1)

-- A latest timestamp goes to the end.

turn_last : (o : OrderRecord) (l : List OrderRecord) → Each (λ x. x.time < o.time) l → in_turn o l ≡ l ++ (o ∷ [])
turn_last o [] h = refl
turn_last o (x ∷ xs) h = cond-false _ _ _ (le-ltb o.time x.time (omega (arith, h.0))) ∙ ap (λ l. x ∷ l) (turn_last o xs h.1)

pub turn_before : (x o : OrderRecord) (l : List OrderRecord) → x.time < o.time → in_turn x (l ++ (o ∷ [])) ≡ in_turn x l ++ (o ∷ [])
turn_before x o [] h = cond-true _ _ _ (lt-ltb x.time o.time h)
turn_before x o (y ∷ l) h =
    elim (ltb x.time y.time) as (λ t. cond t (x ∷ y ∷ (l ++ (o ∷ []))) (y ∷ in_turn x (l ++ (o ∷ []))) ≡ cond t (x ∷ y ∷ l) (y ∷ in_turn x l) ++ (o ∷ []))
    [ true ↦ refl | false ↦ ap (λ m. y ∷ m) (turn_before x o l h) ]

pub added : (os : Orders) (i : ℕ) (o : OrderRecord) → i < length os → rests_at os i ≡ false
    → Live (λ x. x.time < o.time) os → in_sequence (set os i (Some o)) ≡ in_sequence os ++ (o ∷ [])
unfolding in_sequence
added [] i o lt free h = absurd (omega arith)
added (None ∷ os) zero o lt free h = turn_last o (in_sequence os) (each_live (λ x. x.time < o.time) os h)
added (Some x ∷ os) zero o lt free h = cc
added (None ∷ os) (suc i) o lt free h = added os i o (omega arith) free h
added (Some x ∷ os) (suc i) o lt free h = ap (in_turn x) (added os i o (omega arith) free h.1) ∙ turn_before x o (in_sequence os) h.0

-- A change in place keeps the timestamp.

map_turn : (f : OrderRecord → OrderRecord) → ((x : OrderRecord) → (f x).time ≡ x.time) → (x : OrderRecord) (l : List OrderRecord) → map f (in_turn x l) ≡ in_turn (f x) (map f l)
map_turn f keeps x [] = refl
map_turn f keeps x (y ∷ l) =
    let both : (t : Bool) → map f (cond t (x ∷ y ∷ l) (y ∷ in_turn x l)) ≡ cond t (f x ∷ f y ∷ map f l) (f y ∷ in_turn (f x) (map f l)) = λ t. elim t as (λ t. map f (cond t (x ∷ y ∷ l) (y ∷ in_turn x l)) ≡ cond t (f x ∷ f y ∷ map f l) (f y ∷ in_turn (f x) (map f l))) [ true ↦ refl | false ↦ ap (λ m. f y ∷ m) (map_turn f keeps x l) ] in
    both (ltb x.time y.time) ∙ ap (λ t. cond t (f x ∷ f y ∷ map f l) (f y ∷ in_turn (f x) (map f l))) (λ j. ltb (sym (keeps x) j) (sym (keeps y) j))

swap_keeps : (o x : OrderRecord) → (swap o x).time ≡ x.time
swap_keeps o x = cond_both (eqb x.time o.time) o x (λ y. y.time ≡ x.time) (λ e. sym (eqb-true x.time o.time e)) (λ e. refl)

swap_none : (o : OrderRecord) (l : List OrderRecord) → Each (λ x. x.time ≡ o.time → ⊥) l → swapped o l ≡ l
swap_none o [] h = refl
swap_none o (x ∷ l) h = λ j. cond-false _ o x (ne_eqb x.time o.time h.0) j ∷ swap_none o l h.1 j

swapped_in : (os : Orders) (i : ℕ) (o : OrderRecord) → i < length os → rests_at os i ≡ true → (record_at os i).time ≡ o.time
    → Others (λ x. x.time ≡ o.time → ⊥) os i → in_sequence (set os i (Some o)) ≡ swapped o (in_sequence os)
unfolding in_sequence
swapped_in [] i o lt was same h = absurd (omega arith)
swapped_in (None ∷ os) zero o lt was same h = cc
swapped_in (Some x ∷ os) zero o lt was same h =
    let rest = in_sequence os in
    ap (λ y. in_turn y rest) (sym (cond-true _ o x (eq-eqb x.time o.time same)))
    ∙ ap (in_turn (swap o x)) (sym (swap_none o rest (each_live (λ y. y.time ≡ o.time → ⊥) os h)))
    ∙ sym (map_turn (swap o) (swap_keeps o) x rest)
swapped_in (None ∷ os) (suc i) o lt was same h = swapped_in os i o (omega arith) was same h
swapped_in (Some x ∷ os) (suc i) o lt was same h =
    let all = in_sequence os in
    ap (in_turn x) (swapped_in os i o (omega arith) was same h.1)
    ∙ ap (λ y. in_turn y (swapped o all)) (sym (cond-false _ o x (ne_eqb x.time o.time h.0)))
    ∙ sym (map_turn (swap o) (swap_keeps o) x all)

-- A removal.

abbrev other : ℕ → OrderRecord → Bool
other s x = not (eqb x.time s)

other_no : (s : ℕ) (x : OrderRecord) → x.time ≡ s → other s x ≡ false
other_no s x e = ap not (eq-eqb x.time s e)

other_yes : (s : ℕ) (x : OrderRecord) → (x.time ≡ s → ⊥) → other s x ≡ true
other_yes s x e = ap not (ne_eqb x.time s e)

without_none : (s : ℕ) (l : List OrderRecord) → Each (λ x. x.time ≡ s → ⊥) l → without s l ≡ l
without_none s [] h = refl
without_none s (x ∷ l) h = cond-true _ _ _ (other_yes s x h.0) ∙ ap (λ m. x ∷ m) (without_none s l h.1)

without_same : (s : ℕ) (x : OrderRecord) (l : List OrderRecord) → x.time ≡ s → without s (in_turn x l) ≡ without s l
without_same s x [] e = cond-false _ _ _ (other_no s x e)
without_same s x (y ∷ l) e =
    elim (ltb x.time y.time) as (λ t. without s (cond t (x ∷ y ∷ l) (y ∷ in_turn x l)) ≡ without s (y ∷ l))
    [ true ↦ cond-false _ _ _ (other_no s x e) | false ↦ ap (λ m. cond (other s y) (y ∷ m) m) (without_same s x l e) ]

abbrev pub Rises : List OrderRecord → Type 0
Rises [] = Unit {0}
Rises (x ∷ l) = Each (λ y. x.time ≤ y.time) l × Rises l

each_without : (P : OrderRecord → Type 0) (s : ℕ) (l : List OrderRecord) → Each P l → Each P (without s l)
each_without P s [] h = tt
each_without P s (x ∷ l) h =
    let rest = each_without P s l h.1 in
    elim (other s x) as (λ t. Each P (cond t (x ∷ without s l) (without s l))) [ true ↦ (h.0, rest) | false ↦ rest ]

rises_turn : (x : OrderRecord) (l : List OrderRecord) → Rises l → Rises (in_turn x l)
rises_turn x [] h = (tt, tt)
rises_turn x (y ∷ l) h =
    cond_both (ltb x.time y.time) (x ∷ y ∷ l) (y ∷ in_turn x l) Rises
    (λ e. let lt = ltb-true x.time y.time e in ((omega arith, each_weaker (λ z. y.time ≤ z.time) (λ z. x.time ≤ z.time) (λ z k. omega arith) l h.0), h))
    (λ e. let le = ltb-false x.time y.time e in (each_turn (λ z. y.time ≤ z.time) x l le h.0, rises_turn x l h.1))

pub rises_sequence : (os : Orders) → Rises (in_sequence os)
unfolding in_sequence
rises_sequence [] = tt
rises_sequence (None ∷ os) = rises_sequence os
rises_sequence (Some o ∷ os) = rises_turn o (in_sequence os) (rises_sequence os)

pub turn_first : (x : OrderRecord) (l : List OrderRecord) → Each (λ y. x.time < y.time) l → in_turn x l ≡ x ∷ l
turn_first x [] h = refl
turn_first x (y ∷ l) h = cond-true _ _ _ (lt-ltb x.time y.time h.0)

without_turn : (s : ℕ) (x : OrderRecord) (l : List OrderRecord) → (x.time ≡ s → ⊥) → Rises l → without s (in_turn x l) ≡ in_turn x (without s l)
without_turn s x [] ne h = cond-true _ _ _ (other_yes s x ne)
without_turn s x (y ∷ l) ne h =
    let w = without s l in
    cond_both (ltb x.time y.time) (x ∷ y ∷ l) (y ∷ in_turn x l) (λ m. without s m ≡ in_turn x (without s (y ∷ l)))
    (λ e.
    let lt = ltb-true x.time y.time e in
    let above : Each (λ z. x.time < z.time) (y ∷ l) = (lt, each_weaker (λ z. y.time ≤ z.time) (λ z. x.time < z.time) (λ z k. omega arith) l h.0) in
    cond-true _ _ _ (other_yes s x ne) ∙ sym (turn_first x (without s (y ∷ l)) (each_without (λ z. x.time < z.time) s (y ∷ l) above)))
    (λ e.
    ap (λ m. cond (other s y) (y ∷ m) m) (without_turn s x l ne h.1)
    ∙ (elim (other s y) as (λ t. cond t (y ∷ in_turn x w) (in_turn x w) ≡ in_turn x (cond t (y ∷ w) w)) [ true ↦ sym (cond-false _ _ _ e) | false ↦ refl ]))

taken_out : (os : Orders) (i s : ℕ) → i < length os → rests_at os i ≡ true → (record_at os i).time ≡ s
    → Others (λ x. x.time ≡ s → ⊥) os i → in_sequence (set os i None) ≡ without s (in_sequence os)
unfolding in_sequence
taken_out [] i s lt was same h = absurd (omega arith)
taken_out (None ∷ os) zero s lt was same h = cc
taken_out (Some x ∷ os) zero s lt was same h =
    let rest = in_sequence os in
    sym (without_none s rest (each_live (λ y. y.time ≡ s → ⊥) os h)) ∙ sym (without_same s x rest same)
taken_out (None ∷ os) (suc i) s lt was same h = taken_out os i s (omega arith) was same h
taken_out (Some x ∷ os) (suc i) s lt was same h =
    ap (in_turn x) (taken_out os i s (omega arith) was same h.1) ∙ sym (without_turn s x (in_sequence os) h.0 (rises_sequence os))

-- From places to the records of the table.

pub live_from : (P : OrderRecord → Type 0) (os : Orders) → ((k : ℕ) → k < length os → rests_at os k ≡ true → P (record_at os k)) → Live P os
live_from P [] h = tt
live_from P (None ∷ os) h = live_from P os (λ k lt. h (suc k) (omega arith))
live_from P (Some x ∷ os) h = (h 0 (omega arith) refl, live_from P os (λ k lt. h (suc k) (omega arith)))

others_from : (P : OrderRecord → Type 0) (os : Orders) (i : ℕ) → ((k : ℕ) → k < length os → (k ≡ i → ⊥) → rests_at os k ≡ true → P (record_at os k)) → Others P os i
others_from P [] i h = tt
others_from P (x ∷ os) zero h = live_from P os (λ k lt. h (suc k) (omega arith) (λ e. omega arith))
others_from P (None ∷ os) (suc i) h = others_from P os i (λ k lt ne. h (suc k) (omega arith) (λ e. ne (omega arith)))
others_from P (Some x ∷ os) (suc i) h = (h 0 (omega arith) (λ e. omega arith) refl, others_from P os i (λ k lt ne. h (suc k) (omega arith) (λ e. ne (omega arith))))

-- With no timestamp twice the sequence rises strictly.

abbrev pub Climbs : List OrderRecord → Type 0
Climbs [] = Unit {0}
Climbs (x ∷ l) = Each (λ y. x.time < y.time) l × Climbs l

abbrev Apart : Orders → Type 0
Apart [] = Unit {0}
Apart (None ∷ os) = Apart os
Apart (Some o ∷ os) = Live (λ x. x.time ≡ o.time → ⊥) os × Apart os

climbs_turn : (x : OrderRecord) (l : List OrderRecord) → Each (λ y. y.time ≡ x.time → ⊥) l → Climbs l → Climbs (in_turn x l)
climbs_turn x [] a h = (tt, tt)
climbs_turn x (y ∷ l) a h =
    cond_both (ltb x.time y.time) (x ∷ y ∷ l) (y ∷ in_turn x l) Climbs
    (λ e. let lt = ltb-true x.time y.time e in ((lt, each_weaker (λ z. y.time < z.time) (λ z. x.time < z.time) (λ z k. omega arith) l h.0), h))
    (λ e. let le = ltb-false x.time y.time e in let ne = a.0 in let lt : y.time < x.time = omega arith in (each_turn (λ z. y.time < z.time) x l lt h.0, climbs_turn x l a.1 h.1))

climbs_apart : (os : Orders) → Apart os → Climbs (in_sequence os)
unfolding in_sequence
climbs_apart [] a = tt
climbs_apart (None ∷ os) a = climbs_apart os a
climbs_apart (Some o ∷ os) a = climbs_turn o (in_sequence os) (each_live (λ x. x.time ≡ o.time → ⊥) os a.0) (climbs_apart os a.1)

apart_from : (os : Orders) → Distinct os → Apart os
apart_from [] h = tt
apart_from (None ∷ os) h = apart_from os (λ j k lj lk uj uk same. let e = h (suc j) (suc k) (omega arith) (omega arith) uj uk same in omega arith)
apart_from (Some o ∷ os) h = (
  live_from (λ x. x.time ≡ o.time → ⊥) os (λ k lt also same. let e = h (suc k) 0 (omega arith) (omega arith) also refl same in omega arith),
  apart_from os (λ j k lj lk uj uk same. let e = h (suc j) (suc k) (omega arith) (omega arith) uj uk same in omega arith),
)

pub climbs : (os : Orders) → Distinct os → Climbs (in_sequence os)
climbs os d = climbs_apart os (apart_from os d)

-- As many records are earlier in the table as in its sequence.

abbrev pub one : OrderRecord → ℕ → ℕ
one r t = cond (ltb r.time t) 1 0

-- how many records of a list have a timestamp below t
abbrev pub before : List OrderRecord → ℕ → ℕ
before [] t = 0
before (x ∷ l) t = one x t + before l t

earlier_turn : (r : OrderRecord) (l : List OrderRecord) (t : ℕ) → before (in_turn r l) t ≡ one r t + before l t
earlier_turn r [] t = refl
earlier_turn r (x ∷ l) t =
    cond_both (ltb r.time x.time) (r ∷ x ∷ l) (x ∷ in_turn r l) (λ m. before m t ≡ one r t + (one x t + before l t))
    (λ e. refl) (λ e. let rest = earlier_turn r l t in omega arith)

pub earlier_sequence : (os : Orders) (t : ℕ) → before (in_sequence os) t ≡ earlier os t
unfolding in_sequence
earlier_sequence [] t = refl
earlier_sequence (None ∷ os) t = earlier_sequence os t
earlier_sequence (Some o ∷ os) t = earlier_turn o (in_sequence os) t ∙ ap (λ n. one o t + n) (earlier_sequence os t)

pub one_yes : (r : OrderRecord) (t : ℕ) → r.time < t → one r t ≡ 1
one_yes r t lt = cond-true _ _ _ (lt-ltb r.time t lt)

pub one_no : (r : OrderRecord) (t : ℕ) → t ≤ r.time → one r t ≡ 0
one_no r t le = cond-false _ _ _ (le-ltb r.time t le)

pub earlier_none : (l : List OrderRecord) (t : ℕ) → Each (λ y. t ≤ y.time) l → before l t ≡ 0
earlier_none [] t h = refl
earlier_none (x ∷ l) t h = let a = one_no x t h.0 in let b = earlier_none l t h.1 in omega arith

-- At its count of earlier ones stands the record itself.

abbrev pub On : OrderRecord → List OrderRecord → Type 0
On y [] = ⊥
On y (x ∷ l) = (y ≡ x) ⊎ On y l

pub each_on : (P : OrderRecord → Type 0) (l : List OrderRecord) (y : OrderRecord) → Each P l → On y l → P y
each_on P [] y h m = absurd m
each_on P (x ∷ l) y h m = ⊎_elim (λ e. subst P (sym e) h.0) (λ n. each_on P l y h.1 n) m

pub at_first : (x : OrderRecord) (l : List OrderRecord) (t : ℕ) → x.time ≡ t → Each (λ y. x.time < y.time) l → before (x ∷ l) t ≡ 0
at_first x l t e up = earlier_none (x ∷ l) t (omega arith, each_weaker (λ y. x.time < y.time) (λ y. t ≤ y.time) (λ y lt. omega arith) l up)

pub at_later : (x : OrderRecord) (l : List OrderRecord) (t : ℕ) → x.time < t → before (x ∷ l) t ≡ suc (before l t)
at_later x l t lt = let a = one_yes x t lt in omega arith

swapped_is_set : (o : OrderRecord) (l : List OrderRecord) (y : OrderRecord) → Climbs l → On y l → y.time ≡ o.time → swapped o l ≡ set l (before l o.time) o
swapped_is_set o [] y up m same = absurd m
swapped_is_set o (x ∷ l) y up m same =
    ⊎_elim
    (λ e.
    let is : x.time ≡ o.time = ap (λ (z : OrderRecord). z.time) (sym e) ∙ same in
    (λ j. cond-true _ o x (eq-eqb x.time o.time is) j ∷ swap_none o l (each_weaker (λ z. x.time < z.time) (λ z. z.time ≡ o.time → ⊥) (λ z lt k. omega arith) l up.0) j)
    ∙ ap (λ k. set (x ∷ l) k o) (sym (at_first x l o.time is up.0)))
    (λ n.
    let lt : x.time < o.time = omega (arith, each_on (λ z. x.time < z.time) l y up.0 n, same) in
    (λ j. cond-false _ o x (ne_eqb x.time o.time (λ k. omega arith)) j ∷ swapped_is_set o l y up.1 n same j)
    ∙ ap (λ k. set (x ∷ l) k o) (sym (at_later x l o.time lt)))
    m

without_is_removed : (s : ℕ) (l : List OrderRecord) (y : OrderRecord) → Climbs l → On y l → y.time ≡ s → without s l ≡ remove l (before l s)
without_is_removed s [] y up m same = absurd m
without_is_removed s (x ∷ l) y up m same =
    ⊎_elim
    (λ e.
    let is : x.time ≡ s = ap (λ (z : OrderRecord). z.time) (sym e) ∙ same in
    cond-false _ _ _ (other_no s x is)
    ∙ without_none s l (each_weaker (λ z. x.time < z.time) (λ z. z.time ≡ s → ⊥) (λ z lt k. omega arith) l up.0)
    ∙ ap (λ k. remove (x ∷ l) k) (sym (at_first x l s is up.0)))
    (λ n.
    let lt : x.time < s = omega (arith, each_on (λ z. x.time < z.time) l y up.0 n, same) in
    cond-true _ _ _ (other_yes s x (λ k. omega arith))
    ∙ ap (λ m. x ∷ m) (without_is_removed s l y up.1 n same)
    ∙ ap (λ k. remove (x ∷ l) k) (sym (at_later x l s lt)))
    m

on_turn_new : (x : OrderRecord) (l : List OrderRecord) → On x (in_turn x l)
on_turn_new x [] = inl refl
on_turn_new x (y ∷ l) = elim (ltb x.time y.time) as (λ t. On x (cond t (x ∷ y ∷ l) (y ∷ in_turn x l))) [ true ↦ inl refl | false ↦ inr (on_turn_new x l) ]

on_turn : (x z : OrderRecord) (l : List OrderRecord) → On z l → On z (in_turn x l)
on_turn x z [] h = absurd h
on_turn x z (y ∷ l) h =
    elim (ltb x.time y.time) as (λ t. On z (cond t (x ∷ y ∷ l) (y ∷ in_turn x l)))
    [ true ↦ inr h | false ↦ ⊎_elim (λ e. inl e) (λ m. inr (on_turn x z l m)) h ]

pub on_sequence : (os : Orders) (i : ℕ) → i < length os → rests_at os i ≡ true → On (record_at os i) (in_sequence os)
unfolding in_sequence
on_sequence [] i lt on = absurd (omega arith)
on_sequence (None ∷ os) zero lt on = cc
on_sequence (Some o ∷ os) zero lt on = on_turn_new o (in_sequence os)
on_sequence (None ∷ os) (suc i) lt on = on_sequence os i (omega arith) on
on_sequence (Some o ∷ os) (suc i) lt on = on_turn o (record_at os i) (in_sequence os) (on_sequence os i (omega arith) on)

live_set : (P : OrderRecord → Type 0) (os : Orders) (i : ℕ) → Live P os → Live P (set os i None)
live_set P [] i h = tt
live_set P (None ∷ os) zero h = h
live_set P (Some x ∷ os) zero h = h.1
live_set P (None ∷ os) (suc i) h = live_set P os i h
live_set P (Some x ∷ os) (suc i) h = (h.0, live_set P os i h.1)

-- A record written at a free place with the next timestamp.
pub entered : (os : Orders) (i : ℕ) (o : OrderRecord) → i < length os → rests_at os i ≡ false
    → Older o.time os → in_sequence (set os i (Some o)) ≡ in_sequence os ++ (o ∷ [])
entered os i o within free older = added os i o within free (live_from (λ x. x.time < o.time) os older)

-- A write at the place of a record, by its rank.
module _ (os : Orders) (i : ℕ) (within : i < length os) (was : rests_at os i ≡ true) (apart : Distinct os) where
  alone : Others (λ x. x.time ≡ (record_at os i).time → ⊥) os i
  alone = others_from (λ x. x.time ≡ (record_at os i).time → ⊥) os i (λ k lt ne on same. ne (apart k i lt within on was same))

  pub changed : (o : OrderRecord) → o.time ≡ (record_at os i).time → in_sequence (set os i (Some o)) ≡ set (in_sequence os) (rank os i) o
  changed o same =
      let s = in_sequence os in
      swapped_in os i o within was (sym same) (subst (λ t. Others (λ x. x.time ≡ t → ⊥) os i) (sym same) alone)
      ∙ swapped_is_set o s (record_at os i) (climbs os apart) (on_sequence os i within was) (sym same)
      ∙ ap (λ k. set s k o) (earlier_sequence os o.time ∙ ap (earlier os) same)

  pub gone : in_sequence (set os i None) ≡ remove (in_sequence os) (rank os i)
  gone =
      let s = in_sequence os in
      let t = (record_at os i).time in
      taken_out os i t within was refl alone
      ∙ without_is_removed t s (record_at os i) (climbs os apart) (on_sequence os i within was) refl
      ∙ ap (remove s) (earlier_sequence os t)

  pub renewed : (o : OrderRecord) → Older o.time os → in_sequence (set os i (Some o)) ≡ remove (in_sequence os) (rank os i) ++ (o ∷ [])
  renewed o older =
      let free = set os i None in
      let long : i < length free = simp length-set within in
      ap in_sequence (sym (set-set os i None (Some o)))
      ∙ added free i o long (ap is_some (get_or-set_same os i None None within)) (live_set (λ x. x.time < o.time) os i (live_from (λ x. x.time < o.time) os older))
      ∙ ap (λ l. l ++ (o ∷ [])) gone
