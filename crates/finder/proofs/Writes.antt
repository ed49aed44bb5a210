-- Writes that keep the cells sound, and what each key finds after them.
use Rattle.std.proofs.Common.{◌≡◌, ◌≢◌, ℕ, ◌+◌, ◌<◌, Bool, false, ◌⊎◌, cond, List, length, set, Some, None, Ok, Err, Decides, Option, Result, sym, refl, ap, ◌∙◌, subst, inl, inr, arith, length-set}
use Rattle.std.specs.Option.{is_some}
use Rattle.std.specs.Map.{update}
use Rattle.std.proofs.lemmas.List.{get_or-set_same, get_or-set_other}
use Rattle.std.proofs.lemmas.List.Sums.{sum_by-set, count_by-le-length}
use Rattle.std.proofs.lemmas.Bool.{cases_eq, cond_both}
use Rattle.cells.specs.Cells.{Cell, lookup, taken, at, gap, home, Rules, Sound, SoundBut}
use Rattle.cells.specs.Searching.{held, Sought}
use Rattle.finder.specs.Changes.{found, Inserted, Removed}
use Rattle.cells.proofs.Lookups.{free_not_used, one_key, lookup_none, lookup_some, lookup_set}

-- One place of f is another cell in f'.
module _ {K V : Type 0} (number : K → ℕ) (n : ℕ) (f f' : ℕ → Cell K V) (i : ℕ) (rest : (j : ℕ) → j ≢ i → f' j ≡ f j) where
  -- a key that stands nowhere else is written where its way leads; a place that was named may be used so
  pub rules_put : (P Q : ℕ → Type 0) → Rules number n P f → ((j : ℕ) → j ≢ i → (Q j → ⊥) → P j → ⊥) → (k : K) (v : V) → f' i ≡ Some (k, v)
      → ((j : ℕ) (w : V) → j ≢ i → f j ≢ Some (k, w))
      → ((j : ℕ) → j < n → gap n (home number n k) j < gap n (home number n k) i → j ≢ i → (Q j → ⊥) → f j ≢ None) → Rules number n Q f'
  rules_put P Q rules fewer k v here alone way = record { once = once; reached = reached }
    where
      mine : (x : ℕ) (q : K) (w : V) → f' x ≡ Some (q, w) → x ≡ i → q ≡ k
      mine x q w h e = one_key q k w v (sym h ∙ ap f' e ∙ here)

      once : (a b : ℕ) (q : K) (u w : V) → f' a ≡ Some (q, u) → f' b ≡ Some (q, w) → a ≡ b
      once a b q u w g h =
          elim (cases_eq a i) [
            | inl p ↦ elim (cases_eq b i) [
              | inl r ↦ p ∙ sym r
              | inr r ↦ absurd (alone b w r (sym (rest b r) ∙ h ∙ ap (λ x. Some (x, w)) (mine a q u g p)))
            ]
            | inr p ↦ elim (cases_eq b i) [
              | inl r ↦ absurd (alone a u p (sym (rest a p) ∙ g ∙ ap (λ x. Some (x, u)) (mine b q w h r)))
              | inr r ↦ rules.once a b q u w (sym (rest a p) ∙ g) (sym (rest b r) ∙ h)
            ]
          ]

      reached : (a j : ℕ) (q : K) (u : V) → f' a ≡ Some (q, u) → j < n → gap n (home number n q) j < gap n (home number n q) a → (Q j → ⊥) → f' j ≢ None
      reached a j q u g l s t h =
          let p : j ≢ i = λ x. free_not_used (f' j) k v h (ap f' x ∙ here) in
          elim (cases_eq a i) [
            | inl r ↦ way j l (rw (sym (mine a q u g r), ← r) s) p t (sym (rest j p) ∙ h)
            | inr r ↦ rules.reached a j q u (sym (rest a r) ∙ g) l s (fewer j p t) (sym (rest j p) ∙ h)
          ]

  -- a place is set free and named, as one that a way may lead over
  pub rules_hole : (P Q : ℕ → Type 0) → Rules number n P f → ((j : ℕ) → (Q j → ⊥) → P j → ⊥) → f' i ≡ None → Q i → Rules number n Q f'
  rules_hole P Q rules fewer here named = record { once = once; reached = reached }
    where
      apart : (x : ℕ) (q : K) (w : V) → f' x ≡ Some (q, w) → x ≢ i
      apart x q w h e = free_not_used (f' x) q w (ap f' e ∙ here) h

      once : (a b : ℕ) (q : K) (u w : V) → f' a ≡ Some (q, u) → f' b ≡ Some (q, w) → a ≡ b
      once a b q u w g h = rules.once a b q u w (sym (rest a (apart a q u g)) ∙ g) (sym (rest b (apart b q w h)) ∙ h)

      reached : (a j : ℕ) (q : K) (u : V) → f' a ≡ Some (q, u) → j < n → gap n (home number n q) j < gap n (home number n q) a → (Q j → ⊥) → f' j ≢ None
      reached a j q u g l s t h =
          let p : j ≢ i = λ x. t (subst Q (sym x) named) in
          rules.reached a j q u (sym (rest a (apart a q u g)) ∙ g) l s (fewer j t) (sym (rest j p) ∙ h)

module _ {K V : Type 0} (number : K → ℕ) (cs : List (Cell K V)) (i : ℕ) (within : i < length cs) (sound : Sound number cs) where
  pub sound_put : (k : K) (v : V) → ((j : ℕ) (w : V) → j ≢ i → at cs j ≢ Some (k, w))
      → ((j : ℕ) → j < length cs → gap (length cs) (home number (length cs) k) j < gap (length cs) (home number (length cs) k) i → at cs j ≢ None) → Sound number (set cs i (Some (k, v)))
  sound_put k v alone way =
      subst (λ m. Rules number m (λ _. ⊥) (at (set cs i (Some (k, v))))) (sym (length-set cs i (Some (k, v))))
      (rules_put number (length cs) (at cs) (at (set cs i (Some (k, v)))) i (λ j h. get_or-set_other cs i j (Some (k, v)) None h)
      (λ _. ⊥) (λ _. ⊥) sound (λ j p q r. r) k v (get_or-set_same cs i (Some (k, v)) None within) alone (λ j l s p q. way j l s))

  pub sound_hole : SoundBut number i (set cs i None)
  sound_hole =
      subst (λ m. Rules number m (λ j. j ≡ i) (at (set cs i None))) (sym (length-set cs i None))
      (rules_hole number (length cs) (at cs) (at (set cs i None)) i (λ j h. get_or-set_other cs i j None None h)
      (λ _. ⊥) (λ j. j ≡ i) sound (λ j t x. x) (get_or-set_same cs i None None within) refl)

found_held : {K V : Type 0} (c : Cell K V) → found (held c) ≡ cond (is_some c) 1 0
found_held None = refl
found_held (Some x) = refl

module _ {K V : Type 0} (e : K → K → Bool) (dec : (x y : K) → Decides (e x y) (x ≡ y)) (number : K → ℕ) (cs : List (Cell K V)) (sound : Sound number cs) (k : K) where
  -- The place that a search for the key gave: its own, or the free one where the search ended.
  pub record Place (p : ℕ) : Type 0 where
    pub within : p < length cs
    pub value : held (at cs p) ≡ lookup e cs k
    pub own : (q : K) (w : V) → at cs p ≡ Some (q, w) → q ≡ k
    pub alone : (j : ℕ) (w : V) → at cs j ≡ Some (k, w) → j ≡ p
    pub way : (j : ℕ) → j < length cs → gap (length cs) (home number (length cs) k) j < gap (length cs) (home number (length cs) k) p → at cs j ≢ None

  pub place_here : (r : Result ℕ (Option ℕ)) → Sought e number cs k r → (p : ℕ) → r ≡ Ok p → Place p
  place_here r sought p is =
      let (low, (v, here, finds)) = subst (Sought e number cs k) is sought in
      record {
        within = low;
        value = ap held here ∙ sym finds;
        own = λ q w h. one_key q k w v (sym h ∙ here);
        alone = λ j w h. sound.once j p k w v h here;
        way = λ j l g. sound.reached p j k v here l g (λ x. x);
      }

  pub place_open : (r : Result ℕ (Option ℕ)) → Sought e number cs k r → (p : ℕ) → r ≡ Err (Some p) → Place p
  place_open r sought p is =
      let (low, free, none, way) = subst (Sought e number cs k) is sought in
      record {
        within = low;
        value = ap held free ∙ sym none;
        own = λ q w h. absurd (cc);
        alone = λ j w h. let some = lookup_some e dec cs j k w sound.once h in absurd (cc);
        way = way;
      }

  module _ (p : ℕ) (place : Place p) where
    apart : (q : K) → e k q ≡ false → k ≢ q
    apart q f x = let t = (dec k q).1 x in cc

    module _ (c : Cell K V) where
      there : at (set cs p c) p ≡ c
      there = get_or-set_same cs p c None place.within

      rest : (j : ℕ) → j ≢ p → at (set cs p c) j ≡ at cs j
      rest j ne = get_or-set_other cs p j c None ne

      -- where a key stands after the write
      stood : (a : ℕ) (q : K) (u : V) → at (set cs p c) a ≡ Some (q, u) → ((a ≡ p) × (c ≡ Some (q, u))) ⊎ ((a ≢ p) × (at cs a ≡ Some (q, u)))
      stood a q u g = elim (cases_eq a p) [ inl x ↦ inl (x, sym there ∙ ap (at (set cs p c)) (sym x) ∙ g) | inr x ↦ inr (x, sym (rest a x) ∙ g) ]

      counted : taken (set cs p c) + found (held (at cs p)) ≡ taken cs + cond (is_some c) 1 0
      counted = omega (arith, sum_by-set (λ x. cond (is_some x) 1 0) cs p c None place.within, found_held (at cs p))

    module _ (v : V) where
      pub put_sound : Sound number (set cs p (Some (k, v)))
      put_sound = sound_put number cs p place.within sound k v (λ j w ne h. ne (place.alone j w h)) place.way

      put_finds : (q : K) → lookup e (set cs p (Some (k, v))) q ≡ update e (lookup e cs) k (Some v) q
      put_finds q =
          cond_both (e k q) (Some v) (lookup e cs q) (λ x. lookup e (set cs p (Some (k, v))) q ≡ x)
          (λ t. lookup_some e dec (set cs p (Some (k, v))) p q v put_sound.once (there (Some (k, v)) ∙ ap (λ x. Some (x, v)) ((dec k q).0 t)))
          (λ t. lookup_set e dec cs p (Some (k, v)) q (λ w g. apart q t (sym (place.own q w g))) (λ w g. apart q t (one_key k q v w g)))

      pub put_inserted : (old : Option V) → old ≡ held (at cs p) → Inserted e cs k v (Ok old) (set cs p (Some (k, v)))
      put_inserted old is =
          let count = counted (Some (k, v)) in (
            is ∙ place.value,
            put_finds,
            omega (arith, count, ap found is),
            λ none. omega (arith, count, ap found is, ap found none, count_by-le-length is_some (set cs p (Some (k, v))), length-set cs p (Some (k, v))),
          )

    stood_still : (a : ℕ) (q : K) (u : V) → at (set cs p None) a ≡ Some (q, u) → (a ≢ p) × (at cs a ≡ Some (q, u))
    stood_still a q u g = elim (stood None a q u g) [ inl x ↦ absurd (cc) | inr x ↦ x ]

    -- the key's place is set free
    pub hole_sound : SoundBut number p (set cs p None)
    hole_sound = sound_hole number cs p place.within sound

    hole_finds : (q : K) → lookup e (set cs p None) q ≡ update e (lookup e cs) k None q
    hole_finds q =
        cond_both (e k q) None (lookup e cs q) (λ x. lookup e (set cs p None) q ≡ x)
        (λ t. lookup_none e dec (set cs p None) q (λ i w g. let (ne, h) = stood_still i q w g in let same = (dec k q).0 t in ne (place.alone i w (cc))))
        (λ t. lookup_set e dec cs p None q (λ w g. apart q t (sym (place.own q w g))) (λ w g. cc))

    -- and the cells behind it are drawn up
    pub hole_removed : (old : Option V) (ds : List (Cell K V)) → old ≡ held (at cs p) → ((q : K) → lookup e ds q ≡ lookup e (set cs p None) q) → taken ds ≡ taken (set cs p None) → Removed e cs k old ds
    hole_removed old ds is finds count =
        (is ∙ place.value, λ q. finds q ∙ hole_finds q, omega (arith, count, counted None, ap found is))
