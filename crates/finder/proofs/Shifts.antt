-- A key drawn up to a hole: the cells are sound but for the hole before and after.
use Rattle.std.proofs.Common.{◌≡◌, ◌≢◌, ℕ, ◌<◌, Bool, ◌⊎◌, List, length, set, Some, None, Decides, sym, ap, ◌∙◌, subst, inl, inr, arith, length-set}
use Rattle.std.specs.List.{SwappedAt}
use Rattle.std.specs.List.Sorted.{IsPermutation}
use Rattle.std.proofs.lemmas.List.{get_or-set_other}
use Rattle.std.proofs.lemmas.List.Sorted.{sum_by-IsPermutation}
use Rattle.std.proofs.lemmas.Nat.{mod_below}
use Rattle.std.proofs.lemmas.Bool.{cases_eq, cases_lt, cases_Bool}
use Rattle.cells.specs.Cells.{Cell, lookup, taken, at, gap, home, Rules, Sound, SoundBut}
use Rattle.finder.specs.Changes.{InRow, Follower}
use Rattle.cells.proofs.Rings.{gap_over}
use Rattle.cells.proofs.Lookups.{one_key, used_below, lookup_some, lookup_set}
use Rattle.cells.proofs.Counts.{away, off, weigh_set}

module _ {K V : Type 0} (e : K → K → Bool) (dec : (x y : K) → Decides (e x y) (x ≡ y)) (number : K → ℕ) (start : List (Cell K V)) where
  -- the cells at each step
  pub record Drawn (cs : List (Cell K V)) (hole : ℕ) : Type 0 where
    pub low : hole < length cs
    pub free : at cs hole ≡ None
    pub rules : SoundBut number hole cs
    pub finds : (q : K) → lookup e cs q ≡ lookup e start q
    pub count : taken cs ≡ taken start

  module _ (cs : List (Cell K V)) (hole : ℕ) (s : Drawn cs hole) where
    -- No way leads over the hole: it is a free place like any other.
    pub closed : Follower number hole cs None → Sound number cs
    closed none = record {
      once = s.rules.once;
      reached = λ a x k u h l g p.
          elim (cases_lt (gap (length cs) (home number (length cs) k) hole) (gap (length cs) (home number (length cs) k) a)) [
            | inl over ↦ (
                let low = used_below cs a k u h in
                let row : InRow hole cs a = λ y m ne r. s.rules.reached a y k u h m (gap_over (length cs) (home number (length cs) k) hole y a (mod_below (number k) (length cs) (omega arith)) s.low m low over r) ne in
                absurd (none a k u row h over))
            | inr b ↦ s.rules.reached a x k u h l g (λ c. omega (arith, ap (gap (length cs) (home number (length cs) k)) c))
          ];
    }

    module _ (p : ℕ) (follows : Follower number hole cs (Some p)) (ds : List (Cell K V)) (size : length ds ≡ length cs) (swapped : SwappedAt cs ds hole p) (permuted : IsPermutation cs ds) where
      abbrev k : K
      k = follows.2

      abbrev v : V
      v = follows.3

      here : at cs p ≡ Some (k, v)
      here = follows.4

      over : gap (length cs) (home number (length cs) k) hole < gap (length cs) (home number (length cs) k) p
      over = follows.5

      apart : p ≢ hole
      apart is = let f = s.free in cc here

      written : ds ≡ set (set cs hole (Some (k, v))) p None
      written = rw (here, s.free) at (swapped.3 None)

      kept : at (set cs hole (Some (k, v))) p ≡ Some (k, v)
      kept = get_or-set_other cs hole p (Some (k, v)) None apart ∙ here

      left_free : at ds p ≡ None
      left_free = swapped.1 None ∙ s.free

      came_here : at ds hole ≡ Some (k, v)
      came_here = swapped.0 None ∙ here

      -- where a key stood
      stood : (a : ℕ) (q : K) (u : V) → at ds a ≡ Some (q, u) → ((a ≡ hole) × (at cs p ≡ Some (q, u))) ⊎ ((a ≢ p) × (at cs a ≡ Some (q, u)))
      stood a q u g =
          elim (cases_eq a hole) [
            | inl b ↦ inl (b, sym (swapped.0 None) ∙ ap (at ds) (sym b) ∙ g)
            | inr b ↦ (let ne : a ≢ p = λ c. cc left_free in inr (ne, sym (swapped.2 a None b ne) ∙ g))
          ]

      moved : SoundBut number p ds
      moved = subst (λ m. Rules number m (λ x. x ≡ p) (at ds)) (sym size) (record {
        once = λ a b q u w g h.
            elim (stood a q u g) [
              | inl x ↦ elim (stood b q w h) [ inl y ↦ x.0 ∙ sym y.0 | inr y ↦ absurd (y.0 (s.rules.once b p q w u y.1 x.1)) ]
              | inr x ↦ elim (stood b q w h) [ inl y ↦ absurd (x.0 (s.rules.once a p q u w x.1 y.1)) | inr y ↦ s.rules.once a b q u w x.1 y.1 ]
            ];
        reached = λ a x q u g l t ne f.
            elim (cases_eq x hole) [
              | inl b ↦ cc came_here
              | inr b ↦ (
                  let was : at cs x ≡ None = sym (swapped.2 x None b ne) ∙ f in
                  elim (stood a q u g) [
                    | inl y ↦ (
                        let same : q ≡ k = one_key q k u v (sym y.1 ∙ here) in
                        let o : gap (length cs) (home number (length cs) q) hole < gap (length cs) (home number (length cs) q) p = rw same over in
                        s.rules.reached p x q u y.1 l (omega (arith, o, t, ap (gap (length cs) (home number (length cs) q)) y.0)) b was)
                    | inr y ↦ s.rules.reached a x q u y.1 l t b was
                  ])
            ];
      })

      -- each key finds what it found
      moved_finds : (q : K) → lookup e ds q ≡ lookup e cs q
      moved_finds q =
          elim (cases_Bool (e k q)) [
            | inl t ↦ (
                let same = (dec k q).0 t in
                subst (λ x. lookup e ds x ≡ lookup e cs x) same (lookup_some e dec ds hole k v moved.once came_here ∙ sym (lookup_some e dec cs p k v s.rules.once here)))
            | inr t ↦ (
                let other : (w : V) → ◌≢◌ {A = Cell K V} (Some (k, v)) (Some (q, w)) = λ w h. let y = (dec k q).1 (one_key k q v w h) in cc in
                ap (λ x. lookup e x q) written
                ∙ lookup_set e dec (set cs hole (Some (k, v))) p None q (λ w g. other w (sym kept ∙ g)) (λ w g. cc)
                ∙ lookup_set e dec cs hole (Some (k, v)) q (λ w g. let f = s.free in cc) other)
          ]

      pub drawn : Drawn ds p
      drawn = record {
        low = omega (arith, size, follows.0);
        free = left_free;
        rules = moved;
        finds = λ q. moved_finds q ∙ s.finds q;
        count = sum_by-IsPermutation _ cs ds permuted ∙ s.count;
      }

      -- the keys stand nearer to their homes, in all
      pub nearer : away number (length ds) ds < away number (length cs) cs
      nearer =
          let a = weigh_set (off number (length cs)) cs hole (Some (k, v)) s.low in
          let b = weigh_set (off number (length cs)) (set cs hole (Some (k, v))) p None (omega (arith, length-set cs hole (Some (k, v)), follows.0)) in
          rw (size, written) (omega (arith, a, b, ap (off number (length cs) hole) s.free, ap (off number (length cs) p) kept, over))
