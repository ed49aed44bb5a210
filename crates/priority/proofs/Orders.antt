-- Under a lawful rule the slices stand in one order for each active order. Assumes nothing.
use Rattle.std.proofs.Common.{◌≡◌, Bool, true, false, sym, refl, ap, ◌∙◌}
use Rattle.std.specs.Cmp.{IsTotalOrder}
use Rattle.std.specs.declared.cmp.Ordering.{Ordering}
use Rattle.std.specs.declared.cmp.Ordering.TheVariants.{Less, Equal, Greater}
use Rattle.std.specs.Ordering.{is_lt, is_gt, ordering_reverse}
use Rattle.std.proofs.lemmas.Bool.{both_ways}
use Rattle.std.proofs.lemmas.Cmp.{alike_right}
use Rattle.priority.specs.declared.SliceFacts.{SliceFacts}
use Rattle.priority.specs.declared.Taker.{Taker}
use Rattle.priority.specs.Priority.{Rule, Lawful}

one_test : (b c : Bool) → (b ≡ false → c ≡ false) → (c ≡ false → b ≡ false) → b ≡ c
one_test false c f g = sym (f refl)
one_test true false f g = g refl
one_test true true f g = refl

one_answer : (x y : Ordering) → is_gt x ≡ is_gt y → is_gt (ordering_reverse x) ≡ is_gt (ordering_reverse y) → x ≡ y
one_answer Less Less h k = refl
one_answer Less Equal h k = cc
one_answer Less Greater h k = cc
one_answer Equal Less h k = cc
one_answer Equal Equal h k = refl
one_answer Equal Greater h k = cc
one_answer Greater Less h k = cc
one_answer Greater Equal h k = cc
one_answer Greater Greater h k = refl

module _ (rule : Rule) (law : Lawful rule) (a : Taker) where
  chained : (s t u : SliceFacts) → rule a s t ≡ Less → rule a t u ≡ Less → rule a s u ≡ Less
  chained s t u h k = go (rule a s u) refl
    where
      go : (x : Ordering) → rule a s u ≡ x → x ≡ Less
      go Less e = refl
      go Equal e =
          let not_behind = law.not_behind a u s t (ap is_gt (law.swap a s u ∙ ap ordering_reverse e)) (ap is_gt h) in
          absurd (both_ways (is_gt (rule a u t)) not_behind (ap is_gt (law.swap a t u ∙ ap ordering_reverse k)))
      go Greater e = absurd (both_ways (is_gt (rule a s u)) (law.not_behind a s t u (ap is_gt h) (ap is_gt k)) (ap is_gt e))

  alike : (s t u : SliceFacts) → rule a s t ≡ Equal → rule a s u ≡ rule a t u
  alike s t u e =
      let back : rule a t s ≡ Equal = law.swap a s t ∙ ap ordering_reverse e in
      one_answer (rule a s u) (rule a t u)
      (one_test (is_gt (rule a s u)) (is_gt (rule a t u)) (law.not_behind a t s u (ap is_gt back)) (law.not_behind a s t u (ap is_gt e)))
      (ap is_gt (sym (law.swap a s u)) ∙ one_test (is_gt (rule a u s)) (is_gt (rule a u t)) (λ h. law.not_behind a u s t h (ap is_gt e)) (λ h. law.not_behind a u t s h (ap is_gt back)) ∙ ap is_gt (law.swap a t u))

  pub lawful_order : IsTotalOrder (rule a)
  lawful_order = record { antisymm = λ s t. law.swap a t s; trans = chained; congr = alike }

-- Before one that is not behind a third is before that one.
pub before_upto : {K : Type 0} {R : K → K → Ordering} → IsTotalOrder R → (x y z : K) → R x y ≡ Less → is_gt (R y z) ≡ false → R x z ≡ Less
before_upto {K} {R} o x y z h k = go (R y z) refl k
  where
    go : (r : Ordering) → R y z ≡ r → is_gt r ≡ false → R x z ≡ Less
    go Less e k = o.trans x y z h e
    go Equal e k = sym (alike_right o y z x e) ∙ h
    go Greater e k = absurd (both_ways true k refl)

pub is_less : (x : Ordering) → is_lt x ≡ true → x ≡ Less
is_less Less h = refl
is_less Equal h = cc
is_less Greater h = cc

pub not_less : {K : Type 0} {R : K → K → Ordering} → IsTotalOrder R → (x y : K) → is_lt (R x y) ≡ false → is_gt (R y x) ≡ false
not_less {K} {R} o x y h = ap is_gt (o.antisymm y x) ∙ turned (R x y) h
  where
    turned : (r : Ordering) → is_lt r ≡ false → is_gt (ordering_reverse r) ≡ false
    turned Less h = cc
    turned Equal h = refl
    turned Greater h = refl
