-- What ties a channel to what it was before some puts, beside its list and its space.
use Rattle.std.specs.Prelude.{◌≡◌, List, [], ◌++◌, refl}
use Rattle.std.proofs.Common.{sym, ap, ◌∙◌, append-nil, append_assoc}
use Rattle.types.specs.declared.reports.Report.{Report}

-- The tie holds of a channel that was left alone, and over any number of puts.
pub record Lasting {S : Type 0} (follows : S → S → Type 0) : Type 0 where
  pub stays : (x : S) → follows x x
  pub lasts : (x y z : S) → follows x y → follows y z → follows x z

-- a part that no put changes, as the memory that a channel writes to
pub same_by : {S N : Type 0} (part : S → N) → Lasting (λ (x y : S). part y ≡ part x)
same_by part = record { stays = λ x. refl; lasts = λ x y z h k. k ∙ h }

-- two lists have grown by the same reports
abbrev pub Alike : List Report → List Report → List Report → List Report → Type 0
Alike a b c d = (more : List Report) × (c ≡ a ++ more) × (d ≡ b ++ more)

alike_more : (a b c d e f : List Report) → Alike a b c d → Alike c d e f → Alike a b e f
alike_more a b c d e f (xs, p, q) (ys, u, v) =
    (xs ++ ys, u ∙ ap (λ l. l ++ ys) p ∙ append_assoc a xs ys, v ∙ ap (λ l. l ++ ys) q ∙ append_assoc b xs ys)

-- Of two channels each follows what it was, and their lists have grown by the same reports.
abbrev pub Both : {P Q : Type 0} → (P → P → Type 0) → (Q → Q → Type 0) → (P → List Report) → (Q → List Report) → P → Q → P → Q → Type 0
Both p q m n a b c d = p a c × q b d × Alike (m a) (n b) (m c) (n d)

pub both_last : {S P Q : Type 0} {p : P → P → Type 0} {q : Q → Q → Type 0} (f : S → P) (g : S → Q) (m : P → List Report) (n : Q → List Report)
    → Lasting p → Lasting q → Lasting (λ (x y : S). Both p q m n (f x) (g x) (f y) (g y))
both_last f g m n h k = record {
  stays = λ x. (h.stays (f x), k.stays (g x), ([], sym (append-nil (m (f x))), sym (append-nil (n (g x)))));
  lasts = λ x y z a b. (
    h.lasts (f x) (f y) (f z) a.0 b.0,
    k.lasts (g x) (g y) (g z) a.1 b.1,
    alike_more (m (f x)) (n (g x)) (m (f y)) (n (g y)) (m (f z)) (n (g z)) a.2 b.2,
  );
}
