-- The table lent out of the slice and come back.
use Rattle.std.proofs.Common.{◌≡◌, ℕ, ◌+◌, ◌-◌, ◌<◌, ◌++◌, length, map, take, drop, set, Option, sym, ap, ◌∙◌, subst, arith, length-append, length-drop, length-set, length-take-le, take_at, drop-set-lt, drop_at}
use Rattle.std.proofs.Math.Seq.{take-set-lt}
use Rattle.std.specs.Option.{option_map}
use Rattle.table.specs.declared.records.OrderRecord.{OrderRecord}
use Rattle.table.specs.declared.journals.Journal.{Journal}
use Rattle.table.specs.Sequence.{Orders}
use Rattle.table.specs.Noting.{Agree, Follows, Moved}
use Rattle.guard.specs.Keeping.{Kept}
use Rattle.guard.specs.Renumbering.{ranked, renumbered}

-- A table that went on with its writes noted, before the spare.
pub kept_front : (n : ℕ) (all new : Orders) (j j' : Journal) → Kept n all j → length new ≡ length (take n all)
    → Moved (take n all) j new j' → Kept n (new ++ drop n all) j'
kept_front n all new j j' k same m =
    let both = k.halves in
    let long : length (take n all) ≡ n = length-take-le n all (omega arith) in
    let size : length new ≡ n = same ∙ long in
    let a : Agree n j' new (drop n all) = subst (λ v. Agree v j' new (drop n all)) long
    (m (drop n all) (subst (λ v. Agree v j (take n all) (drop n all)) (sym long) k.agree)) in
    record {
      halves = simp (length-append, length-drop) (omega arith);
      small = k.small;
      agree = subst (λ t. Agree n j' t (drop n (new ++ drop n all))) (sym (take_at new (drop n all) n size))
          (subst (λ s. Agree n j' new s) (sym (drop_at new (drop n all) n size)) a);
    }

-- with the bounds as the code has them in `all[0..n]`
pub kept_part : (n : ℕ) (all new : Orders) (j j' : Journal) → Kept n all j → length new ≡ length (take (n - 0) all)
    → Moved (take (n - 0) all) j new j' → Kept n (new ++ drop (n - 0) all) j'
kept_part n all new j j' k =
    let same : n ≡ n - 0 = omega arith in
    subst (λ v. length new ≡ length (take v all) → Moved (take v all) j new j' → Kept n (new ++ drop v all) j') same
    (kept_front n all new j j' k)

-- One place of the table written to and noted.
pub kept_put : (n : ℕ) (all : Orders) (j j' : Journal) (i : ℕ) (o : Option OrderRecord) → i < n
    → Follows i j j' → Kept n all j → Kept n (set all i o) j'
kept_put n all j j' i o h f k =
    let both = k.halves in
    record {
      halves = both ∙ sym (length-set all i o);
      small = k.small;
      agree = subst (λ t. Agree n j' t (drop n (set all i o))) (sym (take-set-lt n all i o h))
          (subst (λ s. Agree n j' (set (take n all) i o) s) (sym (drop-set-lt n all i o h))
          (f n (take n all) (drop n all) o h (length-take-le n all (omega arith)) k.agree));
    }

-- What stands in the two halves then.
module _ (n : ℕ) (all new : Orders) (both : n + n ≡ length all) (same : length new ≡ length (take (n - 0) all)) where
  size : length new ≡ n
  size = let whole : n - 0 ≡ n = omega arith in same ∙ ap (λ v. length (take v all)) whole ∙ length-take-le n all (omega arith)

  pub part_table : take n (new ++ drop (n - 0) all) ≡ new
  part_table = take_at new (drop (n - 0) all) n size

  pub part_spare : drop n (new ++ drop (n - 0) all) ≡ drop n all
  part_spare = let whole : n - 0 ≡ n = omega arith in drop_at new (drop (n - 0) all) n size ∙ ap (λ v. drop v all) whole

pub part_lent : (n : ℕ) (all : Orders) → take (n - 0) all ≡ take n all
part_lent n all = let whole : n - 0 ≡ n = omega arith in ap (λ v. take v all) whole

-- The two halves taken apart, with the first renumbered.
pub part_renumbered : (n : ℕ) (all table spare new : Orders) → n + n ≡ length all → table ≡ take n all → spare ≡ drop n all → drop n all ≡ take n all → length new ≡ length table
    → new ≡ map (option_map (ranked spare)) table → take n (new ++ spare) ≡ renumbered (take n all)
part_renumbered n all table spare new both front back same long is =
    take_at new spare n (long ∙ ap length front ∙ length-take-le n all (omega arith)) ∙ is ∙ (λ j. map (option_map (ranked ((back ∙ same) j))) (front j))
