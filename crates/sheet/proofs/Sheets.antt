-- Writing to a sheet. Assumes nothing.
use Rattle.std.proofs.Common.{◌≡◌, ℕ, zero, suc, ◌+◌, ◌-◌, min, List, [], ◌∷◌, ◌++◌, length, set, drop, replicate, refl, sym, ap, ◌∙◌, subst, append_assoc, append-nil, add-zero, arith, length-set, length-append}
use Rattle.std.proofs.Math.Nat.{sub-zero, suc-sub-suc}
use Rattle.std.proofs.lemmas.List.{replicate-append-replicate, drop_min}
use Rattle.types.specs.declared.reports.Report.{Report}
use Rattle.types.specs.Reports.{blank}
use Rattle.sheet.specs.declared.EventSheet.{EventSheet}
use Rattle.sheet.specs.Sheets.{sheet_of, Holds, SamePlaces, Adds, BlankBeyond}

-- Places of reports and blanks.

blanks : (n : ℕ) → replicate n blank ≡ sheet_of n []
unfolding sheet_of
blanks zero = refl
blanks (suc n) = ap (λ (z : List Report). blank ∷ z) (blanks n)

places : (n : ℕ) (list : List Report) → length (sheet_of n list) ≡ n
unfolding sheet_of
places zero list = refl
places (suc n) [] = ap suc (places n [])
places (suc n) (r ∷ list) = ap suc (places n list)

pub write_next : (n : ℕ) (list : List Report) (r : Report) → set (sheet_of n list) (length list) r ≡ sheet_of n (list ++ r ∷ [])
unfolding sheet_of
write_next zero [] r = refl
write_next zero (x ∷ list) r = refl
write_next (suc n) [] r = refl
write_next (suc n) (x ∷ list) r = ap (λ (z : List Report). x ∷ z) (write_next n list r)

beyond : (n : ℕ) (list : List Report) → drop (length list) (sheet_of n list) ≡ sheet_of (n - length list) []
unfolding sheet_of
beyond zero [] = refl
beyond zero (x ∷ list) = let none : 0 - suc (length list) ≡ 0 = omega arith in rw none refl
beyond (suc n) [] = ap (λ (k : ℕ). sheet_of k []) (sym (sub-zero (suc n)))
beyond (suc n) (x ∷ list) = beyond n list ∙ ap (λ (k : ℕ). sheet_of k []) (sym (suc-sub-suc n (length list)))

-- A sheet with blanks over what was written is blank.
pub emptied : (s : EventSheet) (n : ℕ) (sheet : List Report) → BlankBeyond s → n ≡ min s.count (length s.reports.now)
    → sheet ≡ replicate n blank ++ drop n s.reports.now → sheet ≡ sheet_of (length sheet) []
emptied s n sheet h e is =
    let old : List Report = s.reports.now in
    let back : drop n old ≡ replicate (length old - s.count) blank = ap (λ (k : ℕ). drop k old) e ∙ drop_min s.count old ∙ h ∙ sym (blanks _) in
    let all : sheet ≡ sheet_of (length old) [] =
    is ∙ ap (λ (z : List Report). replicate n blank ++ z) back ∙ replicate-append-replicate _ _ blank ∙ ap (λ (k : ℕ). replicate k blank) (omega arith)
    ∙ blanks _ in
    all ∙ ap (λ (k : ℕ). sheet_of k []) (sym (ap length all ∙ places _ []))

-- A sheet that holds a call's reports is blank beyond them.
pub blank_beyond : {s : EventSheet} {list : List Report} → Holds s list → BlankBeyond s
blank_beyond {s = s} {list = list} h =
    ap (λ (z : List Report). drop s.count z) h.written ∙ ap (λ (z : ℕ). drop z (sheet_of (length s.reports.now) list)) h.counted
    ∙ beyond (length s.reports.now) list ∙ ap (λ (z : ℕ). sheet_of (length s.reports.now - z) []) (sym h.counted)

-- Reports that come onto a sheet.

pub stays : (s : EventSheet) → SamePlaces s s
stays s = record { places = refl; lent = refl }

pub stays_more : {s t u : EventSheet} → SamePlaces s t → SamePlaces t u → SamePlaces s u
stays_more f g = record { places = g.places ∙ f.places; lent = g.lent ∙ f.lent }

pub adds_none : (s : EventSheet) → Adds s s []
adds_none s = record { holds = λ list h. subst (Holds s) (sym (append-nil list)) h; counted = sym (add-zero s.count); same = stays s }

pub adds_one : (s t : EventSheet) (r : Report) → t.reports.now ≡ set s.reports.now s.count r → t.count ≡ s.count + 1
    → t.reports.ghost_name ≡ s.reports.ghost_name → Adds s t (r ∷ [])
adds_one s t r e n l =
    let long : length t.reports.now ≡ length s.reports.now = ap length e ∙ length-set s.reports.now s.count r in
    record {
      holds = λ list h. record {
        counted = omega (arith, h.counted, length-append list (r ∷ []));
        written =
            e ∙ ap (λ (z : List Report). set z s.count r) h.written ∙ ap (λ (z : ℕ). set (sheet_of (length s.reports.now) list) z r) h.counted
            ∙ write_next (length s.reports.now) list r ∙ ap (λ (z : ℕ). sheet_of z (list ++ r ∷ [])) (sym long);
      };
      counted = n;
      same = record { places = long; lent = l };
    }

-- reports behind those that came
pub adds_more : {s t u : EventSheet} {xs ys : List Report} → Adds s t xs → Adds t u ys → Adds s u (xs ++ ys)
adds_more {u = u} {xs = xs} {ys = ys} f g = record {
  holds = λ list h. subst (Holds u) (append_assoc list xs ys) (g.holds (list ++ xs) (f.holds list h));
  counted = omega (arith, length-append xs ys);
  same = stays_more f.same g.same;
}

-- the same reports, told otherwise
pub adds_same : {s t : EventSheet} {xs ys : List Report} → xs ≡ ys → Adds s t xs → Adds s t ys
adds_same {s = s} {t = t} e f = subst (Adds s t) e f
