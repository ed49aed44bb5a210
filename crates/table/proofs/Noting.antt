-- A write that is noted keeps table and spare agreed.
use Rattle.std.proofs.Common.{◌≡◌, ℕ, ◌+◌, ◌-◌, ◌<◌, ◌≤◌, List, [], ◌∷◌, ◌++◌, length, max, drop, set, Some, None, Option, sym, ap, ◌∙◌, subst, arith, drop-drop, drop-set-lt}
use Rattle.std.specs.List.{All}
use Rattle.std.proofs.lemmas.List.Elements.{All-push}
use Rattle.table.specs.declared.records.OrderRecord.{OrderRecord}
use Rattle.table.specs.declared.journals.NotedPlaces.{NotedPlaces}
use Rattle.table.specs.declared.journals.Journal.{Journal}
use Rattle.table.specs.Sequence.{Orders}
use Rattle.table.specs.Noting.{patched, noted, Agree, Follows, Moved}
use Rattle.table.proofs.Patching.{noted_ahead, noted_back}

above_more : (h r i : ℕ) (t s : Orders) (o : Option OrderRecord) → h ≤ r → i < r → drop h t ≡ drop h s → drop r (set t i o) ≡ drop r s
above_more h r i t s o le lt e =
    let far : h + (r - h) ≡ r = omega arith in
    drop-set-lt r t i o lt
    ∙ sym (drop-drop (r - h) h t ∙ ap (λ k. drop k t) far)
    ∙ ap (drop (r - h)) e
    ∙ (drop-drop (r - h) h s ∙ ap (λ k. drop k s) far)

module _ (j : Journal) (i r : ℕ) (beyond : r ≡ max j.high (i + 1)) where
  pub noted_one : (v w : NotedPlaces) → j.noted ≡ Some v → w.count ≤ 128 → noted w ≡ noted v ++ (i ∷ []) → Follows i j (record { noted = Some w; high = r })
  noted_one v w was small more n t s o h long a =
      let here : i < length t = omega arith in
      record {
        room = λ x e. let same : w ≡ x = cc in subst (λ (y : NotedPlaces). y.count ≤ 128) same small;
        inside = here_too (λ ps. All (λ p. p < n) ps) (All-push (λ p. p < n) (noted v) i (a.inside v was) h);
        ahead = here_too (λ ps. patched s (set t i o) ps ≡ set t i o) (noted_ahead s t (noted v) i o here (a.ahead v was));
        back = here_too (λ ps. patched (set t i o) s ps ≡ s) (noted_back s t (noted v) i o (a.back v was));
        high = omega (arith, a.high);
        above = above_more j.high r i t s o (omega arith) (omega arith) a.above;
      }
    where
      here_too : (P : List ℕ → Type 0) → P (noted v ++ (i ∷ [])) → (x : NotedPlaces) → Some w ≡ Some x → P (noted x)
      here_too P holds x e = let same : w ≡ x = cc in subst (λ (y : NotedPlaces). P (noted y)) same (subst P (sym more) holds)

  pub noted_none : (m : Option NotedPlaces) → m ≡ None → Follows i j (record { noted = m; high = r })
  noted_none m none n t s o h long a =
      record {
        room = λ v e. absurd cc;
        inside = λ v e. absurd cc;
        ahead = λ v e. absurd cc;
        back = λ v e. absurd cc;
        high = omega (arith, a.high);
        above = above_more j.high r i t s o (omega arith) (omega arith) a.above;
      }

pub moved_none : (t : Orders) (j : Journal) → Moved t j t j
moved_none t j s a = a

pub moved_both : (t t' t'' : Orders) (j j' j'' : Journal) → length t ≡ length t' → Moved t j t' j' → Moved t' j' t'' j'' → Moved t j t'' j''
moved_both t t' t'' j j' j'' long f g s a =
    subst (λ n. Agree n j'' t'' s) (sym long) (g s (subst (λ n. Agree n j' t' s) long (f s a)))
