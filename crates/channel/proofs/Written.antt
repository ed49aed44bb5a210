-- Frames one after another in bytes.
use Rattle.std.proofs.Common.{◌≡◌, ℕ, zero, suc, ◌+◌, ◌*◌, ◌≤◌, List, [], ◌∷◌, ◌++◌, length, take, drop, sym, ap, ◌∙◌, append-nil, suc-add, zero-add, arith, length-drop, take-append-drop, rules}
use borrow.Rule.Slice.PartMut.{put_mid, post_of}
use Rattle.std.proofs.lemmas.List.{take-append-le, drop-append-le, take_at, length-take-le, places}
use Rattle.channel.specs.Frames.{report_in, reports_in}

-- the reports of a front of n frames, and of what stands behind it
pub reports_append : (n m : ℕ) (front back : List ℕ) → length front ≡ n * 21 → reports_in (n + m) (front ++ back) ≡ reports_in n front ++ reports_in m back
reports_append zero m [] back h = ap (λ k. reports_in k back) (zero-add m)
reports_append zero m (x ∷ xs) back h = absurd (omega arith)
reports_append (suc n) m front back h =
    let long : 21 ≤ length front = omega arith in
    let rest : length (drop 21 front) ≡ n * 21 = length-drop 21 front ∙ omega arith in
    ap (λ k. reports_in k (front ++ back)) (suc-add n m)
    ∙ ap (λ b. report_in b ∷ reports_in (n + m) (drop 21 (front ++ back))) (take-append-le 21 front back long)
    ∙ ap (λ b. report_in (take 21 front) ∷ reports_in (n + m) b) (drop-append-le 21 front back long)
    ∙ ap (λ rs. report_in (take 21 front) ∷ rs) (reports_append n m (drop 21 front) back rest)

module _ (n k : ℕ) (b frame : List ℕ) (room : n * 21 + 21 ≤ length b) (long : length frame ≡ 21) where
  before : length (take (n * 21) b) ≡ n * 21
  before = length-take-le (n * 21) b (omega arith)

  -- the first n frames are those of the bytes before the place where the next goes
  pub reports_before : reports_in n (take (n * 21) b) ≡ reports_in n b
  reports_before =
      sym (append-nil _) ∙ sym (reports_append n 0 (take (n * 21) b) (drop (n * 21) b) before)
      ∙ ap (λ c. reports_in (n + 0) c) (take-append-drop (n * 21) b) ∙ ap (λ m. reports_in m b) (omega arith)

  one_frame : reports_in 1 (frame ++ post_of (n * 21) k b) ≡ report_in frame ∷ []
  one_frame = ap (λ c. report_in c ∷ []) (take_at frame _ 21 long)

  pub reports_more : reports_in (n + 1) (put_mid (n * 21) k b frame) ≡ reports_in n b ++ report_in frame ∷ []
  reports_more =
      reports_append n 1 (take (n * 21) b) (frame ++ post_of (n * 21) k b) before
      ∙ ap (λ rs. rs ++ reports_in 1 (frame ++ post_of (n * 21) k b)) reports_before
      ∙ ap (λ rs. reports_in n b ++ rs) one_frame

  pub length_written : k ≡ 21 → length (put_mid (n * 21) k b frame) ≡ length b
  length_written e = search (rules, places)
