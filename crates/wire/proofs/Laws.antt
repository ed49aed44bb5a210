-- The two laws of layouts, one field at a time.
use Rattle.std.proofs.Common.{◌≡◌, ℕ, zero, suc, ◌+◌, ◌*◌, ◌/◌, ◌%◌, ◌<◌, ◌≤◌, List, [], ◌∷◌, ◌++◌, length, get_or, take, drop, sym, refl, ap, ◌∙◌, append_assoc, add-one, arith, rules, length-append, drop-cons, get_or-append-add}
use lib.Seq.{get_or-append_seam}
use Rattle.std.proofs.lemmas.Nat.{shr-shr, div-add-mod'}
use Rattle.wire.specs.Layouts.{Width, one, two, four, size, limit, number, bytes, total, fields, laid, Fit, Bytes}

pub joined : (n : ℕ) → n < 4294967296 → n / 16777216 % 256 * 16777216 + n / 65536 % 256 * 65536 + n / 256 % 256 * 256 + n % 256 ≡ n
joined n h =
    let p : n / 65536 * 256 + n / 256 % 256 ≡ n / 256 = rw (← shr-shr n 8 8) (div-add-mod' (n / 256) 256) in
    let q : n / 16777216 * 256 + n / 65536 % 256 ≡ n / 65536 = rw (← shr-shr n 16 8) (div-add-mod' (n / 65536) 256) in
    let r : n / 16777216 % 256 ≡ n / 16777216 = omega arith in
    omega (arith, p, q, r)

pub split : (a b c d : ℕ) → a < 256 → b < 256 → c < 256 → d < 256 → (more : List ℕ)
    → bytes four (a * 16777216 + b * 65536 + c * 256 + d) more ≡ a ∷ b ∷ c ∷ d ∷ more
split a b c d ha hb hc hd more =
    grind arith

halves : (a b : ℕ) → a < 256 → b < 256 → (more : List ℕ) → bytes two (a * 256 + b) more ≡ a ∷ b ∷ more
halves a b ha hb more =
    grind arith

pub below : (b : List ℕ) → Bytes b → (i : ℕ) → get_or b i 0 < 256
below [] a i = search rules
below (x ∷ xs) a zero = a.0
below (x ∷ xs) a (suc i) = below xs a.1 i

-- the first of what is left
first : (b : List ℕ) (i n : ℕ) → i < length b → take (suc n) (drop i b) ≡ get_or b i 0 ∷ take n (drop (i + 1) b)
first b i n h = rw (add-one, drop-cons b i 0 h)

-- one field again: more is what follows it
again : (w : Width) (b : List ℕ) → Bytes b → (i n : ℕ) → i + (size w + n) ≤ length b
    → bytes w (number w b i) (take n (drop (i + size w) b)) ≡ take (size w + n) (drop i b)
again one b a i n h = grind (arith, first)
again two b a i n h = grind (arith, first, halves, below)
again four b a i n h =
    let w = split (get_or b i 0) (get_or b (i + 1) 0) (get_or b (i + 2) 0) (get_or b (i + 3) 0) (below b a i) (below b a (i + 1)) (below b a (i + 2)) (below b a (i + 3)) (take n (drop (i + 4) b)) in
    w ∙ grind (arith, first)

pub laid_again : (ws : List Width) (b : List ℕ) (i : ℕ) → Bytes b → i + total ws ≤ length b → laid ws (fields ws b i) ≡ take (total ws) (drop i b)
laid_again [] b i a h = refl
laid_again (w ∷ ws) b i a h =
    let k : i + size w + total ws ≤ length b = omega arith in
    ap (bytes w (number w b i)) (laid_again ws b (i + size w) a k) ∙ again w b a i (total ws) h

-- one field read where it was laid
found : (w : Width) (n : ℕ) (before more : List ℕ) → n < limit w → number w (before ++ bytes w n more) (length before) ≡ n
found one n before more h = get_or-append_seam before n more 0
found two n before more h = rw (get_or-append_seam, get_or-append-add) (omega arith)
found four n before more h = rw (get_or-append_seam, get_or-append-add, get_or-append-add, get_or-append-add) (joined n h)

-- what is laid first goes over to what came before
over : (w : Width) (n : ℕ) (laid more : List ℕ) → bytes w n laid ++ more ≡ bytes w n [] ++ (laid ++ more)
over w n laid more = search rules

ahead : (w : Width) (n : ℕ) (laid more : List ℕ) → bytes w n laid ++ more ≡ bytes w n (laid ++ more)
ahead w n laid more = search rules

long : (w : Width) (n : ℕ) → length (bytes w n []) ≡ size w
long w n = search rules

pub read_again : (ws : List Width) (vs before more : List ℕ) → Fit ws vs → fields ws (before ++ (laid ws vs ++ more)) (length before) ≡ vs
read_again [] [] before more f = refl
read_again [] (v ∷ vs) before more f = absurd f
read_again (w ∷ ws) [] before more f = absurd f
read_again (w ∷ ws) (v ∷ vs) before more f =
    let e : before ++ (bytes w v (laid ws vs) ++ more) ≡ (before ++ bytes w v []) ++ (laid ws vs ++ more)
    = ap (λ xs. before ++ xs) (over w v (laid ws vs) more) ∙ sym (append_assoc before (bytes w v []) (laid ws vs ++ more)) in
    let k : length (before ++ bytes w v []) ≡ length before + size w = length-append before (bytes w v []) ∙ ap (λ n. length before + n) (long w v) in
    let i = read_again ws vs (before ++ bytes w v []) more f.1 in
    let h : number w (before ++ (bytes w v (laid ws vs) ++ more)) (length before) ≡ v
    = rw (ahead w v (laid ws vs) more) (found w v before (laid ws vs ++ more) f.0) in
    let t : fields ws (before ++ (bytes w v (laid ws vs) ++ more)) (length before + size w) ≡ vs = rw (e, ← k) i in
    cc
