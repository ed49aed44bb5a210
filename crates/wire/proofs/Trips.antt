-- Frames written and read, and read and written, for any form of frame.
use Rattle.std.proofs.Common.{◌≡◌, ℕ, ◌+◌, ◌<◌, ◌≤◌, Bool, cond, eqb, List, [], ◌∷◌, ◌++◌, length, get_or, take, drop, Some, None, Ok, Err, Option, Result, sym, refl, ap, ◌∙◌, arith, rules, length-append, take-append-drop}
use Rattle.std.proofs.lemmas.List.{drop_at}
use Rattle.std.proofs.lemmas.Bool.Decides.{nat_tests}
use Rattle.faults.specs.declared.layers.FrameFault.{FrameFault}
use Rattle.faults.specs.declared.layers.FrameFault.TheVariants as fault
use Rattle.wire.specs.Layouts.{Width, be16, size, bytes, total, fields, laid, Fit, Bytes}
use Rattle.wire.specs.Reading.{header, announced, framed, head_of, Form, form_of, version_check, formed, after, found, read_at, read, read_by}
use Rattle.wire.proofs.Laws.{laid_again, read_again}

head_is : (b : List ℕ) (n : ℕ) → be16 b 0 ≡ n → 4 ≤ length b → n + 2 ≤ length b → head_of b ≡ Ok (Some n)
head_is b n e h k = grind (arith, nat_tests)

version_is : (b : List ℕ) (n : ℕ) → 2 ≤ n → get_or b 2 0 ≡ 1 → version_check b n ≡ Ok tt
version_is b n h e = grind (arith, nat_tests)

formed_is : {A : Type 0} (n : ℕ) (v : A) → formed n (Some (record { length = n; value = v })) ≡ Ok v
formed_is n v = grind (arith, nat_tests)

-- a whole frame of the form that its bytes ask for is read as what the form says
pub read_whole : {A : Type 0} (form : Option (Form A)) (v : A) (n : ℕ) (b : List ℕ)
    → be16 b 0 ≡ n → get_or b 2 0 ≡ 1 → 2 ≤ n → n + 2 ≤ length b → form ≡ Some (record { length = n; value = v })
    → read form b ≡ record { answer = Ok (Some v); rest = drop (n + 2) b }
read_whole form v n b e u h k f =
    let l : 4 ≤ length b = omega arith in
    rw (head_is b n e l k, f, version_is b n h u, formed_is n v)

field_length : (w : Width) (n : ℕ) (more : List ℕ) → length (bytes w n more) ≡ size w + length more
field_length w n more = grind arith

laid_length : (ws : List Width) (vs : List ℕ) → Fit ws vs → length (laid ws vs) ≡ total ws
laid_length [] vs f = refl
laid_length (w ∷ ws) [] f = absurd f
laid_length (w ∷ ws) (v ∷ vs) f = field_length w v (laid ws vs) ∙ ap (λ n. size w + n) (laid_length ws vs f.1)

-- what stands in the bytes of a frame
pub record Stands (code : ℕ) (ws : List Width) (vs b : List ℕ) : Type 0 where
  pub length_is : be16 b 0 ≡ announced ws
  pub version : get_or b 2 0 ≡ 1
  pub kind : get_or b 3 0 ≡ code
  pub numbers : fields ws b 4 ≡ vs

header_fits : (code : ℕ) (ws : List Width) (vs : List ℕ) → code < 256 → announced ws < 65536 → Fit ws vs → Fit (header ws) (announced ws ∷ 1 ∷ code ∷ vs)
header_fits code ws vs c a f = (a, (omega arith, (c, f)))

pub stands : (code : ℕ) (ws : List Width) (vs more : List ℕ) → code < 256 → announced ws < 65536 → Fit ws vs → Stands code ws vs (framed code ws vs ++ more)
stands code ws vs more c a f =
    let b : List ℕ = framed code ws vs ++ more in
    let e : be16 b 0 ∷ get_or b 2 0 ∷ get_or b 3 0 ∷ fields ws b 4 ≡ announced ws ∷ 1 ∷ code ∷ vs
    = read_again (header ws) (announced ws ∷ 1 ∷ code ∷ vs) [] more (header_fits code ws vs c a f) in
    record { length_is = cc; version = cc; kind = cc; numbers = cc }

-- a frame in front of more is read as its form says, and leaves the more
pub framed_reads : {A : Type 0} (form : Option (Form A)) (v : A) (code : ℕ) (ws : List Width) (vs more : List ℕ)
    → code < 256 → announced ws < 65536 → Fit ws vs → form ≡ Some (record { length = announced ws; value = v })
    → read form (framed code ws vs ++ more) ≡ record { answer = Ok (Some v); rest = more }
framed_reads form v code ws vs more c a f e =
    let s = stands code ws vs more c a f in
    let p : length (framed code ws vs) ≡ announced ws + 2
    = laid_length (header ws) (announced ws ∷ 1 ∷ code ∷ vs) (header_fits code ws vs c a f) ∙ omega arith in
    let l : announced ws + 2 ≤ length (framed code ws vs ++ more) = omega (arith, length-append (framed code ws vs) more) in
    let t : 2 ≤ announced ws = omega arith in
    let r = read_whole form v (announced ws) (framed code ws vs ++ more) s.length_is s.version t l e in
    let d = drop_at (framed code ws vs) more (announced ws + 2) p in
    rw d at r

-- what is known of bytes that were read as a frame
pub record Was {A : Type 0} (form : Option (Form A)) (v : A) (n : ℕ) (b : List ℕ) : Type 0 where
  pub length_is : be16 b 0 ≡ n
  pub long : n + 2 ≤ length b
  pub version : get_or b 2 0 ≡ 1
  pub form_is : form ≡ Some (record { length = n; value = v })
  pub rest : (read form b).rest ≡ drop (n + 2) b

same_form : {A : Type 0} (t : Bool) (f : Form A) (n : ℕ) (v : A) → eqb n f.length ≡ t → found (cond t (Ok f.value) (Err fault.Length)) ≡ Ok (Some v)
    → ◌≡◌ {A = Option (Form A)} (Some f) (Some (record { length = n; value = v }))
same_form t f n v e h = grind (arith, nat_tests)

form_was : {A : Type 0} (c : Result (Unit {0}) FrameFault) (form : Option (Form A)) (n : ℕ) (v : A) → found (after c (formed n form)) ≡ Ok (Some v)
    → (c ≡ Ok tt) × (form ≡ Some (record { length = n; value = v }))
form_was (Ok tt) (Some f) n v e = (refl, same_form (eqb n f.length) f n v refl e)
form_was (Ok tt) None n v e = search rules
form_was (Err x) form n v e = search rules

head_was : (b : List ℕ) (n : ℕ) → head_of b ≡ Ok (Some n) → (be16 b 0 ≡ n) × (n + 2 ≤ length b)
head_was b n e = (grind (arith, nat_tests), grind (arith, nat_tests))

version_was : (b : List ℕ) (n : ℕ) → version_check b n ≡ Ok tt → get_or b 2 0 ≡ 1
version_was b n e = grind (arith, nat_tests)

pub was_read : {A : Type 0} (form : Option (Form A)) (v : A) (b : List ℕ) → (read form b).answer ≡ Ok (Some v) → (n : ℕ) × Was form v n b
was_read form v b e = go (head_of b) refl e
  where
    go : (h : Result (Option ℕ) FrameFault) → head_of b ≡ h → (read_at form b h).answer ≡ Ok (Some v) → (n : ℕ) × Was form v n b
    go (Ok None) e r = search rules
    go (Err f) e r = search rules
    go (Ok (Some n)) e r =
        let t = form_was (version_check b n) form n v r in
        let h = head_was b n e in
        (n, record { length_is = h.0; long = h.1; version = version_was b n t.0; form_is = t.1; rest = ap (λ (x : Result (Option ℕ) FrameFault). (read_at form b x).rest) e })

-- bytes that stand as a frame's are the frame and what is behind it
pub stood : (code : ℕ) (ws : List Width) (vs b : List ℕ) → Bytes b → Stands code ws vs b → announced ws + 2 ≤ length b → b ≡ framed code ws vs ++ drop (announced ws + 2) b
stood code ws vs b a s l =
    let h : 0 + total (header ws) ≤ length b = omega arith in
    let m : laid (header ws) (be16 b 0 ∷ get_or b 2 0 ∷ get_or b 3 0 ∷ fields ws b 4) ≡ take (total (header ws)) b = laid_again (header ws) b 0 a h in
    let t : total (header ws) ≡ announced ws + 2 = omega arith in
    let n : be16 b 0 ∷ get_or b 2 0 ∷ get_or b 3 0 ∷ fields ws b 4 ≡ announced ws ∷ 1 ∷ code ∷ vs = cc (s.length_is, s.version, s.kind, s.numbers) in
    let f : framed code ws vs ≡ take (announced ws + 2) b = sym (ap (laid (header ws)) n) ∙ m ∙ ap (λ k. take k b) t in
    sym (take-append-drop (announced ws + 2) b) ∙ ap (λ (x : List ℕ). x ++ drop (announced ws + 2) b) (sym f)

-- a form that is known is that of its kind
kind_was : {K A : Type 0} (length : K → ℕ) (says : List ℕ → K → A) (b : List ℕ) (o : Option K) (n : ℕ) (v : A)
    → form_of length says b o ≡ Some (record { length = n; value = v }) → (k : K) × ((o ≡ Some k) × ((n ≡ length k) × (says b k ≡ v)))
kind_was length says b None n v e = search rules
kind_was {A = A} length says b (Some k) n v e =
    let g : ◌≡◌ {A = Form A} (record { length = length k; value = says b k }) (record { length = n; value = v }) = cc in
    (k, (refl, (sym (ap (λ (x : Form A). x.length) g), ap (λ (x : Form A). x.value) g)))

-- Frames of any kinds: what is written in front of more is read again, and leaves the more.
pub reads_again : {K A : Type 0} (kind : ℕ → Option K) (code : K → ℕ) (layout : K → List Width) (says : List ℕ → K → A) (v : A) (k : K) (vs more : List ℕ)
    → kind (code k) ≡ Some k → code k < 256 → announced (layout k) < 65536 → Fit (layout k) vs → ((b : List ℕ) → fields (layout k) b 4 ≡ vs → says b k ≡ v)
    → read_by kind (λ i. announced (layout i)) says (framed (code k) (layout k) vs ++ more) ≡ record { answer = Ok (Some v); rest = more }
reads_again {K} {A} kind code layout says v k vs more o c a fit is =
    let b : List ℕ = framed (code k) (layout k) vs ++ more in
    let st = stands (code k) (layout k) vs more c a fit in
    let known : kind (get_or b 3 0) ≡ Some k = ap kind st.kind ∙ o in
    let form : form_of (λ i. announced (layout i)) says b (kind (get_or b 3 0)) ≡ Some (record { length = announced (layout k); value = v })
    = ap (form_of (λ i. announced (layout i)) says b) known ∙ ap (λ (x : A). Some (record { length = announced (layout k); value = x })) (is b st.numbers) in
    framed_reads (form_of (λ i. announced (layout i)) says b (kind (get_or b 3 0))) v (code k) (layout k) vs more c a fit form

-- What is read was written as what it says, in front of what is left.
pub reads_back : {K A : Type 0} (kind : ℕ → Option K) (code : K → ℕ) (layout : K → List Width) (says : List ℕ → K → A) (kind_in : A → K) (numbers : A → List ℕ)
    → ((n : ℕ) (k : K) → kind n ≡ Some k → n ≡ code k) → ((b : List ℕ) (k : K) → kind_in (says b k) ≡ k) → ((b : List ℕ) (k : K) → fields (layout k) b 4 ≡ numbers (says b k))
    → (b : List ℕ) (v : A) → Bytes b → (read_by kind (λ i. announced (layout i)) says b).answer ≡ Ok (Some v)
    → b ≡ framed (code (kind_in v)) (layout (kind_in v)) (numbers v) ++ (read_by kind (λ i. announced (layout i)) says b).rest
reads_back kind code layout says kind_in numbers told kind_at numbers_at b v a e =
    let (n, w) = was_read (form_of (λ i. announced (layout i)) says b (kind (get_or b 3 0))) v b e in
    let (k, (o, (l, is))) = kind_was (λ i. announced (layout i)) says b (kind (get_or b 3 0)) n v w.form_is in
    let p : k ≡ kind_in v = sym (kind_at b k) ∙ ap kind_in is in
    let s : Stands (code k) (layout k) (numbers v) b
    = record { length_is = w.length_is ∙ l; version = w.version; kind = told (get_or b 3 0) k o; numbers = numbers_at b k ∙ ap numbers is } in
    let r = stood (code k) (layout k) (numbers v) b a s (omega (arith, w.long, l)) in
    rw (w.rest, l, ← p) r
