-- Numbers one after another in bytes, each big-endian in a field of one, two or four bytes.
use Rattle.std.specs.Prelude.{◌≡◌, ℕ, ◌+◌, ◌*◌, ◌/◌, ◌%◌, ◌<◌, ◌≤◌, List, [], ◌∷◌, ◌++◌, length, take, drop, slice_index}
use Rattle.std.specs.List.{AllByRecursion}

-- the number of two bytes, and of four, from the place i on
abbrev pub be16 : List ℕ → ℕ → ℕ
be16 b i = slice_index b i * 256 + slice_index b (i + 1)

abbrev pub be32 : List ℕ → ℕ → ℕ
be32 b i = slice_index b i * 16777216 + slice_index b (i + 1) * 65536 + slice_index b (i + 2) * 256 + slice_index b (i + 3)

pub data Width : Type 0 where
  one : Width
  two : Width
  four : Width

abbrev pub size : Width → ℕ
size one = 1
size two = 2
size four = 4

-- what fits a field is below this
abbrev pub limit : Width → ℕ
limit one = 256
limit two = 65536
limit four = 4294967296

-- the number of the field that begins at i
abbrev pub number : Width → List ℕ → ℕ → ℕ
number one b i = slice_index b i
number two b i = be16 b i
number four b i = be32 b i

-- a number's bytes, in front of more
abbrev pub bytes : Width → ℕ → List ℕ → List ℕ
bytes one n more = n ∷ more
bytes two n more = (n / 256 % 256) ∷ (n % 256) ∷ more
bytes four n more = (n / 16777216 % 256) ∷ (n / 65536 % 256) ∷ (n / 256 % 256) ∷ (n % 256) ∷ more

abbrev pub total : List Width → ℕ
total [] = 0
total (w ∷ ws) = size w + total ws

-- the numbers that stand in bytes from the place i on
abbrev pub fields : List Width → List ℕ → ℕ → List ℕ
fields [] b i = []
fields (w ∷ ws) b i = number w b i ∷ fields ws b (i + size w)

-- numbers laid into bytes
abbrev pub laid : List Width → List ℕ → List ℕ
laid [] vs = []
laid (w ∷ ws) [] = []
laid (w ∷ ws) (v ∷ vs) = bytes w v (laid ws vs)

-- as many numbers as fields, each fitting its own
abbrev pub Fit : List Width → List ℕ → Type 0
Fit [] [] = Unit {0}
Fit [] (v ∷ vs) = ⊥
Fit (w ∷ ws) [] = ⊥
Fit (w ∷ ws) (v ∷ vs) = (v < limit w) × Fit ws vs

abbrev pub Bytes : List ℕ → Type 0
Bytes b = AllByRecursion (λ x. x < 256) b

-- A layout holds its numbers: what is read and laid again is what stood there, and what is laid and read again is what was laid.
pub record Layouts : Type 0 where
  pub laid_again : (ws : List Width) (b : List ℕ) (i : ℕ) → Bytes b → i + total ws ≤ length b → laid ws (fields ws b i) ≡ take (total ws) (drop i b)
  pub read_again : (ws : List Width) (vs before more : List ℕ) → Fit ws vs → fields ws (before ++ (laid ws vs ++ more)) (length before) ≡ vs
