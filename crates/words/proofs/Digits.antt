-- A number in four digits.
use Rattle.std.proofs.Common.{◌≡◌, ◌∙◌, ℕ, ◌+◌, ◌-◌, ◌/◌, ◌%◌, ◌^◌, ◌<◌, ◌≤◌, false, List, [], ◌∷◌, ◌++◌, ⊎_elim, arith}
use Rattle.std.specs.Fmt.{decimal, padded_integral, format_spec, char_count}
use Rattle.std.proofs.lemmas.Bool.{cases_lt}
use Rattle.std.proofs.lemmas.Fmt.{decimal_digit, decimal_step}

two : (n : ℕ) → 10 ≤ n → n < 100 → decimal n ≡ (48 + n / 10) ∷ (48 + n % 10) ∷ []
two n low high = rw (decimal_step n low (omega arith), decimal_digit (n / 10) (omega arith))

three : (n : ℕ) → 100 ≤ n → n < 1000 → decimal n ≡ (48 + n / 10 / 10) ∷ (48 + n / 10 % 10) ∷ (48 + n % 10) ∷ []
three n low high = rw (decimal_step n (omega arith) (omega arith), two (n / 10) (omega arith) (omega arith))

four : (n : ℕ) → 1000 ≤ n → n < 10000 → decimal n ≡ (48 + n / 10 / 10 / 10) ∷ (48 + n / 10 / 10 % 10) ∷ (48 + n / 10 % 10) ∷ (48 + n % 10) ∷ []
four n low high = rw (decimal_step n (omega arith) (omega arith), three (n / 10) (omega arith) (omega arith))

-- What a format of four places with zeros in front shows.
abbrev shown : ℕ → List ℕ
shown n = padded_integral (format_spec 32 0 4 4 (2 ^ 64 - 1)) false [] (decimal n)

abbrev digits : ℕ → List ℕ
digits n = (48 + n / 1000) ∷ (48 + n / 100 % 10) ∷ (48 + n / 10 % 10) ∷ (48 + n % 10) ∷ []

shown-one : (n : ℕ) → n < 10 → shown n ≡ digits n
unfolding padded_integral char_count
shown-one n small =
    let a : n / 1000 ≡ 0 = omega arith in
    let b : n / 100 % 10 ≡ 0 = omega arith in
    let c : n / 10 % 10 ≡ 0 = omega arith in
    let d : n % 10 ≡ n = omega arith in
    rw (decimal_digit n small, a, b, c, d)

shown-two : (n : ℕ) → 10 ≤ n → n < 100 → shown n ≡ digits n
unfolding padded_integral char_count
shown-two n low high =
    let a : n / 1000 ≡ 0 = omega arith in
    let b : n / 100 % 10 ≡ 0 = omega arith in
    let c : n / 10 % 10 ≡ n / 10 = omega arith in
    rw (two n low high, a, b, c)

shown-three : (n : ℕ) → 100 ≤ n → n < 1000 → shown n ≡ digits n
unfolding padded_integral char_count
shown-three n low high =
    let a : n / 1000 ≡ 0 = omega arith in
    let b : n / 100 % 10 ≡ n / 10 / 10 = omega arith in
    rw (three n low high, a, b)

shown-four : (n : ℕ) → 1000 ≤ n → n < 10000 → shown n ≡ digits n
unfolding padded_integral char_count
shown-four n low high =
    let a : n / 1000 ≡ n / 10 / 10 / 10 = omega arith in
    let b : n / 100 % 10 ≡ n / 10 / 10 % 10 = omega arith in
    rw (four n low high, a, b)

shown-digits : (n : ℕ) → n < 10000 → shown n ≡ digits n
shown-digits n small = ⊎_elim (shown-one n)
    (λ a. ⊎_elim (shown-two n a) (λ b. ⊎_elim (shown-three n b) (λ c. shown-four n c small) (cases_lt n 1000)) (cases_lt n 100)) (cases_lt n 10)

-- The last four digits, as that format shows them and one by one.
pub four_decimals : (n : ℕ)
    → padded_integral (format_spec 32 0 4 4 (2 ^ 64 - 1)) false [] (decimal (n % 10000)) ≡ decimal (n / 1000 % 10) ++ (decimal (n / 100 % 10) ++ (decimal (n / 10 % 10) ++ decimal (n % 10)))
four_decimals n =
    let p = decimal_digit (n / 1000 % 10) (omega arith) in
    let q = decimal_digit (n / 100 % 10) (omega arith) in
    let r = decimal_digit (n / 10 % 10) (omega arith) in
    let s = decimal_digit (n % 10) (omega arith) in
    let a : n % 10000 / 1000 ≡ n / 1000 % 10 = omega arith in
    let b : n % 10000 / 100 % 10 ≡ n / 100 % 10 = omega arith in
    let c : n % 10000 / 10 % 10 ≡ n / 10 % 10 = omega arith in
    let d : n % 10000 % 10 ≡ n % 10 = omega arith in
    shown-digits (n % 10000) (omega arith) ∙ rw (p, q, r, s, a, b, c, d)
