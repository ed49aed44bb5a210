-- The way round a ring of n places.
use Rattle.std.proofs.Common.{◌≡◌, ◌≢◌, ℕ, ◌+◌, ◌<◌, ◌≤◌, arith}
use Rattle.std.proofs.lemmas.Bool.Decides.{nat_tests}
use Rattle.cells.specs.Cells.{gap, after}

pub gap_below : (n h j : ℕ) → h < n → j < n → gap n h j < n
gap_below n h j a b = grind (arith, nat_tests)

pub gap_same : (n h : ℕ) → gap n h h ≡ 0
gap_same n h = grind (arith, nat_tests)

pub gap_once : (n h j p : ℕ) → h < n → j < n → p < n → gap n h j ≡ gap n h p → j ≡ p
gap_once n h j p a b c e = grind (arith, nat_tests)

pub gap_once_to : (n h j p : ℕ) → h < n → j < n → p < n → gap n j h ≡ gap n p h → j ≡ p
gap_once_to n h j p a b c e = grind (arith, nat_tests)

pub gap_next : (n h p : ℕ) → h < n → p < n → gap n h p + 1 < n → gap n h (after n p) ≡ gap n h p + 1
gap_next n h p a b c = grind (arith, nat_tests)

-- one place nearer
pub gap_nearer : (n j h : ℕ) → j < n → h < n → j ≢ h → gap n (after n j) h + 1 ≡ gap n j h
gap_nearer n j h a b c = grind (arith, nat_tests)

-- from the next place all the way round
pub gap_round : (n j a : ℕ) → j < n → a < n → gap n a j ≤ gap n (after n j) j
gap_round n j a b c = grind (arith, nat_tests)

-- that way is one place less than the ring
pub gap_whole : (n h : ℕ) → h < n → gap n (after n h) h + 1 ≡ n
gap_whole n h a = grind (arith, nat_tests)

pub gap_apart : (n a h : ℕ) → a < n → h < n → a ≢ h → 0 < gap n a h
gap_apart n a h b c d = grind (arith, nat_tests)

pub next_below : (n p : ℕ) → p < n → after n p < n
next_below n p a = grind (arith, nat_tests)

-- from h over the hole o, on over q, to a
pub gap_over : (n h o q a : ℕ) → h < n → o < n → q < n → a < n → gap n h o < gap n h a → gap n o q < gap n o a → gap n h q < gap n h a
gap_over n h o q a b c d f x y = grind (arith, nat_tests)

-- what is nearer to o behind is farther from it before
pub gap_turned : (n o q a : ℕ) → o < n → q < n → a < n → q ≢ o → a ≢ o → gap n a o < gap n q o → gap n o q < gap n o a
gap_turned n o q a b c d e f g = grind (arith, nat_tests)

-- behind h, what is nearer to h is nearer to the next place
pub gap_sooner : (n h x a : ℕ) → h < n → x < n → a < n → x ≢ h → gap n h x < gap n h a → gap n (after n h) x < gap n (after n h) a
gap_sooner n h x a b c d e f = grind (arith, nat_tests)
