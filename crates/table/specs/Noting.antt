-- What the journal says of a table and its spare copy.
use Rattle.std.specs.Prelude.{◌≡◌, ℕ, ◌<◌, ◌≤◌, List, [], ◌∷◌, length, Option, take, drop, slice_set, All}
use Rattle.std.specs.Option.{ForSome}
use Rattle.table.specs.declared.records.OrderRecord.{OrderRecord}
use Rattle.table.specs.declared.journals.NotedPlaces.{NotedPlaces}
use Rattle.table.specs.declared.journals.Journal.{Journal}
use Rattle.table.specs.Sequence.{Orders, place_at}

-- The table `to` with what `from` has at each of the places.
abbrev pub patched : Orders → Orders → List ℕ → Orders
patched to from [] = to
patched to from (i ∷ is) = patched (slice_set to i (place_at from i)) from is

-- The places noted.
abbrev pub noted : NotedPlaces → List ℕ
noted v = take v.count v.places

-- A table t of n places and its spare s differ at most at the places noted, or, where there was no room for one, below the high mark.
pub record Agree (n : ℕ) (j : Journal) (t s : Orders) : Type 0 where
  pub room : ForSome j.noted (λ v. v.count ≤ 128)
  pub inside : ForSome j.noted (λ v. All (λ i. i < n) (noted v))
  pub ahead : ForSome j.noted (λ v. patched s t (noted v) ≡ t)
  pub back : ForSome j.noted (λ v. patched t s (noted v) ≡ s)
  pub high : j.high ≤ n
  pub above : drop j.high t ≡ drop j.high s

-- From j to j' a write at the place i is noted: whatever table and spare agreed before do so after it.
abbrev pub Follows : ℕ → Journal → Journal → Type 0
Follows i j j' = (n : ℕ) (t s : Orders) (o : Option OrderRecord) → i < n → length t ≡ n → Agree n j t s → Agree n j' (slice_set t i o) s

-- From the table t with the journal j to t' with j' every write was noted: whatever spare agreed before does so after.
abbrev pub Moved : Orders → Journal → Orders → Journal → Type 0
Moved t j t' j' = (s : Orders) → Agree (length t) j t s → Agree (length t) j' t' s
